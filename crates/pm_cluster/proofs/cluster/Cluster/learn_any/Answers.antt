-- Of `Cluster::learn_any`: its clauses `mine` and `made`; what the calls of `children` and `learn` require; the turns of its loop over `child`.
use Rattle.std.proofs.Common.{arith, refl, sym, ap, subst, ◌∙◌, ◌≡◌, ℕ, length, Option, MatchOption, inl, inr}
use Rattle.std.proofs.lemmas.Bool.{cases_lt}
use Rattle.std.proofs.lemmas.Option.{MatchOption-at_none}
use Rattle.pm_tree.specs.Entries.{place_of}
use Rattle.pm_market.specs.Lists.{nodes, IsNode}
use Rattle.pm_market.specs.State.{State}
use Rattle.pm_market.specs.Moves.{Legal}
use Rattle.pm_market.specs.declared.moves.Move.{Move}
use Rattle.pm_market.specs.declared.moves.Move.TheVariants.{Learn}
use Rattle.pm_plan.specs.Kept.{IsPlan}
use Rattle.pm_plan.specs.Market.{plan_lists}
use Rattle.pm_stands.specs.Core.{Core, child_at}
use Rattle.pm_stands.specs.Stands.{StandsFor, MakesMove}
use Rattle.pm_cluster.specs.Clusters.{ClusterValue}
use Rattle.pm_market.specs.declared.moves.Act.TheVariants as act
use Rattle.pm_cluster.specs.Acts.{NoMoveBy}
use Rattle.pm_cluster.proofs.ActForms.{its_own}
use Rattle.pm_cluster.proofs.Children.{IsChild, item, child_read, child_among}
use Rattle.pm_cluster.proofs.Parents.{nodes_are}
use Rattle.pm_base.proofs.Options.{none_of}
use Rattle.pm_cluster.proofs.cluster.Cluster.learn_any.Goals as goal

-- what learning from a child made of a cluster
abbrev Claim : Option Move → Core → ℕ → ClusterValue → Type 0
Claim made new child v = (s : State) → StandsFor v.plan v.core s →
    MatchOption made (NoMoveBy v.plan s (act.Learn child)) (MakesMove v.plan new s)

pub children-child-items-requires : goal.children-child-items-requires
children-child-items-requires c =
    omega (
      arith,
      c.requires.inside,
      ap (λ (v : ClusterValue). nodes (plan_lists v.plan)) c.self.view_is,
      nodes_are c.self.inside.plan.now,
      ap length c.tree.ensures.tree,
    )

pub learn-made-requires : goal.learn-made-requires
learn-made-requires c =
    let is_plan : IsPlan c.args.self.now.plan = subst (λ (v : ClusterValue). IsPlan v.plan) c.self.view_is c.tree.ensures.sound in
    let x : ℕ = item c.children-child-items.result.now c.loop-child.child-index in
    let child : IsChild c.args.self.now.plan c.args.node.0 c.loop-child.child-index x =
    child_read c.args.self.now.plan is_plan _ c.children-child-items.result.now c.args.node.0 c.loop-child.child-index
    (c.tree.ensures.tree ∙ ap (λ (v : ClusterValue). v.plan.entries) c.self.view_is) c.children-child-items.ensures c.loop-child-test.true in
    record { node = subst (λ (v : ClusterValue). IsNode (plan_lists v.plan) x) (sym c.loop-child.invariant.same) child.node }

pub returns-then-is_some-clause-mine : goal.returns-then-is_some-clause-mine
returns-then-is_some-clause-mine c =
    let is_plan : IsPlan c.args.self.now.plan = subst (λ (v : ClusterValue). IsPlan v.plan) c.self.view_is c.tree.ensures.sound in
    let x : ℕ = item c.children-child-items.result.now c.loop-child.child-index in
    let child : IsChild c.args.self.now.plan c.args.node.0 c.loop-child.child-index x =
    child_read c.args.self.now.plan is_plan _ c.children-child-items.result.now c.args.node.0 c.loop-child.child-index
    (c.tree.ensures.tree ∙ ap (λ (v : ClusterValue). v.plan.entries) c.self.view_is) c.children-child-items.ensures c.loop-child-test.true in
    its_own (plan_lists c.args.self.now.plan) c.args.node.0 (act.Learn x) c.learn-made.result (λ n. child.up) c.learn-made.ensures.form

pub loop-child-preserved : goal.loop-child-preserved
loop-child-preserved c =
    let is_plan : IsPlan c.args.self.now.plan = subst (λ (v : ClusterValue). IsPlan v.plan) c.self.view_is c.tree.ensures.sound in
    let x : ℕ = item c.children-child-items.result.now c.loop-child.child-index in
    let child : IsChild c.args.self.now.plan c.args.node.0 c.loop-child.child-index x =
    child_read c.args.self.now.plan is_plan _ c.children-child-items.result.now c.args.node.0 c.loop-child.child-index
    (c.tree.ensures.tree ∙ ap (λ (v : ClusterValue). v.plan.entries) c.self.view_is) c.children-child-items.ensures c.loop-child-test.true in
    let nothing = none_of c.learn-made.result (sym c.is_some.ensures ∙ c.if-is_some.false) in
    record {
      same = c.learn-made.ensures.none nothing ∙ c.loop-child.invariant.same;
      none = λ s stands k lt number legal. elim (cases_lt k c.loop-child.child-index) [
        | inl old ↦ c.loop-child.invariant.none s stands k old number legal
        | inr at ↦
            let is : k ≡ c.loop-child.child-index = omega arith in
            let made = subst (Claim c.learn-made.result c.learn-made.new.self.core x) c.loop-child.invariant.same c.learn-made.ensures.made in
            MatchOption-at_none _ _ nothing (made s stands) (Learn x number) refl (
            subst (λ (i : ℕ). Legal (plan_lists c.args.self.now.plan) s (Learn i number))
            (ap (child_at c.args.self.now.plan c.args.node.0) is ∙ sym child.at) legal)
      ];
    }

pub returns-clause-made : goal.returns-clause-made
returns-clause-made c s stands x number up legal =
    let is_plan : IsPlan c.args.self.now.plan = subst (λ (v : ClusterValue). IsPlan v.plan) c.self.view_is c.tree.ensures.sound in
    let tree = c.tree.ensures.tree ∙ ap (λ (v : ClusterValue). v.plan.entries) c.self.view_is in
    let at = child_among c.args.self.now.plan is_plan _ _ c.args.node.0 x tree c.children-child-items.ensures legal.0 up in
    c.loop-child.invariant.none s stands (place_of c.args.self.now.plan.entries x) (omega (arith, at.0)) number
    (subst (λ (i : ℕ). Legal (plan_lists c.args.self.now.plan) s (Learn i number)) (sym at.1) legal)
