-- Of `Cluster::change_by_plan`: what it ensures; what the call of `kind` requires.
use Rattle.std.proofs.Common.{◌≡◌, ◌∙◌, sym, subst, refl, true, false, rules}
use Rattle.pm_market.specs.Lists.{IsLeaf}
use Rattle.pm_cluster.specs.ClusterFields.{core_of}
use Rattle.pm_cluster.specs.Next.{HasNoNext, count_of}
use Rattle.pm_plan.specs.Market.{plan_lists}
use Rattle.pm_cluster.specs.Clusters.{ClusterValue}
use Rattle.pm_plan.proofs.MarketLists.{leaf_of_plan}
use Rattle.pm_cluster.proofs.ActForms.{no_leaf, none_legal}
use Rattle.pm_cluster.proofs.MadeBy.{made_none}
use Rattle.pm_market.specs.declared.moves.Act.TheVariants as act
use Rattle.pm_cluster.proofs.cluster.Cluster.change_by_plan.Goals as goal
use Rattle.pm_cluster.proofs.cluster.Cluster.change_by_plan.Goals.{After-next}

pub returns-then-not-is_device : goal.returns-then-not-is_device
returns-then-not-is_device c =
    let off : c.is_device.result ≡ false = search rules in
    made_none c.self.inside _ _ (act.Change c.args.device.0) c.self.view_is refl
    (λ s stands. no_leaf c.self.inside.plan.now s c.args.device.0 (sym c.is_device.ensures ∙ off))

leaf : (c : After-next) → IsLeaf (plan_lists c.self.inside.plan.now) c.args.device.0
leaf c = sym c.is_device.ensures ∙ (let on : c.is_device.result ≡ true = search rules in on)

pub returns-in_default : goal.returns-in_default
returns-in_default c =
    let d = c.args.device.0 in
    let Claim : ClusterValue → Type 0 = λ v. HasNoNext v.plan v.core.closed (count_of v.core) d in
    let none = subst Claim (sym c.self.view_is) c.in_default.ensures.next in
    made_none c.self.inside _ _ (act.Change d) c.self.view_is refl (λ s stands.
    none_legal c.self.inside.plan.now c.self.invariant.is_plan (core_of c.self.inside) s stands d none)

pub returns : goal.returns
returns c = record {
  plan = c.make.ensures.change.plan;
  form = search rules;
  none = λ e. absurd (cc e);
  made = c.make.ensures.change.made;
}

pub kind-requires : goal.kind-requires
kind-requires c = leaf_of_plan c.self.inside.plan.now c.args.device.0 (leaf (goal.at.kind-requires c).After-next)
