-- Of `Cluster::check_change`: its clauses `refused` and `follows`; what the call of `kind` requires.
use Rattle.std.proofs.Common.{◌≡◌, ◌∙◌, sym, ap, subst, ℕ, true, false, rules, refl, inl, inr}
use Rattle.std.specs.Prelude.{Some}
use Rattle.std.proofs.lemmas.Option.{MatchOption-at_some}
use Rattle.pm_device.specs.declared.state.Next.{Next}
use Rattle.pm_device.proofs.SameKinds.{same_kinds}
use Rattle.pm_market.specs.Lists.{is_leaf, IsLeaf}
use Rattle.pm_plan.specs.Plans.{node, kind_of}
use Rattle.pm_plan.specs.Market.{plan_lists}
use Rattle.pm_cluster.specs.Next.{count_of, IsNext}
use Rattle.pm_cluster.specs.Acts.{IsNextOrNone}
use Rattle.pm_cluster.specs.Clusters.{ClusterValue}
use Rattle.pm_plan.proofs.MarketLists.{leaf_of_plan}
use Rattle.pm_cluster.proofs.SameNext.{same_found, not_differ, do_differ}
use Rattle.pm_cluster.proofs.cluster.Cluster.check_change.Goals as goal
use Rattle.pm_cluster.proofs.cluster.Cluster.check_change.Goals.{After-next-due}
use Rattle.pm_cluster.proofs.cluster.Cluster.check_change.Goals.{then-ne-via-then-ne}
use Rattle.pm_cluster.proofs.cluster.Cluster.check_change.Goals.{then-ne-via-else-ne+then-ne-2}

pub returns-then-not-is_device-clause-refused : goal.returns-then-not-is_device-clause-refused
returns-then-not-is_device-clause-refused c =
    let Claim : ClusterValue → ℕ → Type 0 = λ v x. is_leaf (plan_lists v.plan) x ≡ false in
    let off : c.is_device.result ≡ false = search rules in
    let none : is_leaf (plan_lists c.self.inside.plan.now) c.next-next.result.device ≡ false = sym c.is_device.ensures ∙ off in
    inl (
      subst (Claim c.args.self.now) (ap (λ (n : Next). n.device) c.next-next.ensures.next) (subst
          (λ (v : ClusterValue). Claim v c.next-next.result.device) c.self.view_is none),
      refl,
    )

-- the device is one of the plan
leaf : (c : After-next-due) → IsLeaf (plan_lists c.self.inside.plan.now) c.next-next.result.device
leaf c = sym c.is_device.ensures ∙ (let on : c.is_device.result ≡ true = search rules in on)

leaf_made : (c : After-next-due) → IsLeaf (plan_lists c.args.self.now.plan) c.args.made.now.next.device
leaf_made c =
    let Claim : ClusterValue → ℕ → Type 0 = λ v x. is_leaf (plan_lists v.plan) x ≡ true in
    subst (Claim c.args.self.now) (ap (λ (n : Next). n.device) c.next-next.ensures.next) (
    subst (λ (v : ClusterValue). Claim v c.next-next.result.device) c.self.view_is (leaf c))

next_made : (c : After-next-due) → IsNextOrNone c.args.self.now.plan c.args.self.now.core.closed
    (count_of c.args.self.now.core) c.args.made.now.next.device c.next-due.result
next_made c =
    let Claim : ℕ → Type 0 = λ x. IsNextOrNone c.args.self.now.plan c.args.self.now.core.closed (count_of c.args.self.now.core) x c.next-due.result in
    subst Claim (ap (λ (n : Next). n.device) c.next-next.ensures.next) c.next-due.ensures.next

pub kind-kind-requires : goal.kind-kind-requires
kind-kind-requires c = leaf_of_plan c.self.inside.plan.now c.next-next.result.device (leaf (goal.at.kind-kind-requires c).After-next-due)

pub returns-then-ne-clause-refused : goal.returns-then-ne-clause-refused
returns-then-ne-clause-refused c =
    let p = (goal.at.returns-then-ne-clause-refused c).After-next-due in
    inr (
      leaf_made p,
      next_made p,
      elim c.then-ne.branch [
        | then-ne-via-then-ne w ↦
            let differs : c.next-due.result ≡ Some c.next-next.result → ⊥ =
            do_differ _ _ (same_found c.next-due.result c.next-next.result) w.if-ne.ensures in
            inl (λ e. differs (e ∙ ap Some (sym c.next-next.ensures.next)))
        | then-ne-via-else-ne+then-ne-2 w ↦
            let differs : c.kind-kind.result ≡ w.kind.result → ⊥ = do_differ _ _ (same_kinds c.kind-kind.result w.kind.result) w.if-ne-2.ensures in
            inr (λ e.
            let Claim : ClusterValue → ℕ → Type 0 = λ v x. kind_of (node v.plan x) ≡ Some c.kind-kind.result in
            let read = subst (Claim c.args.self.now) (ap (λ (n : Next). n.device) c.next-next.ensures.next) (
            subst (λ (v : ClusterValue). Claim v c.next-next.result.device) c.self.view_is c.kind-kind.ensures.kind) in
            let same : Some c.kind-kind.result ≡ Some c.args.made.now.kind = sym read ∙ e in
            let kinds : c.kind-kind.result ≡ c.args.made.now.kind = cc same in
            differs (kinds ∙ sym w.kind.ensures.kind))
      ],
    )

pub returns-clause-follows : goal.returns-clause-follows
returns-clause-follows c =
    let now = c.args.self.now in
    let found = not_differ _ _ (same_found c.next-due.result c.next-next.result) c.if-ne.ensures in
    let kinds = not_differ _ _ (same_kinds c.kind-kind.result c.kind.result) c.if-ne-2.ensures ∙ c.kind.ensures.kind in
    let its_next : IsNext now.plan now.core.closed (count_of now.core) c.next-next.result.device c.next-next.result =
    MatchOption-at_some _ _ c.next-next.result found c.next-due.ensures.next in
    let its_kind : kind_of (node now.plan c.next-next.result.device) ≡ Some c.args.made.now.kind =
    subst (λ (v : ClusterValue). kind_of (node v.plan c.next-next.result.device) ≡ Some c.kind-kind.result) c.self.view_is c.kind-kind.ensures.kind
    ∙ ap Some kinds in
    record {
      leaf = leaf_made (goal.at.returns-clause-follows c).After-next-due;
      next = subst (λ (n : Next). IsNext now.plan now.core.closed (count_of now.core) n.device n) c.next-next.ensures.next its_next;
      kind = subst (λ (n : Next). kind_of (node now.plan n.device) ≡ Some c.args.made.now.kind) c.next-next.ensures.next its_kind;
    }
