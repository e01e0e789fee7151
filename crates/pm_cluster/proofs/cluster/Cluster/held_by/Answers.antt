-- Of `Cluster::held_by`: what it ensures.
use Rattle.std.proofs.Common.{◌≡◌, ◌∙◌, sym, ap, subst, true, false, rules}
use Rattle.std.specs.Prelude.{None}
use Rattle.std.proofs.lemmas.Bool.{cond-true, cond-false}
use Rattle.pm_market.specs.Lists.{is_leaf, IsLeaf}
use Rattle.pm_market.specs.Held.{holding}
use Rattle.pm_offer.specs.Offers.{local_step_at}
use Rattle.pm_plan.specs.Market.{plan_lists}
use Rattle.pm_cluster.specs.Clusters.{ClusterValue}
use Rattle.pm_cluster.proofs.ActForms.{pair_of, pairs_are}
use Rattle.pm_cluster.proofs.cluster.Cluster.held_by.Goals as goal
use Rattle.pm_cluster.proofs.cluster.Cluster.held_by.Goals.{After-held}

pub returns-then-not-is_device : goal.returns-then-not-is_device
returns-then-not-is_device c =
    let Claim : ClusterValue → Type 0 = λ v. is_leaf (plan_lists v.plan) c.args.node.0 ≡ false in
    let off : c.is_device.result ≡ false = search rules in
    let none = subst Claim c.self.view_is (sym c.is_device.ensures ∙ off) in
    record { held = λ s stands. sym (cond-false (is_leaf (plan_lists c.args.self.now.plan) c.args.node.0) _ None none) }

leaf : (c : After-held) → IsLeaf (plan_lists c.args.self.now.plan) c.args.node.0
leaf c =
    let on : c.is_device.result ≡ true = search rules in
    subst (λ (v : ClusterValue). IsLeaf (plan_lists v.plan) c.args.node.0) c.self.view_is (sym c.is_device.ensures ∙ on)

pub returns-in_default : goal.returns-in_default
returns-in_default c = record {
  held = λ s stands.
      let plan = c.args.self.now.plan in
      let x = c.args.node.0 in
      ap pair_of (c.in_default.ensures.held s stands) ∙ pairs_are plan s x
      ∙ sym (cond-true (is_leaf (plan_lists plan) x) (holding (plan_lists plan) (local_step_at plan) s x) None
      (leaf (goal.at.returns-in_default c).After-held));
}

pub returns : goal.returns
returns c = record {
  held = λ s stands.
      let plan = c.args.self.now.plan in
      let x = c.args.node.0 in
      ap pair_of (c.in-Some.ensures.held s stands) ∙ pairs_are plan s x
      ∙ sym (cond-true (is_leaf (plan_lists plan) x) (holding (plan_lists plan) (local_step_at plan) s x) None (leaf (goal.at.returns c).After-held));
}
