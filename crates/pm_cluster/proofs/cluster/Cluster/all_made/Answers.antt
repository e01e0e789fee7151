-- Of `Cluster::all_made`: what it ensures; the turns of its loop over `number`; that its numbers fit.
use Rattle.std.proofs.Common.{◌≡◌, ◌∙◌, sym, ap, subst, ℕ, ◌+◌, ◌<◌, length, slice_index_or, arith, refl}
use Rattle.std.proofs.lemmas.Bool.{false≢true}
use Rattle.std.proofs.lemmas.List.{get_or_read}
use Rattle.pm_market.specs.Lists.{IsLeaf}
use Rattle.pm_plan.specs.Plans.{phases, end_cut}
use Rattle.pm_plan.specs.Market.{plan_lists}
use Rattle.pm_cluster.specs.Clusters.{ClusterValue}
use Rattle.pm_cluster.proofs.Parents.{nodes_are, leaf_inside}
use Rattle.pm_cluster.proofs.cluster.Cluster.all_made.Goals as goal

pub loop-number-init : goal.loop-number-init
loop-number-init c = λ d leaf low. absurd (omega (
  arith,
  low,
  (leaf_inside c.self.inside.plan.now c.self.invariant.is_plan d (subst (λ (v : ClusterValue). IsLeaf (plan_lists v.plan) d) (sym c.self.view_is) leaf)).0,
))

pub returns-then-index : goal.returns-then-index
returns-then-index c =
    let plan = c.self.inside.plan.now in
    let n : ℕ = c.loop-number.number in
    let leaf : IsLeaf (plan_lists plan) n = sym c.is_device.ensures ∙ c.if-is_device.true in
    let inside = (leaf_inside plan c.self.invariant.is_plan n leaf).1 in
    let open_phase = subst (λ (v : ClusterValue). v.core.closed < phases v.plan) (sym c.self.view_is) c.requires.open_phase in
    let count_is = get_or_read c.self.inside.counts.items n c.index.result.now (omega (arith, inside, c.self.invariant.places.all_counts)) c.index.ensures 0 in
    let due_is = get_or_read c.self.inside.due.items n c.index-then-is_device.result.now
    (omega (arith, inside, c.self.invariant.same_due)) c.index-then-is_device.ensures 0 in
    record {
      made = (
        λ is. absurd (false≢true is),
        λ all.
            let Claim : ClusterValue → Type 0 = λ v. (d : ℕ) → IsLeaf (plan_lists v.plan) d →
            slice_index_or v.core.counts d 0 ≡ end_cut v.plan (v.core.closed + 1) d in
            let here = subst Claim (sym c.self.view_is) all n leaf in
            absurd (c.if-index.true (count_is ∙ here ∙ sym (c.self.invariant.due open_phase n leaf) ∙ sym due_is)),
      );
    }

pub returns : goal.returns
returns c = record {
  made = (
    λ is d leaf. c.loop-number.invariant d leaf (
        let here = subst (λ (v : ClusterValue). IsLeaf (plan_lists v.plan) d) (sym c.self.view_is) leaf in
        omega (
          arith,
          (leaf_inside c.self.inside.plan.now c.self.invariant.is_plan d here).1,
          nodes_are c.self.inside.plan.now,
          c.loop-number-test.false,
          c.len-number-end.ensures.len,
          ap length c.tree.ensures.tree,
        )),
    λ all. refl,
  );
}

pub index-requires : goal.index-requires
index-requires c =
    let here = leaf_inside c.self.inside.plan.now c.self.invariant.is_plan c.loop-number.number (sym c.is_device.ensures ∙ c.if-is_device.true) in
    omega (arith, here.1, c.self.inside.counts.ok.0, c.self.invariant.places.all_counts)

pub index-requires-then-is_device : goal.index-requires-then-is_device
index-requires-then-is_device c =
    let here = leaf_inside c.self.inside.plan.now c.self.invariant.is_plan c.loop-number.number (sym c.is_device.ensures ∙ c.if-is_device.true) in
    omega (arith, here.1, c.self.inside.due.ok.0, c.self.invariant.same_due)
