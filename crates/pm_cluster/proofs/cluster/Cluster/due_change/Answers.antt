-- Of `Cluster::due_change`: what it ensures; what the call of `planned` requires; that its numbers fit.
use Rattle.std.proofs.Common.{◌∙◌, sym, ap, subst, ℕ, ◌+◌, ◌<◌, arith, inl}
use Rattle.std.specs.Prelude.{Option, MatchOption}
use Rattle.pm_plan.specs.declared.planned.Planned.{Planned}
use Rattle.pm_plan.specs.Plans.{change_count, end_cut, planned_change}
use Rattle.pm_plan.proofs.Ends.{end-within}
use Rattle.pm_plan.proofs.PlannedChanges.{planned_change-is}
use Rattle.pm_cluster.specs.Clusters.{ClusterValue}
use Rattle.pm_cluster.specs.ClusterFields.{core_of}
use Rattle.pm_cluster.specs.Next.{HasNoNext, IsDueChange, count_of}
use Rattle.pm_plan.proofs.MarketLists.{leaf_of_plan}
use Rattle.pm_cluster.proofs.Kept.{leaf_in}
use Rattle.pm_cluster.proofs.NextChanges.{keeps_device, no_next}
use Rattle.pm_cluster.proofs.DeviceFields.{placed, count_read, due_read}
use Rattle.pm_cluster.proofs.cluster.Cluster.due_change.Goals as goal
use Rattle.pm_cluster.proofs.cluster.Cluster.due_change.Goals.{then-phases-self-via-then-phases-self}
use Rattle.pm_cluster.proofs.cluster.Cluster.due_change.Goals.{then-phases-self-via-else-phases-self+then-index-count}

pub index-count-requires : goal.index-count-requires
index-count-requires c = omega (
  arith,
  placed c.self.inside c.self.invariant c.args.self.now c.self.view_is c.args.device.0 c.requires.leaf,
  c.self.invariant.places.all_counts,
)

pub index-requires : goal.index-requires
index-requires c = omega (
  arith,
  placed c.self.inside c.self.invariant c.args.self.now c.self.view_is c.args.device.0 c.requires.leaf,
  c.self.invariant.same_due,
)

pub planned-requires : goal.planned-requires
planned-requires c = leaf_of_plan c.self.inside.plan.now c.args.device.0 (leaf_in c.self.inside c.args.self.now c.args.device.0 c.self.view_is c.requires.leaf)

pub returns-then-phases-self : goal.returns-then-phases-self
returns-then-phases-self c =
    let plan = c.self.inside.plan.now in
    let d = c.args.device.0 in
    let leaf = leaf_in c.self.inside c.args.self.now d c.self.view_is c.requires.leaf in
    let keeps = keeps_device plan c.self.invariant.is_plan (core_of c.self.inside) c.self.invariant.stands d leaf in
    let count = count_read c.self.inside c.self.invariant c.args.self.now c.self.view_is d c.requires.leaf _ c.index-count.ensures in
    let Claim : ClusterValue → Type 0 = λ v. HasNoNext v.plan v.core.closed (count_of v.core) d in
    record {
      due = subst Claim c.self.view_is (elim c.then-phases-self.branch [
        | then-phases-self-via-then-phases-self w ↦ inl (omega (arith, w.if-phases-self.true, c.phases.ensures.phases))
        | then-phases-self-via-else-phases-self+then-index-count w ↦
            let due = due_read c.self.inside c.self.invariant c.args.self.now c.self.view_is d c.requires.leaf _ w.index.ensures in
            no_next plan (core_of c.self.inside) d w.index.result.now keeps (λ lt. due ∙ c.self.invariant.due lt d leaf) (λ lt. omega
            (arith, count, w.if-index-count.true))
      ]);
    }

pub returns : goal.returns
returns c =
    let plan = c.self.inside.plan.now in
    let d = c.args.device.0 in
    let n = c.index-count.result.now in
    let leaf = leaf_in c.self.inside c.args.self.now d c.self.view_is c.requires.leaf in
    let count = count_read c.self.inside c.self.invariant c.args.self.now c.self.view_is d c.requires.leaf n c.index-count.ensures in
    let due = due_read c.self.inside c.self.invariant c.args.self.now c.self.view_is d c.requires.leaf _ c.index.ensures in
    let open_phase : c.self.inside.closed < c.phases.result = c.if-phases-self.false in
    let below : n < end_cut plan (c.self.inside.closed + 1) d =
    omega (arith, due, c.self.invariant.due (omega (arith, open_phase, c.phases.ensures.phases)) d leaf, c.if-index-count.false) in
    let inside : n < change_count plan d = omega (arith, below, end-within plan (c.self.inside.closed + 1) d) in
    let found = c.planned.ensures ∙ planned_change-is plan d n inside in
    let Claim : ClusterValue → Type 0 =
    λ v. MatchOption c.planned.result (HasNoNext v.plan v.core.closed (count_of v.core) d) (IsDueChange v.plan v.core.closed (count_of v.core) d) in
    let Found : Option Planned → Type 0 = λ found. MatchOption found (HasNoNext plan c.self.inside.closed (count_of (core_of c.self.inside)) d)
    (IsDueChange plan c.self.inside.closed (count_of (core_of c.self.inside)) d) in
    record {
      due = subst Claim c.self.view_is (subst Found (sym found) (record {
        open_phase = omega (arith, open_phase, c.phases.ensures.phases);
        of_phase = omega (arith, below, count);
        planned = ap (λ (k : ℕ). planned_change plan d (k + 1)) (sym count) ∙ planned_change-is plan d n inside;
      }));
    }
