-- Of `make_changes`: what the calls of `unwrap`, `make_change` and `loop` require; that its numbers fit.
use Rattle.std.proofs.Common.{◌∙◌, ap, sym, subst, ◌-◌, ◌<◌, arith, rules}
use Rattle.std.proofs.lemmas.Int.{to_z-of_z}
use Rattle.std.specs.Prelude.{IsSome, Option}
use mir.Syntax.{w64}
use Rattle.pm_base.specs.Limits.{demand_limit, IsWithin}
use Rattle.pm_plan.specs.declared.planned.Planned.{Planned}
use Rattle.pm_plan.specs.Plans.{change_count}
use Rattle.pm_plan.specs.States.{changed_state}
use Rattle.pm_plan.proofs.DeviceNodes.{kind_of-tells}
use Rattle.pm_plan.proofs.Ends.{end-within}
use Rattle.pm_plan.proofs.PlannedChanges.{few_changes, planned_change-is}
use Rattle.pm_walk.proofs.Devices.{kind-valid, next-is, next-fits, reached-fits, reached-more, used-within}
use Rattle.pm_walk.proofs.changes.make_changes.Goals as goal

pub overflow_add-here : goal.overflow_add-here
overflow_add-here c =
    omega (arith, end-within c.args.plan.now c.args.phase c.args.device.0, few_changes c.args.plan.now c.args.device.0 c.kind-kind.ensures.sound)

pub unwrap-what-requires : goal.unwrap-what-requires
unwrap-what-requires c =
    let plan = c.args.plan.now in
    let d = c.args.device.0 in
    let inside : c.loop.here.count < change_count plan d = omega (arith, end-within plan c.args.phase d) in
    subst (λ (found : Option Planned). IsSome found) (sym (c.planned.ensures ∙ planned_change-is plan d c.loop.here.count inside)) (search rules)

pub make_change-here-requires-clause-few : goal.make_change-here-requires-clause-few
make_change-here-requires-clause-few c =
    omega (arith, end-within c.args.plan.now c.args.phase c.args.device.0, few_changes c.args.plan.now c.args.device.0 c.kind-kind.ensures.sound)

pub make_change-here-requires-clause-valid : goal.make_change-here-requires-clause-valid
make_change-here-requires-clause-valid c = kind-valid c.args.plan.now c.args.device.0 c.kind-kind.result c.kind-kind.ensures.sound c.kind-kind.ensures.kind

pub make_change-here-requires-clause-fits : goal.make_change-here-requires-clause-fits
make_change-here-requires-clause-fits c =
    reached-fits c.args.plan.now c.args.device.0 c.loop.here c.kind-kind.result c.kind-kind.ensures.sound c.requires.leaf
    c.loop.invariant.reached c.kind-kind.ensures.kind

pub make_change-here-requires-clause-change : goal.make_change-here-requires-clause-change
make_change-here-requires-clause-change c =
    let plan = c.args.plan.now in
    let d = c.args.device.0 in
    let inside : c.loop.here.count < change_count plan d = omega (arith, end-within plan c.args.phase d) in
    next-fits plan d c.loop.here.count c.planned.result c.unwrap-what.result c.kind-kind.result c.kind-kind.ensures.sound inside
    (record { found_is = c.planned.ensures; what_is = c.unwrap-what.ensures }) c.kind-kind.ensures.kind

pub make_change-here-requires-clause-used : goal.make_change-here-requires-clause-used
make_change-here-requires-clause-used c =
    subst (IsWithin demand_limit) (sym (to_z-of_z w64 c.args.used c.ranges.used))
    (used-within c.args.plan.now (c.args.phase - 1) c.args.device.0 c.args.used c.kind-kind.ensures.sound c.requires.used)

pub loop-preserved : goal.loop-preserved
loop-preserved c =
    let plan = c.args.plan.now in
    let d = c.args.device.0 in
    let n = c.loop.here.count in
    let inside : n < change_count plan d = omega (arith, end-within plan c.args.phase d) in
    let what_is = next-is plan d n c.planned.result c.unwrap-what.result inside (record { found_is = c.planned.ensures; what_is = c.unwrap-what.ensures }) in
    record {
      reached = reached-more plan d c.args.phase c.loop.here c.make_change-here.result c.kind-kind.result c.args.used c.unwrap-what.result
          c.kind-kind.ensures.sound c.requires.leaf (kind_of-tells _ _ c.kind-kind.ensures.kind) c.requires.first
          c.loop.invariant.reached (omega arith) (omega arith) c.requires.used what_is c.make_change-here.ensures.count
          (c.make_change-here.ensures.state
          ∙ ap (λ z. changed_state c.kind-kind.result c.loop.here.state.0 z c.unwrap-what.result) (to_z-of_z w64 c.args.used c.ranges.used))
          c.make_change-here.ensures.member;
      count = omega arith;
    }
