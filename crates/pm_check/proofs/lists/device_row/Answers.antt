-- Of `device_row`: what the call of `unwrap` requires; the turns of its loop over `at`.
use Rattle.std.proofs.Common.{◌≡◌, ◌∙◌, sym, ap, refl, subst, ◌<◌, arith}
use Rattle.std.specs.Prelude.{Option}
use Rattle.std.specs.Option.{IsSome}
use Rattle.pm_plan.specs.declared.planned.Planned.{Planned}
use Rattle.pm_plan.specs.Devices.{member_after}
use Rattle.pm_plan.specs.Plans.{is_member, change_count}
use Rattle.pm_plan.specs.Kept.{change_at}
use Rattle.pm_plan.proofs.PlannedChanges.{planned_change-is}
use Rattle.pm_check.proofs.PlanLists.{next_mapped, next_member}
use Rattle.pm_check.proofs.lists.device_row.Goals as goal

pub loop-at-init : goal.loop-at-init
unfolding is_member
loop-at-init c = record { member = refl; row = c.new-row.ensures.items }

pub unwrap-what-requires : goal.unwrap-what-requires
unwrap-what-requires c =
    let inside : c.loop-at.at < change_count c.args.plan.now c.args.device.0 = omega (arith, c.change_count-at-end.ensures) in
    subst (λ (o : Option Planned). IsSome o) (sym (c.planned.ensures ∙ planned_change-is c.args.plan.now c.args.device.0 c.loop-at.at inside)) refl

pub loop-at-preserved : goal.loop-at-preserved
loop-at-preserved c =
    let plan = c.args.plan.now in
    let d = c.args.device.0 in
    let inside : c.loop-at.at < change_count plan d = omega (arith, c.change_count-at-end.ensures) in
    let read = c.planned.ensures ∙ planned_change-is plan d c.loop-at.at inside in
    let what : c.unwrap-what.result ≡ (change_at plan d c.loop-at.at).what = cc (read, c.unwrap-what.ensures) in
    let next = c.member_after-member.ensures ∙ ap (member_after c.loop-at.member) what
    ∙ next_member plan d c.loop-at.at c.loop-at.member inside c.loop-at.invariant.member in
    record {
      member = next;
      row = c.in_ok-push.ensures.items ∙ next_mapped (is_member plan d) c.loop-at.row.items c.loop-at.at _ c.loop-at.invariant.row next;
    }
