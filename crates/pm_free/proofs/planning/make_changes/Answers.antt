-- Of `make_changes`: its clause `told`; the turns of its loop over `made`.
use Rattle.std.proofs.Common.{◌∙◌, sym, subst, arith}
use Rattle.pm_board.specs.Boards.{board_state}
use Rattle.pm_phase.specs.Telling.{IsPlannedNext}
use Rattle.pm_plan.specs.Plans.{PlanData}
use Rattle.pm_free.specs.Counting.{AreTold}
use Rattle.pm_free.proofs.Told.{planned_of}
use Rattle.pm_free.proofs.planning.make_changes.Goals as goal

pub loop-made-preserved : goal.loop-made-preserved
loop-made-preserved c =
    let before = c.loop-made.board in
    let next = c.in-Some.next in (
      c.change.ensures.plan ∙ c.loop-made.invariant.0,
      c.change.ensures.agents ∙ c.loop-made.invariant.1,
      omega (arith, c.loop-made.invariant.2),
      c.in_ok-note.ensures.told c.args.board.now.plan
          (subst (λ (p : PlanData). IsPlannedNext p next.device next.number next) c.loop-made.invariant.0
          (planned_of before.plan (board_state before).closed (board_state before).counts next.device next c.in-Some.ensures.next.1)) c.loop-made.invariant.3,
    )

pub returns-after-loop-made-clause-told : goal.returns-after-loop-made-clause-told
returns-after-loop-made-clause-told c =
    subst (λ (p : PlanData). AreTold p c.loop-made.changes.items) (sym c.loop-made.invariant.0) c.loop-made.invariant.3

pub returns-in_default-clause-told : goal.returns-in_default-clause-told
returns-in_default-clause-told c = subst (λ (p : PlanData). AreTold p c.loop-made.changes.items) (sym c.loop-made.invariant.0) c.loop-made.invariant.3
