-- Of `make_moves`: what its loop over `board` keeps.
use Rattle.std.proofs.Common.{◌≡◌, ◌-◌, length}
use Rattle.pm_plan.specs.Plans.{plan_bound}
use Rattle.pm_turns.specs.Turns.{Continues}
use Rattle.pm_turns.proofs.one_thread.make_moves.Given as goal

abbrev pub invariant-loop-board : goal.invariant-loop-board
invariant-loop-board g l = record { continues : Continues l.fn.board l.board; agents : l.agents ≡ l.fn.agents }

abbrev pub decreases-loop-board : goal.decreases-loop-board
decreases-loop-board g l = plan_bound l.board.plan - length l.board.lines
