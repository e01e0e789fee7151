-- Of `make_first_move`: what its loop over `number` keeps.
use Rattle.std.proofs.Common.{◌≡◌, ℕ, ◌<◌}
use Rattle.pm_plan.specs.Market.{plan_lists}
use Rattle.pm_stands.specs.Actors.{NoMoveOf}
use Rattle.pm_board.specs.Boards.{board_state}
use Rattle.pm_turns.proofs.one_thread.make_first_move.Given as goal

abbrev pub invariant-loop-number : goal.invariant-loop-number
invariant-loop-number g l = record {
  same : l.board ≡ l.fn.board;
  none : (x : ℕ) → x < l.number → NoMoveOf (plan_lists l.fn.board.plan) (board_state l.fn.board) x;
}
