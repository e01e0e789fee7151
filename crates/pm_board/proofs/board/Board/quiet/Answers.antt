-- Of `Board::quiet`: what it ensures.
use Rattle.std.proofs.Common.{subst}
use Rattle.std.specs.Prelude.{IsTrue, ◌↔◌}
use Rattle.pm_market.specs.Moves.{Idle}
use Rattle.pm_plan.specs.Market.{plan_lists}
use Rattle.pm_board.specs.Boards.{BoardValue, board_state}
use Rattle.pm_board.proofs.board.Board.quiet.Goals as goal

pub returns : goal.returns
returns c = record {
  quiet = subst (λ (v : BoardValue). IsTrue c.idle.result ↔ Idle (plan_lists v.plan) (board_state v)) c.self.view_is
      (c.idle.ensures.idle _ c.self.invariant.run.stands);
}
