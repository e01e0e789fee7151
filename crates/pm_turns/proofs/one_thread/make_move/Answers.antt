-- Of `make_move`: what the call of `close` requires.
use Rattle.std.proofs.Common.{◌≡◌, sym, subst, false, rules}
use Rattle.pm_board.specs.Boards.{BoardValue, board_state}
use Rattle.pm_market.specs.Moves.{Idle}
use Rattle.pm_plan.specs.Market.{plan_lists}
use Rattle.pm_turns.proofs.one_thread.make_move.Goals as goal

pub close-requires-clause-idle : goal.close-requires-clause-idle
close-requires-clause-idle g c κs within =
    let off : c.make_first_move.result ≡ false = search rules in
    subst (λ (b : BoardValue). Idle (plan_lists b.plan) (board_state b)) (sym (c.make_first_move.ensures.same off)) (c.make_first_move.ensures.idle off)
