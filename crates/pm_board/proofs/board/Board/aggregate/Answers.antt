-- Of `Board::aggregate`: its clauses `sum` and `current`.
use Rattle.std.proofs.Common.{◌≡◌, subst}
use Rattle.pm_market.specs.State.{knowledge}
use Rattle.pm_market.specs.Moves.{Idle}
use Rattle.pm_plan.specs.Auction.{total}
use Rattle.pm_plan.specs.States.{state}
use Rattle.pm_plan.specs.Market.{plan_lists}
use Rattle.pm_offer.specs.Offers.{children_sum}
use Rattle.pm_board.specs.Boards.{BoardValue, board_state}
use Rattle.pm_board.proofs.board.Board.aggregate.Goals as goal

pub returns-clause-sum : goal.returns-clause-sum
returns-clause-sum c =
    subst (λ (v : BoardValue). c.aggregate.result.now ≡ children_sum v.plan 0 (knowledge (plan_lists v.plan) (board_state v) 0)) c.self.view_is
    (c.aggregate.ensures.known _ c.self.invariant.run.stands)

pub returns-clause-current : goal.returns-clause-current
returns-clause-current c =
    subst (λ (v : BoardValue). Idle (plan_lists v.plan) (board_state v) →
    c.aggregate.result.now ≡ total v.plan (state v.plan) (board_state v).counts) c.self.view_is
    (c.aggregate.ensures.current _ c.self.invariant.run.stands)
