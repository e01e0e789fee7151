-- Of `first_next`: what its loop over `number` keeps.
use Rattle.std.proofs.Common.{ℕ, ◌<◌}
use Rattle.pm_market.specs.Lists.{IsLeaf}
use Rattle.pm_plan.specs.Market.{plan_lists}
use Rattle.pm_cluster.specs.Next.{HasNoNext}
use Rattle.pm_board.specs.Boards.{board_state}
use Rattle.pm_turns.proofs.one_thread.first_next.Given as goal

abbrev pub invariant-loop-number : goal.invariant-loop-number
invariant-loop-number l = (d : ℕ) → d < l.number → IsLeaf (plan_lists l.board.plan) d →
    HasNoNext l.board.plan (board_state l.board).closed (board_state l.board).counts d
