-- What holds of a board whose run is over.
use Rattle.std.specs.Prelude.{◌≡◌, ℕ}
use Rattle.pm_market.specs.Lists.{changes, IsLeaf}
use Rattle.pm_market.specs.Moves.{Idle, IsComplete}
use Rattle.pm_plan.specs.Plans.{phases}
use Rattle.pm_plan.specs.Market.{plan_lists}
use Rattle.pm_cluster.specs.Acts.{moves_of}
use Rattle.pm_board.specs.Boards.{BoardValue, board_state, IsJournal, kept_ends, ends_to}

-- the journal is legal and closes every phase; each device made all its changes, nothing is pending, and the ends are those
-- of all phases
pub record IsSettled (b : BoardValue) : Type 0 where
  pub journal : IsJournal b.plan b.lines
  pub complete : IsComplete (plan_lists b.plan) (moves_of b.lines)
  pub made : (d : ℕ) → IsLeaf (plan_lists b.plan) d → (board_state b).counts d ≡ changes (plan_lists b.plan) d
  pub quiet : Idle (plan_lists b.plan) (board_state b)
  pub ends : kept_ends b.ends ≡ ends_to b.plan (phases b.plan)
