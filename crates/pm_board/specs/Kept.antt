-- What the parts of a board keep.
use Rattle.std.specs.Prelude.{◌≡◌, ℕ, ◌+◌, ◌<◌, ◌≤◌, List, length, map, take, slice_index_or}
use Rattle.pm_market.specs.Lists.{nodes}
use Rattle.pm_market.specs.Moves.{act_of}
use Rattle.pm_market.specs.Journal.{JournalData}
use Rattle.pm_plan.specs.Plans.{PlanData, phases, plan_bound}
use Rattle.pm_plan.specs.Ends.{EndValue, no_end}
use Rattle.pm_plan.specs.Kept.{IsPlan}
use Rattle.pm_plan.specs.Market.{plan_lists}
use Rattle.pm_stands.specs.Core.{Core}
use Rattle.pm_cluster.specs.Acts.{moves_of, IsRunOf}
use Rattle.pm_board.specs.Boards.{kept_ends, ends_to}

abbrev pub no_value : EndValue
no_value = record { end = no_end; member_room = 0; limited_room = 0 }

-- an end has room for the lines of all nodes
pub record HasRoomForAll (plan : PlanData) (e : EndValue) : Type 0 where
  pub members : nodes (plan_lists plan) ≤ e.member_room + length e.end.members
  pub limited : nodes (plan_lists plan) ≤ e.limited_room + length e.end.limited

-- The journal is a run of the plan, and the cluster stands for the state after it. There is room for all moves of a run.
-- Of the ends, one for each phase, the first are those of the closed phases, and the others have room for all nodes.
pub record IsBoard (plan : PlanData) (c : Core) (journal : JournalData) (ends : List EndValue) : Type 0 where
  pub is_plan : IsPlan plan
  pub run : IsRunOf plan (map act_of (moves_of journal.lines)) c journal.lines
  pub room : plan_bound plan ≤ length journal.lines + journal.spare
  pub one_each : length ends ≡ phases plan
  pub ended : kept_ends (take c.closed ends) ≡ ends_to plan c.closed
  pub vacant : (p : ℕ) → c.closed ≤ p → p < phases plan → HasRoomForAll plan (slice_index_or ends p no_value)
