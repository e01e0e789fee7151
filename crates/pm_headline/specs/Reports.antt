-- What a report of a plan tells: at the end of each phase the plain auction over the changes of the phases up to it.
use Rattle.std.specs.Prelude.{◌≡◌, ℕ, ◌-◌, ◌≤◌, List, length, slice_index_or}
use Rattle.pm_plan.specs.Plans.{PlanData, phases, end_cut}
use Rattle.pm_plan.specs.Auction.{EndData}
use Rattle.pm_plan.specs.States.{FollowChanges, state}
use Rattle.pm_plan.specs.Ends.{no_end}
use Rattle.pm_offer.specs.EndLines.{TellsEnd}
use Rattle.pm_report.specs.Report.{report_text}

-- there is an end for each phase, which tells the plain auction over the changes of the phases up to it; the states by which
-- the devices bid are those that follow their changes
pub record AreAuctionEnds (plan : PlanData) (ends : List EndData) : Type 0 where
  pub states : FollowChanges plan (state plan)
  pub one_each : length ends ≡ phases plan
  pub tell : (p : ℕ) → 1 ≤ p → p ≤ phases plan → TellsEnd plan (end_cut plan p) (slice_index_or ends (p - 1) no_end)

-- the text is the report of such ends
pub record IsReport (plan : PlanData) (text : List ℕ) : Type 0 where
  pub ends : List EndData
  pub are_ends : AreAuctionEnds plan ends
  pub written : text ≡ report_text plan ends
