-- A settled board tells the market.
use Rattle.std.proofs.Common.{sym, subst}
use Rattle.pm_plan.specs.Kept.{IsPlan}
use Rattle.pm_board.specs.Boards.{BoardValue, kept_ends}
use Rattle.pm_turns.specs.Settled.{IsSettled}
use Rattle.pm_headline.specs.Reports.{AreAuctionEnds}
use Rattle.pm_headline.specs.Traces.{IsMarketRun}
use Rattle.pm_headline.proofs.Reports.{ends_tell}
use Rattle.pm_headline.proofs.Journals.{is_run}

-- the journal of a settled board is a run of its plan
pub board_runs : (b : BoardValue) → IsPlan b.plan → IsSettled b → IsMarketRun b.plan b.lines
board_runs b is settled = is_run b.plan is b.lines (record { legal = settled.journal; complete = settled.complete })

-- its ends tell the plain auction
pub board_ends : (b : BoardValue) → IsPlan b.plan → IsSettled b → AreAuctionEnds b.plan (kept_ends b.ends)
board_ends b is settled = subst (AreAuctionEnds b.plan) (sym settled.ends) (ends_tell b.plan is)
