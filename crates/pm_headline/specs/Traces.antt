-- What the trace of a run tells, in the words of the market.
use Rattle.std.specs.Prelude.{◌≡◌, ℕ, ◌<◌, ◌≤◌, true, List, ◌∷◌, ◌++◌, flat_map, Option, Some}
use Rattle.pm_base.specs.Cuts.{Cut}
use Rattle.pm_bid.specs.Bids.{demand_at}
use Rattle.pm_market.specs.Lists.{IsLeaf}
use Rattle.pm_market.specs.State.{State, clearings, cleared_cut}
use Rattle.pm_market.specs.Moves.{IsComplete, after}
use Rattle.pm_market.specs.Held.{holding}
use Rattle.pm_market.specs.declared.moves.Move.TheVariants.{Pass, Close}
use Rattle.pm_market.specs.declared.journal.Line.{Line}
use Rattle.pm_plan.specs.Plans.{PlanData, is_member, phases, end_cut}
use Rattle.pm_plan.specs.Auction.{sum_in, plain_step, local_step_of_group, power}
use Rattle.pm_plan.specs.States.{state, all_ends}
use Rattle.pm_plan.specs.Market.{plan_lists}
use Rattle.pm_offer.specs.Offers.{device_demand, local_step_at}
use Rattle.pm_offer.specs.LocalSteps.{IsAuctionStep}
use Rattle.pm_offer.specs.Powers.{group_power}
use Rattle.pm_report.specs.Trace.{trace_text, move_line, moves_line}
use Rattle.pm_cluster.specs.Acts.{moves_of}
use Rattle.pm_board.specs.Boards.{IsJournal}
use Rattle.pm_headline.specs.Reports.{IsReport}

-- the state of the market after the moves of these lines
abbrev pub state_after_lines : PlanData → List Line → State
state_after_lines plan journal = after (plan_lists plan) (moves_of journal)

-- how many clearings a journal has, and the cut of each: which bid of each device it is over
abbrev pub clearings_in : PlanData → List Line → ℕ
clearings_in plan journal = clearings (state_after_lines plan journal)

abbrev pub clearing_cut : PlanData → List Line → ℕ → Cut
clearing_cut plan journal j = cleared_cut (state_after_lines plan journal) j

-- the line of a clearing's price that is passed to a device, with what the device then holds; and that of a phase that is closed
abbrev pub pass_line : ℕ → ℕ → Option (ℕ × ℕ) → Line
pass_line d j price = record { what = Pass d j; held = price }

abbrev pub close_line : ℕ → Option (ℕ × ℕ) → Line
close_line p price = record { what = Close p; held = price }

-- a device holds a step and a number, by clearing j: the number is that of a bid of its own that the clearing is over, under which it
-- is a member; the step is its local step in the plain auction over the clearing's cut; and the power that it takes, its own
-- bid of that number at that step, is the one that this auction counts
pub record HoldsItsOwn (plan : PlanData) (journal : List Line) (d j : ℕ) (step number : ℕ) : Type 0 where
  pub device : IsLeaf (plan_lists plan) d
  pub made : (1 ≤ j) × (j ≤ clearings_in plan journal)
  pub included : number ≡ clearing_cut plan journal j d
  pub member : is_member plan d number ≡ true
  pub goes_by : IsAuctionStep plan (clearing_cut plan journal j) d step
  pub counted : demand_at (device_demand plan d number) step ≡ power plan (state plan) (clearing_cut plan journal j) d

-- a device holds this number at its local step in the plain auction over a cut
pub record HoldsOver (plan : PlanData) (s : State) (cut : Cut) (d : ℕ) : Type 0 where
  pub step : ℕ
  pub goes_by : IsAuctionStep plan cut d step
  pub holds : holding (plan_lists plan) (local_step_at plan) s d ≡ Some (step, cut d)

-- in a state all changes up to phase p are made, and no others, and each member holds its own last bid at its local step in the
-- plain auction over all of them, which is the one that the report's end of phase p tells
pub record AllHold (plan : PlanData) (s : State) (p : ℕ) : Type 0 where
  pub made : (d : ℕ) → IsLeaf (plan_lists plan) d → s.counts d ≡ end_cut plan p d
  pub hold : (d : ℕ) → IsLeaf (plan_lists plan) d → is_member plan d (end_cut plan p d) ≡ true → HoldsOver plan s (end_cut plan p) d

-- nobody goes back: of two clearings passed to one node the later has the greater index, and is over no older bid of anyone
abbrev pub NobodyGoesBack : PlanData → List Line → Type 0
NobodyGoesBack plan journal = (front mid rest : List Line) (x i j : ℕ) (first later : Option (ℕ × ℕ)) →
    journal ≡ front ++ pass_line x i first ∷ (mid ++ pass_line x j later ∷ rest) →
    (i < j) × ((d : ℕ) → IsLeaf (plan_lists plan) d → clearing_cut plan journal i d ≤ clearing_cut plan journal j d)

-- these lines are a run of the plan
pub record IsMarketRun (plan : PlanData) (journal : List Line) : Type 0 where
  -- the moves are legal from the start, one after another, each line of a pass tells what the device then holds, and every
  -- phase is closed
  pub is_journal : IsJournal plan journal
  pub complete : IsComplete (plan_lists plan) (moves_of journal)
  -- what is held after a pass is over the device's own bid
  pub own_included : (front rest : List Line) (d j step number : ℕ) → journal ≡ front ++ pass_line d j (Some (step, number)) ∷ rest →
      HoldsItsOwn plan journal d j step number
  -- in each clearing the powers of a group's members add up to the group's sum at its step
  pub adds_up : (j g : ℕ) → let cut = clearing_cut plan journal j in
      group_power plan cut g ≡ demand_at (sum_in plan (state plan) cut g) (local_step_of_group plan (state plan) cut (plain_step plan (state plan) cut) g)
  -- of two clearings passed to one node the later is over no older bid of anyone
  pub never_back : NobodyGoesBack plan journal
  -- each phase is closed, where all hold what the report says; and so they do at the end
  pub closes : (p : ℕ) → 1 ≤ p → p ≤ phases plan →
      (front : List Line) × ((rest : List Line) × ((price : Option (ℕ × ℕ)) × (journal ≡ front ++ close_line p price ∷ rest)))
  pub at_close : (front rest : List Line) (p : ℕ) (price : Option (ℕ × ℕ)) → journal ≡ front ++ close_line p price ∷ rest →
      AllHold plan (state_after_lines plan front) p
  pub at_end : AllHold plan (state_after_lines plan journal) (phases plan)

-- the text tells this run: it is a report of the plan, a line for each move, and their number; no other journal of the plan has it
pub record TellsRun (plan : PlanData) (journal : List Line) (text : List ℕ) : Type 0 where
  pub report : List ℕ
  pub reported : IsReport plan report
  pub written : text ≡ report ++ (flat_map (move_line plan) journal ++ moves_line journal)
  pub run : IsMarketRun plan journal
  pub only : (other : List Line) → IsJournal plan other → text ≡ trace_text plan (all_ends plan) other → other ≡ journal
