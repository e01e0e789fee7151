-- What a judge of traces keeps of a run, and what it says of a line.
use Rattle.std.specs.Prelude.{◌≡◌, ◌≢◌, ℕ, ◌+◌, ◌-◌, ◌≤◌, List}
use Rattle.std.specs.Prelude.{[], ◌∷◌, ◌++◌, length, if◌then◌else◌, slice_index_or, All}
use Rattle.std.specs.Prelude.{Option, None}
use Rattle.pm_base.specs.Rows.{rows_of}
use Rattle.pm_market.specs.Lists.{IsNode, IsLeaf, is_leaf}
use Rattle.pm_market.specs.State.{State, clearings, cleared_cut}
use Rattle.pm_market.specs.Moves.{Legal, step}
use Rattle.pm_market.specs.Held.{holding, line_of}
use Rattle.pm_market.specs.Sound.{Sound}
use Rattle.pm_market.specs.Market.{market_lists, market_state}
use Rattle.pm_market.specs.declared.moves.Move.{Move}
use Rattle.pm_market.specs.declared.moves.Move.TheVariants.{Pass}
use Rattle.pm_plan.specs.Plans.{PlanData, group}
use Rattle.pm_plan.specs.Market.{plan_lists}
use Rattle.pm_offer.specs.Offers.{local_step_at}
use Rattle.pm_report.specs.Trace.{move_line}
use Rattle.pm_walk.specs.Auctions.{IsAuction, auction_cut}
use Rattle.pm_walk.specs.Clearing.{AreGroupSteps}
use Rattle.pm_check.specs.declared.steps.ClearedSteps.{ClearedSteps}
use Rattle.pm_check.specs.declared.judge.Judge.{Judge}

-- for each clearing the steps of the groups
abbrev pub step_rows : ClearedSteps → List (List ℕ)
step_rows steps = rows_of steps.rows.items

-- each row has a place for each node, and one for the auctioneer
abbrev pub AreRows : PlanData → List (List ℕ) → Type 0
AreRows plan rows = All (λ row. length row ≡ length plan.nodes + 1) rows

-- one row more, that of the cut at which the auction stands
abbrev pub HasRow : PlanData → ClearedSteps → ClearedSteps → Type 0
HasRow plan old new = (row : List ℕ) × (AreGroupSteps plan (auction_cut new.auction) row × (step_rows new ≡ step_rows old ++ row ∷ []))

-- for each clearing of a state there is a row, in which the step of a node stands at the place of its group
pub record AreStepsOf (plan : PlanData) (s : State) (rows : List (List ℕ)) : Type 0 where
  pub long : AreRows plan rows
  pub one_each : length rows ≡ clearings s
  pub steps : (j x : ℕ) → 1 ≤ j → j ≤ clearings s → IsNode (plan_lists plan) x →
      slice_index_or (slice_index_or rows (j - 1) []) (group plan x) 0 ≡ local_step_at plan (cleared_cut s j) x

-- what is kept of the clearings is that of the state: the auction stands at the cut that was cleared last
pub record AreCleared (plan : PlanData) (s : State) (steps : ClearedSteps) : Type 0 where
  pub closed : steps.closed ≡ s.closed
  pub auction : IsAuction plan s.closed steps.auction
  pub cut : (d : ℕ) → IsLeaf (plan_lists plan) d → auction_cut steps.auction d ≡ cleared_cut s (clearings s) d
  pub steps_are : AreStepsOf plan s (step_rows steps)

-- a judge of the plan, in a sound state
pub record IsJudge (plan : PlanData) (judge : Judge) : Type 0 where
  pub lists : market_lists judge.market ≡ plan_lists plan
  pub sound : Sound (plan_lists plan) (market_state judge.market)
  pub cleared : AreCleared plan (market_state judge.market) judge.steps

-- a move was made
pub record HasMade (plan : PlanData) (old new : Judge) (m : Move) : Type 0 where
  pub judge : IsJudge plan new
  pub made : market_state new.market ≡ step (plan_lists plan) (market_state old.market) m

-- what a device holds; nothing for any other node
abbrev pub holding_at : PlanData → State → ℕ → Option (ℕ × ℕ)
holding_at plan s x = if is_leaf (plan_lists plan) x then holding (plan_lists plan) (local_step_at plan) s x else None

-- what is held in the state after a move: after a pass to a device what that holds
abbrev pub held_in : PlanData → State → Move → Option (ℕ × ℕ)
held_in plan s (Pass x j) = holding_at plan s x
held_in plan s m = None

-- the line tells a legal move, and the move was made
pub record HasTaken (plan : PlanData) (old new : Judge) (line : List ℕ) (m : Move) : Type 0 where
  pub legal : Legal (plan_lists plan) (market_state old.market) m
  pub told : line ≡ move_line plan (line_of (plan_lists plan) (local_step_at plan) (market_state old.market) m)
  pub made : HasMade plan old new m

-- the line tells no legal move
abbrev pub TellsNone : PlanData → Judge → List ℕ → Type 0
TellsNone plan judge line = (m : Move) → Legal (plan_lists plan) (market_state judge.market) m →
    line ≢ move_line plan (line_of (plan_lists plan) (local_step_at plan) (market_state judge.market) m)
