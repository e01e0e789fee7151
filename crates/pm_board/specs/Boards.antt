-- What contracts see of a board, and how it grows.
use Rattle.std.specs.Prelude.{◌≡◌, ℕ, ◌+◌, List, [], ◌∷◌, ◌++◌, map, None}
use Rattle.std.specs.List.{range_with_len}
use Rattle.pm_market.specs.State.{State}
use Rattle.pm_market.specs.Moves.{Legal, LegalJournal, after}
use Rattle.pm_market.specs.Held.{line_of, lines}
use Rattle.pm_market.specs.declared.moves.Move.TheVariants.{Close}
use Rattle.pm_market.specs.declared.journal.Line.{Line}
use Rattle.pm_plan.specs.Plans.{PlanData, end_cut}
use Rattle.pm_plan.specs.Auction.{EndData}
use Rattle.pm_plan.specs.Ends.{EndValue}
use Rattle.pm_plan.specs.States.{end_of}
use Rattle.pm_plan.specs.Market.{plan_lists}
use Rattle.pm_offer.specs.Offers.{local_step_at}
use Rattle.pm_cluster.specs.Acts.{moves_of}

-- the plan, the lines of the journal, and the ends of the closed phases
pub record BoardValue : Type 0 where
  pub plan : PlanData
  pub lines : List Line
  pub ends : List EndValue

-- the state of the market after the journal
abbrev pub board_state : BoardValue → State
board_state b = after (plan_lists b.plan) (moves_of b.lines)

-- a journal of a plan: its moves are legal, and its lines tell what devices held
pub record IsJournal (plan : PlanData) (journal : List Line) : Type 0 where
  pub legal : LegalJournal (plan_lists plan) (moves_of journal)
  pub told : journal ≡ lines (plan_lists plan) (local_step_at plan) (moves_of journal)

abbrev pub kept_ends : List EndValue → List EndData
kept_ends ends = map (λ e. e.end) ends

-- the ends of the phases 1 to p
abbrev pub ends_to : PlanData → ℕ → List EndData
ends_to plan p = map (λ q. end_of plan (end_cut plan q)) (range_with_len 1 p)

-- the line of a move that was legal after the journal joined it
pub record AddsLine (old new : BoardValue) (line' : Line) : Type 0 where
  pub plan : new.plan ≡ old.plan
  pub legal : Legal (plan_lists old.plan) (board_state old) line'.what
  pub told : line' ≡ line_of (plan_lists old.plan) (local_step_at old.plan) (board_state old) line'.what
  pub lines : new.lines ≡ old.lines ++ line' ∷ []

-- the open phase was closed, and its end is kept
pub record ClosesPhase (old new : BoardValue) : Type 0 where
  pub adds : AddsLine old new (record { what = Close ((board_state old).closed + 1); held = None })
  pub ends : kept_ends new.ends ≡ kept_ends old.ends ++ end_of old.plan (end_cut old.plan ((board_state old).closed + 1)) ∷ []
