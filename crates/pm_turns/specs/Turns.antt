-- How a board grows by a move.
use Rattle.std.specs.Prelude.{◌≡◌, ℕ, List, ◌++◌}
use Rattle.pm_market.specs.declared.journal.Line.{Line}
use Rattle.pm_plan.specs.Market.{plan_lists}
use Rattle.pm_stands.specs.Actors.{IsMoveOf}
use Rattle.pm_board.specs.Boards.{BoardValue, AddsLine}

-- a legal move was made, and its line joined the journal
pub record Grows (old new : BoardValue) : Type 0 where
  pub line' : Line
  pub adds : AddsLine old new line'

-- lines joined the journal behind those that it had
pub record Continues (old new : BoardValue) : Type 0 where
  pub plan : new.plan ≡ old.plan
  pub more : List Line
  pub lines : new.lines ≡ old.lines ++ more

-- a node took its turn: it made a move of its own
pub record TakesTurn (old new : BoardValue) (n : ℕ) : Type 0 where
  pub line' : Line
  pub mine : IsMoveOf (plan_lists old.plan) n line'.what
  pub adds : AddsLine old new line'
  pub ends : new.ends ≡ old.ends
