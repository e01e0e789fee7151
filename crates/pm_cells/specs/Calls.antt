-- What each call makes of what an end knows of a cell, in plain numbers and lists: `old` is what it knew before the call, and
-- `new` what it knows after.
use Rattle.std.specs.Prelude.{◌≡◌, ℕ, ◌+◌, [], ◌∷◌, ◌++◌}
use Rattle.pm_cells.specs.declared.view.CellView.{CellView}
use Rattle.pm_cells.specs.declared.message.Message.{Message}

-- nothing was put or taken, and no call counted
pub record IsUnused (cell : CellView) : Type 0 where
  pub puts : cell.puts ≡ []
  pub takes : cell.takes ≡ []
  pub sent : cell.sent ≡ []
  pub received : cell.received ≡ []
  pub lost : cell.lost ≡ 0
  pub empty : cell.empty ≡ 0

-- one message was put, under this number; nothing was taken, and nothing counted
pub record PutsOne (old new : CellView) (number : ℕ) (message : Message) : Type 0 where
  pub puts : new.puts ≡ old.puts ++ number ∷ []
  pub sent : new.sent ≡ old.sent ++ message ∷ []
  pub takes : new.takes ≡ old.takes
  pub received : new.received ≡ old.received
  pub lost : new.lost ≡ old.lost
  pub empty : new.empty ≡ old.empty

-- one message was taken, under this number; nothing was put, and nothing counted
pub record TakesOne (old new : CellView) (number : ℕ) (message : Message) : Type 0 where
  pub takes : new.takes ≡ old.takes ++ number ∷ []
  pub received : new.received ≡ old.received ++ message ∷ []
  pub puts : new.puts ≡ old.puts
  pub sent : new.sent ≡ old.sent
  pub lost : new.lost ≡ old.lost
  pub empty : new.empty ≡ old.empty

-- one more claim was lost; nothing was put or taken
pub record LosesOne (old new : CellView) : Type 0 where
  pub lost : new.lost ≡ old.lost + 1
  pub empty : new.empty ≡ old.empty
  pub puts : new.puts ≡ old.puts
  pub takes : new.takes ≡ old.takes
  pub sent : new.sent ≡ old.sent
  pub received : new.received ≡ old.received

-- one more take found nothing new; nothing was put or taken
pub record FindsNone (old new : CellView) : Type 0 where
  pub empty : new.empty ≡ old.empty + 1
  pub lost : new.lost ≡ old.lost
  pub puts : new.puts ≡ old.puts
  pub takes : new.takes ≡ old.takes
  pub sent : new.sent ≡ old.sent
  pub received : new.received ≡ old.received
