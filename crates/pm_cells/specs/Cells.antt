-- What holds of a link's table between any two steps: word 0 and slot 0 are the cell of the bids, word 1 and slot 1 that of
-- the prices.
use Rattle.std.specs.Prelude.{◌≡◌, ◌⊎◌, ℕ, ◌+◌, ◌*◌, ◌<◌, ◌≤◌, List, [], ◌∷◌, Option, Some, None, Contains}
use mathlib.Core.Option as opt
use Rattle.atomic_table.specs.Table.{State}
use Rattle.pm_session.specs.declared.price.PriceUpdate.{PriceUpdate}
use Rattle.pm_cells.specs.Numbers.{AreRising, newest_number, AllAmong}
use Rattle.pm_cells.specs.declared.view.EndView.{EndView}
use Rattle.pm_cells.specs.declared.view.CellView.{CellView}
use Rattle.pm_cells.specs.declared.view.Role.TheVariants.{Whole, Child, Parent, Joined, Spent}
use Rattle.pm_cells.specs.declared.message.Message.{Message}
use Rattle.pm_cells.specs.declared.message.Message.TheVariants.{Bid, Price}
use Rattle.pm_cells.specs.declared.message.UpMessage.{UpMessage}

-- what lies in a slot
abbrev pub CellSlot : Type 0
CellSlot = Option Message

-- the words, the slots that are at home, and the views of the ends
abbrev pub LinkTable : Type 0
LinkTable = State CellSlot EndView

-- what an end that made no step knows of a cell
abbrev pub fresh_cell : CellView
fresh_cell = record { puts = []; takes = []; sent = []; received = []; holds = 0; found = 0; in_hand = None; lost = 0; empty = 0 }

-- the view of a link that is not yet cut into two ends
abbrev pub whole_view : EndView
whole_view = record { role = Whole; up = fresh_cell; down = fresh_cell }

-- the message is a bid with this number
abbrev pub IsBidWith : ℕ → Message → Type 0
IsBidWith n message = (bid : UpMessage) × (message ≡ Bid bid) × (bid.number ≡ n)

-- the message is a price with this index, which names one of these bids
abbrev pub IsPriceOf : List ℕ → ℕ → Message → Type 0
IsPriceOf bids n message = (price : PriceUpdate) × (message ≡ Price price) × (price.index ≡ n) × Contains bids price.number

-- a slot at home, where `put` is the newest number put and `taken` the newest taken: it holds a message exactly where the first
-- is above the second, and the message then has the newest number
abbrev pub HoldsNewest : (ℕ → Message → Type 0) → ℕ → ℕ → CellSlot → Type 0
HoldsNewest Fits put taken slot = (taken < put → (message : Message) × (slot ≡ Some message) × Fits put message) × (put ≤ taken → slot ≡ None)

-- the message meets this, and is one of those that were put
abbrev pub WasPut : (ℕ → Message → Type 0) → List Message → ℕ → Message → Type 0
WasPut Fits sent n message = Fits n message × Contains sent message

-- the messages in a slot, at most one
abbrev pub messages_in : CellSlot → List Message
messages_in None = []
messages_in (Some message) = message ∷ []

-- one cell, by its word, its slot where that is at home, and what the putting and the taking end know of it
pub record IsCell (Fits : ℕ → Message → Type 0) (word : ℕ) (home : opt.Option CellSlot) (put take : CellView) : Type 0 where
  -- twice the newest number put, and one more while an end has the slot
  pub word_is : word ≡ 2 * newest_number put.puts + (put.holds + take.holds)
  -- the two ends never have the slot at the same time
  pub one_holds : put.holds + take.holds ≤ 1
  pub at_home : put.holds + take.holds ≡ 0 →
      (slot : CellSlot) × (home ≡ opt.some slot) × HoldsNewest (WasPut Fits put.sent) (newest_number put.puts) (newest_number take.takes) slot
  -- the taking end that has the slot found the word's number
  pub found_is : take.holds ≡ 1 → take.found ≡ newest_number put.puts
  -- and what it found in the slot is a message that was put
  pub in_hand_was_put : AllAmong (messages_in take.in_hand) put.sent
  pub puts_rise : AreRising put.puts
  pub takes_rise : AreRising take.takes
  pub takes_were_put : AllAmong take.takes put.puts
  -- the messages that were taken are those that were put, whole
  pub received_were_put : AllAmong take.received put.sent

-- a table of two cells and two ends
abbrev pub two_cells : ℕ → ℕ → opt.Option CellSlot → opt.Option CellSlot → EndView → EndView → LinkTable
two_cells w₀ w₁ h₀ h₁ a b = record { words = w₀ ∷ w₁ ∷ []; homes = h₀ ∷ h₁ ∷ []; views = a ∷ b ∷ [] }

-- between the cut and the joining: the cell of the bids, and that of the prices, each of which names a bid that the child put
pub record AreCells (w₀ w₁ : ℕ) (h₀ h₁ : opt.Option CellSlot) (child parent : EndView) : Type 0 where
  pub is_child : child.role ≡ Child
  pub is_parent : parent.role ≡ Parent
  pub up : IsCell IsBidWith w₀ h₀ child.up parent.up
  pub down : IsCell (IsPriceOf child.up.puts) w₁ h₁ parent.down child.down

-- before the cut: both words are 0, both slots are at home, and nothing is in them
abbrev pub IsUncut : LinkTable → Type 0
IsUncut s = s ≡ record { words = 0 ∷ 0 ∷ []; homes = opt.some None ∷ opt.some None ∷ []; views = whole_view ∷ [] }

-- between the cut and the joining
abbrev pub IsCut : LinkTable → Type 0
IsCut s = (w₀ w₁ : ℕ) × (h₀ h₁ : opt.Option CellSlot) × (child parent : EndView) × (s ≡ two_cells w₀ w₁ h₀ h₁ child parent) ×
    AreCells w₀ w₁ h₀ h₁ child parent

-- of a cell whose ends were joined: the numbers taken rise and were put, and each message taken was put
abbrev pub TookWhatWasPut : CellView → Type 0
TookWhatWasPut cell = AreRising cell.takes × AllAmong cell.takes cell.puts × AllAmong cell.received cell.sent

-- from the joining on: the child's view has the lists of both ends, and nothing is said of the parent's
abbrev pub IsJoined : LinkTable → Type 0
IsJoined s = (both other : EndView) × (s.views ≡ both ∷ other ∷ []) × (both.role ≡ Joined) × (other.role ≡ Spent) ×
    TookWhatWasPut both.up × TookWhatWasPut both.down

-- the rule of the table
abbrev pub KeepsCells : LinkTable → Type 0
KeepsCells s = IsUncut s ⊎ (IsCut s ⊎ IsJoined s)
