-- One node, whose process may run on any of several machines. They share a row, in which the newest record of the node is kept.
use Rattle.std.specs.Prelude.{◌≡◌, ◌⊎◌, ℕ, ◌+◌, ◌<◌, ◌≤◌, Bool, true, false, List, [], ◌∷◌}

-- the count of the start that stored it, the number of the newest bid, and that bid
pub record SharedRow : Type 0 where
  pub start : ℕ
  pub number : ℕ
  pub bid : ℕ

-- what a machine read of the row last; whether a process runs on it, and what that process stored last
pub record Machine : Type 0 where
  pub saw : SharedRow
  pub runs : Bool
  pub own : SharedRow

-- the row, the machines, and all bids that were handed out, the newest first
pub record SharedNode : Type 0 where
  pub row : SharedRow
  pub machine : ℕ → Machine
  pub handed : List SharedRow

-- A machine reads the row, and what ran on it before runs no more. It puts its start into the row. Its process stores a bid under its next
-- number. It hands out the bid that it stored last: at any time later, any number of times, also if it was cut off for years.
pub data TakeoverEvent : Type 0 where
  Reads : ℕ → TakeoverEvent
  Starts : ℕ → TakeoverEvent
  Stores : ℕ → ℕ → TakeoverEvent
  Hands : ℕ → TakeoverEvent

abbrev pub row_with_start : SharedRow → SharedRow
row_with_start row = record { start = row.start + 1; number = row.number; bid = row.bid }

abbrev pub row_with_bid : SharedRow → ℕ → SharedRow
row_with_bid row bid' = record { start = row.start; number = row.number + 1; bid = bid' }

-- a row that tests is put only where this holds; one that does not is put always
abbrev pub Tested : Bool → Type 0 → Type 0
Tested true holds = holds
Tested false holds = Unit {0}

-- one machine changes, and with it the row and the bids that were handed out
pub record Changes (old new : SharedNode) (at : ℕ) (machine : Machine) (row : SharedRow) (handed : List SharedRow) : Type 0 where
  pub it : new.machine at ≡ machine
  pub others : (k : ℕ) → (k ≡ at → ⊥) → new.machine k ≡ old.machine k
  pub row_is : new.row ≡ row
  pub handed_is : new.handed ≡ handed

-- the row is as the machine read it, if the row tests that; with it the row has one start more
pub record PutsStart (tests : Bool) (old new : SharedNode) (at : ℕ) : Type 0 where
  pub unchanged : Tested tests (old.row ≡ (old.machine at).saw)
  pub changes : Changes old new at (record { saw = (old.machine at).saw; runs = true; own = row_with_start (old.machine at).saw })
      (row_with_start (old.machine at).saw) old.handed

-- the process of a machine runs, and its start is the newest in the row, if the row tests that; with it the row has the next number
pub record Puts (tests : Bool) (old new : SharedNode) (at bid : ℕ) : Type 0 where
  pub runs : (old.machine at).runs ≡ true
  pub newest : Tested tests (old.row.start ≡ (old.machine at).own.start)
  pub changes : Changes old new at (record { saw = (old.machine at).saw; runs = true; own = row_with_bid (old.machine at).own bid })
      (row_with_bid (old.machine at).own bid) old.handed

-- nothing is tested where a bid is handed out
pub record HandsOut (old new : SharedNode) (at : ℕ) : Type 0 where
  pub runs : (old.machine at).runs ≡ true
  pub changes : Changes old new at (old.machine at) old.row ((old.machine at).own ∷ old.handed)

-- a put that is refused changes nothing
abbrev pub TakeoverHappens : Bool → SharedNode → TakeoverEvent → SharedNode → Type 0
TakeoverHappens tests old (Reads m) new = Changes old new m (record { saw = old.row; runs = false; own = (old.machine m).own }) old.row old.handed
TakeoverHappens tests old (Starts m) new = (new ≡ old) ⊎ PutsStart tests old new m
TakeoverHappens tests old (Stores m bid) new = (new ≡ old) ⊎ Puts tests old new m bid
TakeoverHappens tests old (Hands m) new = HandsOut old new m

abbrev pub TakeoversHappen : Bool → SharedNode → List TakeoverEvent → SharedNode → Type 0
TakeoversHappen tests old [] new = old ≡ new
TakeoversHappen tests old (event ∷ events) new = (mid : SharedNode) × TakeoverHappens tests old event mid × TakeoversHappen tests mid events new

-- no process runs, and nothing was handed out
pub record IsNewSharedNode (node : SharedNode) : Type 0 where
  pub runs : (m : ℕ) → (node.machine m).runs ≡ false
  pub handed : node.handed ≡ []

-- it is one of these
abbrev pub In : SharedRow → List SharedRow → Type 0
In row [] = ⊥
In row (r ∷ rows) = (row ≡ r) ⊎ In row rows

-- no number names two bids, whatever the counts
abbrev pub NameOneBid : List SharedRow → Type 0
NameOneBid rows = (a b : SharedRow) → In a rows → In b rows → a.number ≡ b.number → a.bid ≡ b.bid

abbrev pub TakeoversNameOneBid : Type 0
TakeoversNameOneBid = (first last : SharedNode) (events : List TakeoverEvent) → IsNewSharedNode first → TakeoversHappen true first events last →
    NameOneBid last.handed

-- To who stores, a take-over is as a crash. The next start finds what the row has, which is what the last process stored; from then on each
-- put of that process is refused; and counts never fall.
pub record TakeoversAreFenced : Type 0 where
  pub finds : (old new : SharedNode) (m : ℕ) → TakeoverHappens true old (Starts m) new →
      (new ≡ old) ⊎ (((new.machine m).own ≡ row_with_start old.row) × (new.row ≡ row_with_start old.row))
  pub refused : (old new : SharedNode) (m bid : ℕ) → (old.machine m).own.start < old.row.start → TakeoverHappens true old (Stores m bid) new →
      new ≡ old
  pub counts : (old new : SharedNode) (event : TakeoverEvent) → TakeoverHappens true old event new → old.row.start ≤ new.row.start
