-- Runs over a row that takes whatever comes, as a retained message does; and one over a row that tests.
use Rattle.std.specs.Prelude.{◌≡◌, ℕ, zero, suc, Bool, true, false, List, [], ◌∷◌}
use Rattle.pm_takeover.specs.Takeovers.{SharedRow, Machine, SharedNode, TakeoverEvent, Reads, Starts, Stores, Hands, TakeoversHappen, IsNewSharedNode}

abbrev pub row : ℕ → ℕ → ℕ → SharedRow
row start' number' bid' = record { start = start'; number = number'; bid = bid' }

-- two machines and others that are idle; nothing runs, and a row of no start
abbrev pub idle : Machine
idle = record { saw = row 0 0 0; runs = false; own = row 0 0 0 }

abbrev pub two : Machine → Machine → ℕ → Machine
two a b zero = a
two a b (suc zero) = b
two a b (suc (suc k)) = idle

abbrev pub no_start : SharedNode
no_start = record { row = row 0 0 0; machine = two idle idle; handed = [] }

-- a run to these bids, the newest first
pub record LeadsTo (tests : Bool) (events : List TakeoverEvent) (handed : List SharedRow) : Type 0 where
  pub last : SharedNode
  pub is_new : IsNewSharedNode no_start
  pub happen : TakeoversHappen tests no_start events last
  pub gives : last.handed ≡ handed

-- Machines 0 and 1 read the row at once, and each puts its start: both have count 1. One count and number names bids 7 and 4.
abbrev pub both_read : List TakeoverEvent
both_read = Reads 0 ∷ Reads 1 ∷ Starts 0 ∷ Starts 1 ∷ Stores 0 7 ∷ Hands 0 ∷ Stores 1 4 ∷ Hands 1 ∷ []

-- Machine 0 runs and is cut off. Machine 1 takes over with count 2. Machine 0 is back and goes on with its own count: bids 7 and 4 have one number
-- and two counts. No frame of the market has the count.
abbrev pub goes_on : List TakeoverEvent
goes_on = Reads 0 ∷ Starts 0 ∷ Reads 1 ∷ Starts 1 ∷ Stores 1 7 ∷ Hands 1 ∷ Stores 0 4 ∷ Hands 0 ∷ []

-- Then the row has count 1 again, and machine 1 starts again with count 2: one count and number names bids 7 and 6.
abbrev pub is_overwritten : List TakeoverEvent
is_overwritten =
    Reads 0 ∷ Starts 0 ∷ Reads 1 ∷ Starts 1 ∷ Stores 1 5 ∷ Stores 1 7 ∷ Hands 1
    ∷ Stores 0 4 ∷ Hands 0 ∷ Reads 1 ∷ Starts 1 ∷ Stores 1 6 ∷ Hands 1 ∷ []

-- Over a row that tests: machine 0 stores bid 7 and is cut off, and machine 1 takes over. Machine 0 cannot store bid 4. It may hand out bid 7
-- late, and that is the bid which machine 1 began with.
abbrev pub is_tested : List TakeoverEvent
is_tested = Reads 0 ∷ Starts 0 ∷ Stores 0 7 ∷ Reads 1 ∷ Starts 1 ∷ Stores 0 4 ∷ Hands 0 ∷ Hands 1 ∷ Stores 1 6 ∷ Hands 1 ∷ []

pub record BlindStoresNameTwo : Type 0 where
  pub both : LeadsTo false both_read (row 1 1 4 ∷ row 1 1 7 ∷ [])
  pub forked : LeadsTo false goes_on (row 1 1 4 ∷ row 2 1 7 ∷ [])
  pub overwritten : LeadsTo false is_overwritten (row 2 2 6 ∷ row 1 1 4 ∷ row 2 2 7 ∷ [])
  pub tested : LeadsTo true is_tested (row 2 2 6 ∷ row 2 1 7 ∷ row 1 1 7 ∷ [])
