-- Lists of numbers that rise, and lists whose elements are all in another.
use Rattle.std.specs.Prelude.{ℕ, ◌<◌, List, [], ◌∷◌, Contains}

-- each number is above the one before it, and the first one above `low`
abbrev pub RiseAbove : ℕ → List ℕ → Type 0
RiseAbove low [] = Unit {0}
RiseAbove low (n ∷ ns) = (low < n) × RiseAbove n ns

-- the last number, and `low` where there is none
abbrev pub last_above : ℕ → List ℕ → ℕ
last_above low [] = low
last_above low (n ∷ ns) = last_above n ns

-- each number is at least 1, and above the one before it
abbrev pub AreRising : List ℕ → Type 0
AreRising ns = RiseAbove 0 ns

-- the last number, and 0 where there is none
abbrev pub newest_number : List ℕ → ℕ
newest_number ns = last_above 0 ns

-- each element of the first list is one of the second
abbrev pub AllAmong : {A : Type 0} → List A → List A → Type 0
AllAmong {A} xs ys = (x : A) → Contains xs x → Contains ys x
