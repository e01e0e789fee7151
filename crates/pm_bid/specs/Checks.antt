-- When a list of demands is a bid, and else its first fault.
use Rattle.std.specs.Prelude.{ℕ, ◌+◌, ℤ, pos, neg_ℤ, int_lt, Bool, ◌||◌, if◌then◌else◌, ◌==◌, nat_lt, List, length, drop, Result, Ok}
use Rattle.std.specs.Prelude.{Err}
use Rattle.std.specs.List.{position_or_len}
use Rattle.std.specs.Simd.Lanes.{zip2}
use Rattle.pm_base.specs.Limits.{demand_limit}
use Rattle.pm_bid.specs.declared.fault.BidFault.{BidFault}
use Rattle.pm_bid.specs.declared.fault.BidFault.TheVariants.{WrongLength, Rising, TooLarge}

-- whether each element but the last is below the next
abbrev pub rises : List ℤ → List Bool
rises bid = zip2 int_lt bid (drop 1 bid)

-- the first step whose demand is above the one before; the length or more if there is none
abbrev pub first_rising : List ℤ → ℕ
first_rising bid = 1 + position_or_len (λ rise. rise) (rises bid)

-- whether a demand is outside the limit of one demand
abbrev pub is_too_large : ℤ → Bool
is_too_large demand = int_lt (pos demand_limit) demand || int_lt demand (neg_ℤ (pos demand_limit))

-- the first step whose demand is too large; the length if there is none
abbrev pub first_too_large : List ℤ → ℕ
first_too_large bid = position_or_len is_too_large bid

-- the bid of a list, or the first fault of the list
abbrev pub checked_bid : ℕ → List ℤ → Result (List ℤ) BidFault
checked_bid steps bid =
    if length bid == steps
    then (if nat_lt (first_rising bid) (length bid)
    then Err (Rising (first_rising bid))
    else (if nat_lt (first_too_large bid) (length bid) then Err (TooLarge (first_too_large bid)) else Ok bid))
    else Err (WrongLength (length bid))
