-- The step at which a market clears, and the steps at which a limit is met.
use Rattle.std.specs.Prelude.{ℕ, ◌+◌, ◌-◌, ◌<◌, ℤ, pos, ◌≤ℤ◌, ◌<ℤ◌, int_lt, min, List, length}
use Rattle.std.specs.List.{prefix_len, suffix_len}
use Rattle.pm_bid.specs.Bids.{demand_at}

-- the first step whose demand is at most the limit, and the last step if there is none: the demands before it are
-- above the limit, and its own is at most the limit unless it is the last
pub record IsFirstAtMost (limit : ℤ) (bid : List ℤ) (step : ℕ) : Type 0 where
  pub inside : step < length bid
  pub before : (earlier : ℕ) → earlier < step → limit <ℤ demand_at bid earlier
  pub met : step + 1 < length bid → demand_at bid step ≤ℤ limit

-- the last step whose demand is at least the limit, and step 0 if there is none: the demands after it are below the
-- limit, and its own is at least the limit unless it is step 0
pub record IsLastAtLeast (limit : ℤ) (bid : List ℤ) (step : ℕ) : Type 0 where
  pub inside : step < length bid
  pub after : (later : ℕ) → step < later → later < length bid → demand_at bid later <ℤ limit
  pub met : 0 < step → limit ≤ℤ demand_at bid step

-- these steps as functions: of a list with a step each is the only one
abbrev pub first_at_most : ℤ → List ℤ → ℕ
first_at_most limit bid = min (prefix_len (λ demand. int_lt limit demand) bid) (length bid - 1)

abbrev pub last_at_least : ℤ → List ℤ → ℕ
last_at_least limit bid = length bid - 1 - suffix_len (λ demand. int_lt demand limit) bid

-- a market with this total demand clears at the step: it is the first whose total is not positive, and the last if
-- all are positive
abbrev pub Clears : List ℤ → ℕ → Type 0
Clears total step = IsFirstAtMost (pos 0) total step

abbrev pub clearing_step : List ℤ → ℕ
clearing_step total = first_at_most (pos 0) total
