-- A target asked of a total: what comes of the market if so much power is to be taken off the total.
use Rattle.std.specs.Prelude.{ℕ, ℤ, ◌-ℤ◌, neg_ℤ, List, map, replicate}
use Rattle.pm_bid.specs.Bids.{demand_at}
use Rattle.pm_bid.specs.Clearing.{clearing_step}

-- the total with the target taken off at every step
abbrev pub less_target : ℤ → List ℤ → List ℤ
less_target target total = map (λ demand. demand -ℤ target) total

-- the step of a target: the one at which a market with the rest clears
abbrev pub asked_step : ℤ → List ℤ → ℕ
asked_step target total = clearing_step (less_target target total)

-- the rest at that step
abbrev pub asked_total : ℤ → List ℤ → ℤ
asked_total target total = demand_at (less_target target total) (asked_step target total)

-- the bid of a target: the negated target at each of so many steps, whatever the price
abbrev pub target_bid : ℤ → ℕ → List ℤ
target_bid target steps = replicate steps (neg_ℤ target)
