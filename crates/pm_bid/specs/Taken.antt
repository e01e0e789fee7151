-- A relay of the market across machines: the step that it passes down, and what it announces, which is what its devices take there.
use Rattle.std.specs.Prelude.{ℕ, ◌<◌, ℤ, pos, neg_ℤ, ◌≤ℤ◌, min, max, List, length, map, Option, Some, None}
use Rattle.std.specs.List.{range_with_len}
use Rattle.pm_base.specs.Limits.{demand_limit, IsWithin}
use Rattle.pm_base.specs.declared.limits.Limits.{Limits}
use Rattle.pm_bid.specs.Bids.{demand_at, nearest_in_range}
use Rattle.pm_bid.specs.Clearing.{first_at_most, last_at_least}

-- a demand within limits
pub record IsWithinLimits (limits : Limits) (demand : ℤ) : Type 0 where
  pub floor : limits.floor ≤ℤ demand
  pub ceiling : demand ≤ℤ limits.ceiling

-- The step for which a relay settles, if the market above it clears at step k: of the steps from the first at most the ceiling
-- to the last at least the floor the nearest to k. If there are none of these, as where the sum jumps over the limits, it is the
-- first at most the ceiling for every k.
abbrev pub settled_in : Limits → ℕ → List ℤ → ℕ
settled_in limits k sum = max (first_at_most limits.ceiling sum) (min k (last_at_least limits.floor sum))

-- the nearest demand that a bid may have
abbrev pub nearest_said : ℤ → ℤ
nearest_said demand = nearest_in_range (neg_ℤ (pos demand_limit)) (pos demand_limit) demand

-- at each step what is taken at the nearest of the steps from the first to the last, as far as a bid may say it
abbrev pub said_at : ℕ → ℕ → List ℤ → ℕ → ℤ
said_at first last sum k = nearest_said (demand_at sum (max first (min k last)))

unfoldable pub said_between : ℕ → ℕ → List ℤ → List ℤ
said_between first last sum = map (said_at first last sum) (range_with_len 0 (length sum))

-- what a relay announces: what its devices take at the step for which it settles
abbrev pub announced_in : Limits → List ℤ → List ℤ
announced_in limits sum = said_between (first_at_most limits.ceiling sum) (last_at_least limits.floor sum) sum

-- the same, with the step and the sum as they are if there are no limits
abbrev pub settled_step : Option Limits → ℕ → List ℤ → ℕ
settled_step None k sum = k
settled_step (Some limits) k sum = settled_in limits k sum

abbrev pub announced : Option Limits → List ℤ → List ℤ
announced None sum = sum
announced (Some limits) sum = announced_in limits sum

-- what is taken at the step for which a relay settles may be said in a bid
abbrev pub CanSay : Option Limits → ℕ → List ℤ → Type 0
CanSay None k sum = Unit {0}
CanSay (Some limits) k sum = IsWithin demand_limit (demand_at sum (settled_in limits k sum))

-- some step of the sum is within the limits
pub record HasStepWithin (limits : Limits) (sum : List ℤ) : Type 0 where
  pub step : ℕ
  pub inside : step < length sum
  pub keeps : IsWithinLimits limits (demand_at sum step)

-- limits that a bid may say
pub record AreSmall (limits : Limits) : Type 0 where
  pub floor : IsWithin demand_limit limits.floor
  pub ceiling : IsWithin demand_limit limits.ceiling
