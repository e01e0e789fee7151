-- A part of the cluster with limits on its power: what it announces, and the step of the nodes below it.
use Rattle.std.specs.Prelude.{ℕ, ◌<◌, ℤ, ◌≤ℤ◌, int_lt, if◌then◌else◌, List, length, Option, Some, None}
use Rattle.pm_base.specs.declared.limits.Limits.{Limits}
use Rattle.pm_bid.specs.Bids.{demand_at, clamp}
use Rattle.pm_bid.specs.Clearing.{first_at_most, last_at_least}

-- a sum with each demand moved to the nearest number within the limits, if there are some
abbrev pub within_limits : Option Limits → List ℤ → List ℤ
within_limits None sum = sum
within_limits (Some limits) sum = clamp limits.floor limits.ceiling sum

-- the step at which a sum stays within limits, if the whole cluster clears at step k: k if the sum there lies
-- within them; if it is above the ceiling, the first step at which it is at most the ceiling; if it is below
-- the floor, the last step at which it is at least the floor
abbrev pub step_within : Limits → ℕ → List ℤ → ℕ
step_within limits k sum =
    if int_lt limits.ceiling (demand_at sum k)
    then first_at_most limits.ceiling sum
    else (if int_lt (demand_at sum k) limits.floor then last_at_least limits.floor sum else k)

-- the same, and k if there are no limits
abbrev pub local_step : Option Limits → ℕ → List ℤ → ℕ
local_step None k sum = k
local_step (Some limits) k sum = step_within limits k sum

-- no demand of a sum lies outside the limits, which do not bind it then
abbrev pub NeverBind : Limits → List ℤ → Type 0
NeverBind limits sum = (step : ℕ) → step < length sum → (limits.floor ≤ℤ demand_at sum step) × (demand_at sum step ≤ℤ limits.ceiling)
