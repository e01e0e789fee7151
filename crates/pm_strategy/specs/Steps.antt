-- Demands and thresholds at the steps of a market basis.
use Rattle.std.specs.Prelude.{ℕ, ◌-◌, ℤ, pos, neg_ℤ, ◌*ℤ◌, int_le, if◌then◌else◌, List, map}
use Rattle.std.specs.List.{range_with_len}
use Rattle.pm_base.specs.Limits.{most_steps}
use Rattle.pm_device.specs.Ticks.{floor_div}

-- the last step of a basis is at most this
abbrev pub last_limit : ℕ
last_limit = most_steps - 1

-- a list with one demand for each step, from step 0
abbrev pub by_step : ℕ → (ℕ → ℤ) → List ℤ
by_step steps demand = map demand (range_with_len 0 steps)

-- the quotient by a divisor above 0, rounded up
abbrev pub ceil_div : ℤ → ℤ → ℤ
ceil_div number divisor = neg_ℤ (floor_div (neg_ℤ number) divisor)

-- the step that is to the last step as the part is to the whole, rounded down, and rounded up
abbrev pub share : ℤ → ℤ → ℕ → ℤ
share part whole last = floor_div (part *ℤ pos last) whole

abbrev pub share_up : ℤ → ℤ → ℕ → ℤ
share_up part whole last = ceil_div (part *ℤ pos last) whole

-- a power at the steps up to this one, and none above
abbrev pub up_to : ℤ → ℤ → ℕ → ℤ
up_to power end step = if int_le (pos step) end then power else pos 0

-- a power at this step and above, and none below
abbrev pub from_on : ℤ → ℤ → ℕ → ℤ
from_on power start step = if int_le start (pos step) then power else pos 0
