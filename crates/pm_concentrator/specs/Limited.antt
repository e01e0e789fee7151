-- What limits on its power add to a concentrator.
use Rattle.std.specs.Prelude.{ℕ, ◌<◌, ℤ, List, Option, Some, None}
use Rattle.pm_base.specs.declared.limits.Limits.{Limits}
use Rattle.pm_bid.specs.Limited.{local_step}
use Rattle.pm_bid.specs.Taken.{settled_step}

-- the limits, and the demand of the newest bid
pub record LimitedValue : Type 0 where
  pub limits : Limits
  pub announced : List ℤ

-- the sum that a record keeps: one only if there are limits
abbrev pub sum_kept : Option Limits → List ℤ → Option (List ℤ)
sum_kept None sum = None
sum_kept (Some limits) sum = Some sum

-- how many steps the sums of the records have
abbrev pub sum_steps : Option Limits → ℕ → Option ℕ
sum_steps None steps = None
sum_steps (Some limits) steps = Some steps

-- the step that is passed down for a price of step k and the sum that its record keeps
abbrev pub local_step_of_record : Option Limits → ℕ → Option (List ℤ) → ℕ
local_step_of_record limits k None = k
local_step_of_record limits k (Some sum) = local_step limits k sum

-- the step that is passed down if it settles for a step at which its limits are kept
abbrev pub settled_step_of_record : Option Limits → ℕ → Option (List ℤ) → ℕ
settled_step_of_record limits k None = k
settled_step_of_record limits k (Some sum) = settled_step limits k sum

-- if there are limits, the step of a price is one of the steps
abbrev pub IsStepOf : Option Limits → ℕ → ℕ → Type 0
IsStepOf None steps k = Unit {0}
IsStepOf (Some limits) steps k = k < steps
