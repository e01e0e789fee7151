-- The prices of a market basis.
use Rattle.std.specs.Prelude.{◌≡◌, ℕ, ◌≤◌, ℤ, pos, ◌+ℤ◌, ◌-ℤ◌, ◌*ℤ◌, neg_ℤ, ◌≤ℤ◌, ◌<ℤ◌, int_lt, int_div}
use Rattle.std.specs.Prelude.{int_rem, unsigned_abs, Bool, ◌||◌, not, if◌then◌else◌, Result, Ok, Err}
use Rattle.std.specs.Ordering.{int_eq}
use Rattle.pm_base.specs.Limits.{least_steps, most_steps, AreSteps, price_limit}
use Rattle.pm_basis.specs.declared.fault.BasisFault.{BasisFault}
use Rattle.pm_basis.specs.declared.fault.BasisFault.TheVariants.{BadSteps, BadRange, Uneven}

-- so many prices at equal distances, from the least to the greatest
pub record BasisValue : Type 0 where
  pub min : ℤ
  pub max : ℤ
  pub steps : ℕ

-- the price of a step: min + k * (max - min) / (steps - 1)
abbrev pub price_at : BasisValue → ℕ → ℤ
price_at basis step = basis.min +ℤ int_div (pos step *ℤ (basis.max -ℤ basis.min)) (pos basis.steps -ℤ pos 1)

-- what holds of each basis
pub record IsBasis (basis : BasisValue) : Type 0 where
  pub steps : AreSteps basis.steps
  pub order : basis.min <ℤ basis.max
  pub low : neg_ℤ (pos price_limit) ≤ℤ basis.min
  pub high : basis.max ≤ℤ pos price_limit
  pub even : int_rem (basis.max -ℤ basis.min) (pos basis.steps -ℤ pos 1) ≡ pos 0

-- whether the number of steps is outside its limits
abbrev pub has_bad_steps : ℤ → Bool
has_bad_steps steps = int_lt steps (pos least_steps) || int_lt (pos most_steps) steps

-- whether the prices are no range within the limits
abbrev pub has_bad_range : ℤ → ℤ → Bool
has_bad_range min max = not (int_lt min max) || int_lt min (neg_ℤ (pos price_limit)) || int_lt (pos price_limit) max

-- whether the steps leave a rest of the range
abbrev pub is_uneven : ℤ → ℤ → ℤ → Bool
is_uneven min max steps = not (int_eq (int_rem (max -ℤ min) (steps -ℤ pos 1)) (pos 0))

-- the basis of these numbers, or their first fault
abbrev pub checked_basis : ℤ → ℤ → ℤ → Result BasisValue BasisFault
checked_basis min max steps =
    if has_bad_steps steps
    then Err BadSteps
    else (if has_bad_range min max
    then Err BadRange
    else (if is_uneven min max steps
    then Err Uneven
    else Ok (record { min = min; max = max; steps = unsigned_abs steps })))
