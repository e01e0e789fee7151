-- Sums within limits: no power stays no power, and limits that never bind change nothing.
use Rattle.std.proofs.Common.{◌≡◌, ◌∙◌, ap, ℕ, zero, suc, ◌<◌, ℤ, pos, List, ◌∷◌, length, Option, Some, None, refl, arith}
use Rattle.std.specs.Prelude.{◌≤ℤ◌, int_lt, if◌then◌else◌}
use Rattle.std.proofs.lemmas.Int.{ints, clamps}
use Rattle.pm_base.specs.Limits.{AreLimits}
use Rattle.pm_base.specs.declared.limits.Limits.{Limits}
use Rattle.pm_base.proofs.Ints.{not_below}
use Rattle.pm_bid.specs.Bids.{demand_at, zeros, clamp, nearest_in_range}
use Rattle.pm_bid.specs.Clearing.{first_at_most, last_at_least}
use Rattle.pm_bid.specs.Limited.{within_limits, step_within, NeverBind}
use Rattle.pm_bid.proofs.EachStep.{same_bids, clamp-at, length-clamped}

-- power 0 lies between a floor and a ceiling
nearest_in_range-none : (floor ceiling : ℤ) → floor ≤ℤ pos 0 → pos 0 ≤ℤ ceiling → nearest_in_range floor ceiling (pos 0) ≡ pos 0
nearest_in_range-none floor ceiling low high = omega (arith, ints, clamps)

-- zeros lie within any limits
pub clamp-zeros : (limits : Limits) (steps : ℕ) → AreLimits limits → clamp limits.floor limits.ceiling (zeros steps) ≡ zeros steps
clamp-zeros limits zero are = refl
clamp-zeros limits (suc steps) are =
    ap (λ z. z ∷ clamp limits.floor limits.ceiling (zeros steps))
    (nearest_in_range-none limits.floor limits.ceiling are.floor_not_positive are.ceiling_not_negative)
    ∙ ap (λ zs. pos 0 ∷ zs) (clamp-zeros limits steps are)

-- a sum of zeros stays so within limits, where there are some
pub within_limits-zeros : (limits : Option Limits) (steps : ℕ) → ((l : Limits) → limits ≡ Some l → AreLimits l) →
    within_limits limits (zeros steps) ≡ zeros steps
within_limits-zeros None steps around = refl
within_limits-zeros (Some limits) steps around = clamp-zeros limits steps (around limits refl)

nearest_in_range-itself : (floor ceiling demand : ℤ) → floor ≤ℤ demand → demand ≤ℤ ceiling → nearest_in_range floor ceiling demand ≡ demand
nearest_in_range-itself floor ceiling demand low high = omega (arith, ints, clamps)

-- a sum that limits never bind stays as it is within them
pub clamp-unbound : (limits : Limits) (sum : List ℤ) → NeverBind limits sum → clamp limits.floor limits.ceiling sum ≡ sum
clamp-unbound limits sum never =
    same_bids (clamp limits.floor limits.ceiling sum) sum (length-clamped limits.floor limits.ceiling sum) (λ step lt.
    let inside : step < length sum = omega (arith, lt, length-clamped limits.floor limits.ceiling sum) in
    clamp-at limits.floor limits.ceiling sum step inside
    ∙ nearest_in_range-itself limits.floor limits.ceiling (demand_at sum step) (never step inside).0 (never step inside).1)

-- a step at which limits do not bind the sum stays as it is
pub step_within-unbound : (limits : Limits) (sum : List ℤ) (k : ℕ) → NeverBind limits sum → k < length sum → step_within limits k sum ≡ k
step_within-unbound limits sum k never inside =
    ap (λ b. if b then first_at_most limits.ceiling sum else (if int_lt (demand_at sum k) limits.floor then last_at_least limits.floor sum else k))
    (not_below limits.ceiling (demand_at sum k) (never k inside).1)
    ∙ ap (λ b. if b then last_at_least limits.floor sum else k) (not_below (demand_at sum k) limits.floor (never k inside).0)
