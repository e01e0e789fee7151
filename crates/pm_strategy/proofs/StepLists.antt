-- Lists with one demand for each step.
use Rattle.std.proofs.Common.{◌≡◌, ℕ, ◌+◌, ◌<◌, ℤ, pos, ◌≤ℤ◌, length, sym, ap, arith, subst}
use Rattle.std.proofs.Math.Path.{fun_ext}
use Rattle.std.proofs.lemmas.List.FromFn.{length-map-range_with_len, get_or-map-range_with_len}
use Rattle.pm_bid.specs.Bids.{demand_at, AllWithinLimit, NeverRises}
use Rattle.pm_base.specs.Limits.{demand_limit, IsWithin}
use Rattle.pm_strategy.specs.Steps.{by_step}

-- a list with one demand for each step has so many steps
pub length-by_step : (steps : ℕ) (demand : ℕ → ℤ) → length (by_step steps demand) ≡ steps
length-by_step steps demand = length-map-range_with_len demand 0 steps

-- at each of its steps a list by step has the demand of that step
pub by_step-at : (steps : ℕ) (demand : ℕ → ℤ) (step : ℕ) → step < steps → demand_at (by_step steps demand) step ≡ demand step
by_step-at steps demand step inside = get_or-map-range_with_len demand 0 steps step step (pos 0) inside (omega arith)

-- demands that agree at each step make one list
pub by_step-same : (steps : ℕ) (f g : ℕ → ℤ) → ((step : ℕ) → f step ≡ g step) → by_step steps f ≡ by_step steps g
by_step-same steps f g same = ap (by_step steps) (fun_ext same)

-- a list of demands within the limit, and one of demands that never rise
pub by_step-within : (steps : ℕ) (demand : ℕ → ℤ) → ((step : ℕ) → IsWithin demand_limit (demand step)) →
    AllWithinLimit demand_limit (by_step steps demand)
by_step-within steps demand within = λ step inside.
    let P : ℤ → Type 0 = λ z. IsWithin demand_limit z in
    subst P (sym (by_step-at steps demand step (omega (arith, length-by_step steps demand)))) (within step)

-- a list by step never rises where no demand is above that of the step before
pub by_step-falls : (steps : ℕ) (demand : ℕ → ℤ) → ((step : ℕ) → demand (step + 1) ≤ℤ demand step) → NeverRises (by_step steps demand)
by_step-falls steps demand falls = λ step inside.
    rw (
      by_step-at steps demand (step + 1) (omega (arith, length-by_step steps demand)),
      by_step-at steps demand step (omega (arith, length-by_step steps demand)),
    ) (falls step)
