-- Levels that stand for a demand.
use Rattle.std.proofs.Common.{◌≡◌, ℕ, ℤ, pos, ◌<ℤ◌, ◌≤ℤ◌, ◌+ℤ◌, ◌-ℤ◌, neg_ℤ, int_lt, int_le}
use Rattle.std.proofs.Common.{Bool, true, false, if◌then◌else◌, arith, refl}
use Rattle.std.proofs.lemmas.Int.{ints}
use Rattle.pm_strategy.specs.Steps.{up_to}
use Rattle.pm_strategy.specs.Strategies.{around}
use Rattle.pm_strategy.specs.Levels.{level_at}
use Rattle.pm_strategy.specs.declared.levels.Levels.{Levels}

-- one level up to a step is one below the next step
below_next : (step : ℕ) (end : ℤ) → int_lt (pos step) (end +ℤ pos 1) ≡ int_le (pos step) end
below_next step end = grind (arith, ints)

-- a power at the steps below `end` + 1, and 0 from there on, is that power up to `end`
pub before-up_to : (power end : ℤ) (step : ℕ) → (if int_lt (pos step) (end +ℤ pos 1) then power else pos 0) ≡ up_to power end step
before-up_to power end step = rw (below_next step end)

-- the tests of a battery's levels
below_middle : (step : ℕ) (middle spread : ℤ) → int_lt (pos step) (middle -ℤ spread) ≡ int_lt (pos step +ℤ spread) middle
below_middle step middle spread = grind (arith, ints)

choose_swapped : (at_most above : Bool) (x y : ℤ) → (at_most ≡ true → above ≡ false) → (at_most ≡ false → above ≡ true) →
    (if at_most then x else y) ≡ (if above then y else x)
choose_swapped true true x y low high = absurd (let h = low refl in cc)
choose_swapped true false x y low high = refl
choose_swapped false true x y low high = refl
choose_swapped false false x y low high = absurd (let h = high refl in cc)

not_above : (step : ℕ) (end : ℤ) → int_lt (pos step) (end +ℤ pos 1) ≡ true → int_lt end (pos step) ≡ false
not_above step end h = grind (arith, ints)

is_above : (step : ℕ) (end : ℤ) → int_lt (pos step) (end +ℤ pos 1) ≡ false → int_lt end (pos step) ≡ true
is_above step end h = grind (arith, ints)

-- three levels, told apart by where the first and the second end, are a battery's demand round a middle step
pub around-levels : (middle charge discharge spread : ℤ) (step : ℕ) →
    (if int_lt (pos step) (middle -ℤ spread) then charge else
    (if int_lt (pos step) ((middle +ℤ spread) +ℤ pos 1) then pos 0 else neg_ℤ discharge)) ≡ around middle charge discharge spread step
around-levels middle charge discharge spread step =
    rw (
      below_middle step middle spread,
      choose_swapped (int_lt (pos step) ((middle +ℤ spread) +ℤ pos 1)) (int_lt (middle +ℤ spread) (pos step)) (pos 0) (neg_ℤ discharge)
          (not_above step (middle +ℤ spread)) (is_above step (middle +ℤ spread)),
    )

-- before the first end the first level holds
pub level_at-first : (levels : Levels) (step : ℕ) → pos step <ℤ levels.first_end → level_at levels step ≡ levels.first
level_at-first levels step below =
    let is : int_lt (pos step) levels.first_end ≡ true = grind (arith, ints) in
    rw is

-- from the first end on, and before the second, the second level holds
pub level_at-second : (levels : Levels) (step : ℕ) → levels.first_end ≤ℤ pos step → pos step <ℤ levels.second_end →
    level_at levels step ≡ levels.second
level_at-second levels step above below =
    let is_not : int_lt (pos step) levels.first_end ≡ false = grind (arith, ints) in
    let is : int_lt (pos step) levels.second_end ≡ true = grind (arith, ints) in
    rw (is_not, is)

-- behind both ends the third level holds
pub level_at-third : (levels : Levels) (step : ℕ) → levels.first_end ≤ℤ pos step → levels.second_end ≤ℤ pos step →
    level_at levels step ≡ levels.third
level_at-third levels step above higher =
    let is_not : int_lt (pos step) levels.first_end ≡ false = grind (arith, ints) in
    let is_not_second : int_lt (pos step) levels.second_end ≡ false = grind (arith, ints) in
    rw (is_not, is_not_second)
