-- Of `step_of`: what it ensures; what the calls of `distance` and `step_at` require.
use Rattle.std.proofs.Common.{◌≡◌, ◌∙◌, subst, refl, ℕ, ◌-◌, ◌≤◌, ℤ, pos, ◌≤ℤ◌, false, w64, to_z, of_z, None, arith}
use Rattle.std.specs.Prelude.{◌-ℤ◌, int_lt}
use Rattle.std.proofs.lemmas.Int.{ints, to_z-of_z}
use Rattle.pm_base.specs.Limits.{price_limit}
use Rattle.pm_base.proofs.Ints.{is_not_below}
use Rattle.pm_basis.specs.Prices.{BasisValue, IsBasis}
use Rattle.pm_check.proofs.StepPrices.{IsRange, even_range, price_between, reads_price}
use Rattle.pm_check.proofs.Readings.{reads_none}
use Rattle.pm_check.proofs.reading.prices.step_of.Goals as goal
use Rattle.pm_check.proofs.reading.prices.step_of.Goals.{then-price-min-via-then-price-min, then-price-min-via-else-price-min+then-max-price}

-- a number as the code has it
abbrev word : ℤ → ℤ
word told = to_z w64 (of_z w64 told)

module _ (basis : BasisValue) (sound : IsBasis basis) where
  -- the least and the greatest price stay the same
  min_is : (told : ℤ) → told ≡ basis.min → word told ≡ basis.min
  min_is told is = omega (arith, ints, is, sound.low, sound.order, sound.high)

  max_is : (told : ℤ) → told ≡ basis.max → word told ≡ basis.max
  max_is told is = omega (arith, ints, is, sound.low, sound.order, sound.high)

  -- a price that is not below the least, and one that is not above the greatest
  from_min : (told price : ℤ) → told ≡ basis.min → int_lt price (word told) ≡ false → basis.min ≤ℤ price
  from_min told price is test = subst (λ z. z ≤ℤ price) (min_is told is) (is_not_below price (word told) test)

  to_max : (told price : ℤ) → told ≡ basis.max → int_lt (word told) price ≡ false → price ≤ℤ basis.max
  to_max told price is test = subst (λ z. price ≤ℤ z) (max_is told is) (is_not_below (word told) price test)

  high_price : (price : ℤ) → price ≤ℤ basis.max → price ≤ℤ pos price_limit
  high_price price within = omega (arith, ints, within, sound.high)

  module _ (min max : ℤ) (min_told : min ≡ basis.min) (max_told : max ≡ basis.max) (range : ℕ) (range_told : pos range ≡ word max -ℤ word min) where
    -- the range of the prices
    whole : pos range ≡ basis.max -ℤ basis.min
    whole = range_told ∙ (λ i. max_is max max_told i -ℤ min_is min min_told i)

    some_range : 1 ≤ range
    some_range = omega (arith, ints, whole, sound.order)

    range_is : (steps : ℕ) → steps ≡ basis.steps → IsRange basis range (steps - 1)
    range_is steps told = record { whole = whole; steps = omega (arith, told, sound.steps.least) }

    -- a price up to the greatest rises within it
    rises_within : (least price : ℤ) (rise : ℕ) → least ≡ basis.min → pos rise ≡ price -ℤ word least → price ≤ℤ basis.max → rise ≤ range
    rises_within least price rise told is within = let from = min_is least told in omega (arith, ints, whole, is, from, within)

pub returns-then-price-min : goal.returns-then-price-min
returns-then-price-min c =
    let basis = c.args.basis.now in
    reads_none _ _ c.args.price None refl (λ k inside same.
    let within = price_between basis c.min.ensures.sound k inside in
    elim c.then-price-min.branch [
      | then-price-min-via-then-price-min w ↦ absurd (omega (arith, ints, w.if-price-min.true, within.0, same, c.min.ensures.min))
      | then-price-min-via-else-price-min+then-max-price w ↦ absurd (omega (arith, ints, w.if-max-price.true, within.1, same, w.max.ensures.max))
    ])

pub distance-range-requires-clause-low : goal.distance-range-requires-clause-low
distance-range-requires-clause-low c = rw (min_is _ c.min.ensures.sound c.min-2.result c.min-2.ensures.min) c.min.ensures.sound.low

pub distance-range-requires-clause-order : goal.distance-range-requires-clause-order
distance-range-requires-clause-order c =
    let sound = c.min.ensures.sound in
    rw (min_is _ sound c.min-2.result c.min-2.ensures.min, max_is _ sound c.max-2.result c.max-2.ensures.max) (omega (arith, ints, sound.order))

pub distance-range-requires-clause-high : goal.distance-range-requires-clause-high
distance-range-requires-clause-high c = rw (max_is _ c.min.ensures.sound c.max-2.result c.max-2.ensures.max) c.min.ensures.sound.high

pub distance-rise-requires-clause-low : goal.distance-rise-requires-clause-low
distance-rise-requires-clause-low c = rw (min_is _ c.min.ensures.sound c.min-3.result c.min-3.ensures.min) c.min.ensures.sound.low

pub distance-rise-requires-clause-order : goal.distance-rise-requires-clause-order
distance-rise-requires-clause-order c =
    let sound = c.min.ensures.sound in
    rw (min_is _ sound c.min-3.result c.min-3.ensures.min) (from_min _ sound c.min.result _ c.min.ensures.min c.if-price-min.false)

pub distance-rise-requires-clause-high : goal.distance-rise-requires-clause-high
distance-rise-requires-clause-high c =
    let sound = c.min.ensures.sound in
    high_price _ sound _ (to_max _ sound c.max.result _ c.max.ensures.max c.if-max-price.false)

pub step_at-requires-clause-range : goal.step_at-requires-clause-range
step_at-requires-clause-range c =
    some_range _ c.min.ensures.sound c.min-2.result c.max-2.result c.min-2.ensures.min c.max-2.ensures.max _ c.distance-range.ensures

pub step_at-requires-clause-within : goal.step_at-requires-clause-within
step_at-requires-clause-within c =
    let sound = c.min.ensures.sound in
    rises_within _ sound c.min-2.result c.max-2.result c.min-2.ensures.min c.max-2.ensures.max _ c.distance-range.ensures c.min-3.result _ _
    c.min-3.ensures.min c.distance-rise.ensures (to_max _ sound c.max.result _ c.max.ensures.max c.if-max-price.false)

pub step_at-requires-clause-even : goal.step_at-requires-clause-even
step_at-requires-clause-even c =
    let sound = c.min.ensures.sound in
    even_range c.args.basis.now sound c.distance-range.result (c.steps.result - 1)
    (range_is _ sound c.min-2.result c.max-2.result c.min-2.ensures.min c.max-2.ensures.max _ c.distance-range.ensures _ c.steps.ensures.steps)

pub returns : goal.returns
returns c =
    let basis = c.args.basis.now in
    let sound = c.min.ensures.sound in
    let is = range_is _ sound c.min-2.result c.max-2.result c.min-2.ensures.min c.max-2.ensures.max _ c.distance-range.ensures _ c.steps.ensures.steps in
    let rise : pos c.distance-rise.result ≡ c.args.price -ℤ basis.min = c.distance-rise.ensures
    ∙ (λ i. to_z-of_z w64 c.args.price c.ranges.price i -ℤ min_is basis sound c.min-3.result c.min-3.ensures.min i) in
    reads_price basis c.distance-range.result (c.steps.result - 1) c.distance-rise.result c.args.price c.step_at.result is rise c.step_at.ensures
