-- The demand on the straight line from one point to the next, over plain whole numbers.
use Rattle.std.proofs.Common.{ℤ, ◌≤ℤ◌, arith}
use Rattle.std.specs.Prelude.{◌-ℤ◌, ◌<ℤ◌}
use Rattle.std.proofs.lemmas.Int.{ints}
use Rattle.pm_points.specs.Points.{demand_between}
use Rattle.pm_points.proofs.Floors.{floor_falls, floor_stays, floor_further}

-- between two points the demand is at most that of the first
pub line_at_most : (first_price first_demand next_price next_demand price : ℤ) → first_price ≤ℤ price → price <ℤ next_price →
    next_demand ≤ℤ first_demand → demand_between (first_price, first_demand) (next_price, next_demand) price ≤ℤ first_demand
line_at_most a d b e p from to falls =
    omega (arith, ints, floor_falls (e -ℤ d) (p -ℤ a) (b -ℤ a) (omega (arith, ints)) (omega (arith, ints)) (omega (arith, ints)))

-- and at least that of the next
pub line_at_least : (first_price first_demand next_price next_demand price : ℤ) → first_price ≤ℤ price → price <ℤ next_price →
    next_demand ≤ℤ first_demand → next_demand ≤ℤ demand_between (first_price, first_demand) (next_price, next_demand) price
line_at_least a d b e p from to falls =
    omega (arith, ints, floor_stays (e -ℤ d) (p -ℤ a) (b -ℤ a) (omega (arith, ints)) (omega (arith, ints)) (omega (arith, ints)) (omega (arith, ints)))

-- and at a later price it is not greater
pub line_falls : (first_price first_demand next_price next_demand price later : ℤ) → first_price ≤ℤ price → price ≤ℤ later →
    later <ℤ next_price → next_demand ≤ℤ first_demand → demand_between (first_price, first_demand) (next_price, next_demand) later
    ≤ℤ demand_between (first_price, first_demand) (next_price, next_demand) price
line_falls a d b e p q from order to falls =
    omega (
      arith,
      ints,
      floor_further (e -ℤ d) (p -ℤ a) (q -ℤ a) (b -ℤ a) (omega (arith, ints)) (omega (arith, ints))
          (omega (arith, ints)) (omega (arith, ints)),
    )
