-- A list of points that passes every check is a point bid.
use Rattle.std.proofs.Common.{◌≡◌, ◌≤◌, ℤ, pos, false, List, length, arith}
use Rattle.std.proofs.lemmas.Int.{ints}
use Rattle.std.proofs.lemmas.List.Sums.{fails_before_first}
use Rattle.pm_basis.specs.Prices.{BasisValue, IsBasis}
use Rattle.pm_base.specs.Limits.{IsWithin, price_limit}
use Rattle.pm_bid.specs.Checks.{is_too_large}
use Rattle.pm_points.specs.Points.{Point, IsPointBid, point_at, max_points, demand_of_point, price_of_point}
use Rattle.pm_points.specs.Checks.{price_falls, demand_rises, first_price_fall, first_rise, first_outside, is_outside, first_large_demand}
use Rattle.pm_points.proofs.FoundPoint.{fails_after}
use Rattle.pm_base.proofs.Ints.{is_not_below}
use Rattle.pm_bid.proofs.EachStep.{within_from_small}

inside_price : (basis : BasisValue) (price : ℤ) → IsBasis basis → is_outside basis price ≡ false → IsWithin price_limit price
inside_price basis price sound inside =
    let low = sound.low in
    let high = sound.high in
    record { low = grind (arith, ints); high = grind (arith, ints) }

-- points that are neither none nor too many, and in which no check finds a fault, are a point bid
pub passed_all : (basis : BasisValue) (points : List Point) → IsBasis basis → 1 ≤ length points → length points ≤ max_points →
    length points ≤ first_price_fall points → length points ≤ first_rise points → length points ≤ first_large_demand points →
    length points ≤ first_outside basis points → IsPointBid points
passed_all basis points sound some few fall rise large outside = record {
  at_least_one = some;
  at_most_limit = few;
  prices_never_fall = λ k inside. is_not_below _ _ (fails_after price_falls points fall k inside);
  demands_never_rise = λ k inside. is_not_below _ _ (fails_after demand_rises points rise k inside);
  prices_within = λ k inside. inside_price basis (price_of_point (point_at points k)) sound
      (fails_before_first (λ point. is_outside basis (price_of_point point)) points k (pos 0, pos 0) (omega arith));
  demands_within = λ k inside. within_from_small (demand_of_point (point_at points k))
      (fails_before_first (λ point. is_too_large (demand_of_point point)) points k (pos 0, pos 0) (omega arith));
}
