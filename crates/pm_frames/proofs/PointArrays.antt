-- That the array of a point bid over its basis is a bid.
use Rattle.std.proofs.Common.{◌≡◌, sym, subst, ◌≤◌, ℤ, List, length, Ok, arith}
use Rattle.std.proofs.lemmas.Bool.Decides.{nat_tests}
use Rattle.pm_basis.specs.Prices.{BasisValue, IsBasis}
use Rattle.pm_bid.specs.Checks.{checked_bid}
use Rattle.pm_points.specs.Points.{Point, IsPointBid, array_of_points, max_points}
use Rattle.pm_points.specs.Checks.{checked_points, first_price_fall, first_rise, first_large_demand, first_outside}
use Rattle.pm_points.proofs.Falls.{length-array_of, array_falls, array_within}
use Rattle.pm_points.proofs.Passed.{passed_all}
use Rattle.pm_wire.proofs.ZeroBids.{is_bid}

-- points that pass the checks are a point bid
checked_are : (basis : BasisValue) (points : List Point) → IsBasis basis → checked_points basis points ≡ Ok points → IsPointBid points
checked_are basis points sound h =
    let some : 1 ≤ length points = grind (arith, nat_tests) in
    let few : length points ≤ max_points = grind (arith, nat_tests) in
    let fall : length points ≤ first_price_fall points = grind (arith, nat_tests) in
    let rise : length points ≤ first_rise points = grind (arith, nat_tests) in
    let large : length points ≤ first_large_demand points = grind (arith, nat_tests) in
    let outside : length points ≤ first_outside basis points = grind (arith, nat_tests) in
    passed_all basis points sound some few fall rise large outside

-- so their array is a bid
pub array_is_bid : (basis : BasisValue) (points : List Point) (array : List ℤ) → IsBasis basis → checked_points basis points ≡ Ok points →
    array ≡ array_of_points points basis → checked_bid (length array) array ≡ Ok array
array_is_bid basis points array sound h is =
    let bid = checked_are basis points sound h in
    let P : List ℤ → Type 0 = λ l. checked_bid (length l) l ≡ Ok l in
    let some : 1 ≤ length (array_of_points points basis) = omega (arith, length-array_of points basis, sound.steps.least) in
    subst P (sym is) (is_bid (array_of_points points basis) some (array_falls points basis bid sound) (array_within points basis bid))
