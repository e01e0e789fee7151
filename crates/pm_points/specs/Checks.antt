-- When a list of points is a bid, and else its first fault.
use Rattle.std.specs.Prelude.{ℕ, ◌+◌, ℤ, int_lt, Bool, ◌||◌, if◌then◌else◌, ◌==◌, nat_lt, List, length, drop, Result, Ok, Err}
use Rattle.std.specs.List.{position_or_len}
use Rattle.std.specs.Simd.Lanes.{zip2}
use Rattle.pm_basis.specs.Prices.{BasisValue}
use Rattle.pm_bid.specs.Checks.{is_too_large}
use Rattle.pm_points.specs.Points.{Point, max_points, demand_of_point, price_of_point}
use Rattle.pm_points.specs.declared.fault.PointFault.{PointFault}
use Rattle.pm_points.specs.declared.fault.PointFault.TheVariants.{NoPoints, TooMany, PriceFalls, Rising, TooLarge, PriceOutside}

-- the first point that meets the test together with the one before it; the number of points if
-- there is none, of a list that is not empty
abbrev pub first_after : (Point → Point → Bool) → List Point → ℕ
first_after test points = 1 + position_or_len (λ met. met) (zip2 test points (drop 1 points))

-- whether the price falls from a point to the next
abbrev pub price_falls : Point → Point → Bool
price_falls before point = int_lt (price_of_point point) (price_of_point before)

-- whether the demand rises from a point to the next
abbrev pub demand_rises : Point → Point → Bool
demand_rises before point = int_lt (demand_of_point before) (demand_of_point point)

-- the first point whose price is below the one before
abbrev pub first_price_fall : List Point → ℕ
first_price_fall points = first_after price_falls points

-- the first point whose demand is above the one before
abbrev pub first_rise : List Point → ℕ
first_rise points = first_after demand_rises points

-- the first point whose demand is outside the limit of one demand; their number if there is none
abbrev pub first_large_demand : List Point → ℕ
first_large_demand points = position_or_len (λ point. is_too_large (demand_of_point point)) points

-- whether a price is outside the prices of a basis
abbrev pub is_outside : BasisValue → ℤ → Bool
is_outside basis price = int_lt price basis.min || int_lt basis.max price

-- the first point whose price is outside the basis; their number if there is none
abbrev pub first_outside : BasisValue → List Point → ℕ
first_outside basis points = position_or_len (λ point. is_outside basis (price_of_point point)) points

-- the bid of a list of points, or the first fault of the list
abbrev pub checked_points : BasisValue → List Point → Result (List Point) PointFault
checked_points basis points =
    if length points == 0
    then Err NoPoints
    else (if nat_lt max_points (length points)
    then Err (TooMany (length points))
    else (if nat_lt (first_price_fall points) (length points)
    then Err (PriceFalls (first_price_fall points))
    else (if nat_lt (first_rise points) (length points)
    then Err (Rising (first_rise points))
    else (if nat_lt (first_large_demand points) (length points)
    then Err (TooLarge (first_large_demand points))
    else (if nat_lt (first_outside basis points) (length points) then Err (PriceOutside (first_outside basis points)) else Ok points)))))
