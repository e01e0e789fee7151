-- Point bids: a demand function of the price, drawn through a list of points.
use Rattle.std.specs.Prelude.{ℕ, ◌+◌, ◌<◌, ◌≤◌, ◌==◌, ℤ, pos, ◌+ℤ◌, ◌-ℤ◌, ◌*ℤ◌, neg_ℤ, ◌≤ℤ◌, ◌<ℤ◌}
use Rattle.std.specs.Prelude.{int_lt, if◌then◌else◌, List, [], ◌∷◌, length, map}
use Rattle.std.specs.Prelude.{slice_index_or, Option, Some, None, option_map}
use Rattle.std.specs.Int.{int_div_euclid}
use Rattle.std.specs.List.{range_with_len}
use Rattle.std.specs.Option.{option_or}
use Rattle.pm_basis.specs.Prices.{BasisValue, price_at}
use Rattle.pm_base.specs.Limits.{demand_limit, IsWithin, price_limit}

-- a price in price units, and the demand at that price in watts
abbrev pub Point : Type 0
Point = ℤ × ℤ

abbrev pub price_of_point : Point → ℤ
price_of_point point = point.0

abbrev pub demand_of_point : Point → ℤ
demand_of_point point = point.1

-- the point at a position
abbrev pub point_at : List Point → ℕ → Point
point_at points position = slice_index_or points position (pos 0, pos 0)

-- the largest number of points of a bid
abbrev pub max_points : ℕ
max_points = 64

-- what holds of each point bid
pub record IsPointBid (points : List Point) : Type 0 where
  pub at_least_one : 1 ≤ length points
  pub at_most_limit : length points ≤ max_points
  pub prices_never_fall : (k : ℕ) → k + 1 < length points → price_of_point (point_at points k) ≤ℤ price_of_point (point_at points (k + 1))
  pub demands_never_rise : (k : ℕ) → k + 1 < length points → demand_of_point (point_at points (k + 1)) ≤ℤ demand_of_point (point_at points k)
  pub prices_within : (k : ℕ) → k < length points → IsWithin price_limit (price_of_point (point_at points k))
  pub demands_within : (k : ℕ) → k < length points → IsWithin demand_limit (demand_of_point (point_at points k))

-- the place of the last point whose price is at most this price, if there is one
abbrev pub last_at_most : List Point → ℤ → Option ℕ
last_at_most [] price = None
last_at_most (point ∷ later) price =
    option_or (option_map (λ place. place + 1) (last_at_most later price)) (if int_lt price (price_of_point point) then None else Some 0)

-- the point at this place has a price that is at most this price, and no later point has
pub record IsLastAtMost (points : List Point) (price : ℤ) (place : ℕ) : Type 0 where
  pub inside : place < length points
  pub at_most : price_of_point (point_at points place) ≤ℤ price
  pub later_above : (k : ℕ) → place < k → k < length points → price <ℤ price_of_point (point_at points k)

-- the demand at a price on the straight line from one point to the next, rounded down
abbrev pub demand_between : Point → Point → ℤ → ℤ
demand_between from to price = demand_of_point from +ℤ int_div_euclid
    ((demand_of_point to -ℤ demand_of_point from) *ℤ (price -ℤ price_of_point from)) (price_of_point to -ℤ price_of_point from)

-- the demand at a price, given the place of the last point whose price is at most it: that of the first point if
-- there is none, that of the last point from there on, and else the one between that point and the next
abbrev pub demand_from : List Point → ℤ → Option ℕ → ℤ
demand_from points price None = demand_of_point (point_at points 0)
demand_from points price (Some place) =
    if place + 1 == length points
    then demand_of_point (point_at points place)
    else demand_between (point_at points place) (point_at points (place + 1)) price

-- the demand at a price
abbrev pub demand_at_price : List Point → ℤ → ℤ
demand_at_price points price = demand_from points price (last_at_most points price)

-- the demand at the price of each step of a basis
abbrev pub array_of_points : List Point → BasisValue → List ℤ
array_of_points points basis = map (λ step. demand_at_price points (price_at basis step)) (range_with_len 0 basis.steps)

-- a price from one point up to the next, whose demand is not greater
pub record IsBetween (from to : Point) (price : ℤ) : Type 0 where
  pub from_price : price_of_point from ≤ℤ price
  pub to_price : price <ℤ price_of_point to
  pub falls : demand_of_point to ≤ℤ demand_of_point from
  pub least_price : neg_ℤ (pos price_limit) ≤ℤ price_of_point from
  pub greatest_price : price_of_point to ≤ℤ pos price_limit
  pub least_demand : neg_ℤ (pos demand_limit) ≤ℤ demand_of_point to
  pub greatest_demand : demand_of_point from ≤ℤ pos demand_limit
