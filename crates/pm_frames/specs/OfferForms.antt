-- How a control says an offer: as an array, as points, or as the state of its kind of device. The demand for which points or a state stand
-- is the array of a point bid, or the bid of a device of that kind.
use Rattle.std.specs.Prelude.{◌≡◌, ℕ, ◌+◌, ◌-◌, ◌*◌, ◌≤◌, nat_lt, if◌then◌else◌, ℤ, List, [], ◌∷◌, ◌++◌}
use Rattle.std.specs.Prelude.{length, Option, Some, None, Ok, IsTrue, FitsSigned, ⊤}
use Rattle.std.specs.Int.{w32}
use Rattle.std.specs.List.{flat_map, AllByRecursion}
use Rattle.pm_basis.specs.Prices.{BasisValue}
use Rattle.pm_bid.specs.Checks.{checked_bid}
use Rattle.pm_points.specs.Points.{Point, price_of_point, demand_of_point, max_points, array_of_points}
use Rattle.pm_points.specs.Checks.{checked_points}
use Rattle.pm_device.specs.Kinds.{state_fits}
use Rattle.pm_device.specs.declared.kind.Kind.{Kind}
use Rattle.pm_device.specs.declared.state.DeviceState.{DeviceState}
use Rattle.pm_strategy.specs.Strategies.{bid_of}
use Rattle.pm_wire.specs.Frames.{signed_bytes, demand_bytes}
use Rattle.pm_frames.specs.Kinds.{offer_kind, state_kind, points_kind}
use Rattle.pm_frames.specs.Places.{basis_at, steps_at}
use Rattle.pm_frames.specs.declared.place.NodePlace.{NodePlace}
use Rattle.pm_frames.specs.declared.form.OfferForm.{OfferForm}
use Rattle.pm_frames.specs.declared.form.OfferForm.TheVariants.{Array, Points, State}

-- ---- bytes

abbrev pub point_bytes : Point → List ℕ
point_bytes point = signed_bytes (price_of_point point) ++ signed_bytes (demand_of_point point)

-- a price and a demand have four bytes each
abbrev pub PointFits : Point → Type 0
PointFits point = FitsSigned w32 (price_of_point point) × FitsSigned w32 (demand_of_point point)

-- the points, one behind the other
abbrev pub point_list_bytes : List Point → List ℕ
point_list_bytes points = flat_map point_bytes points

-- the first byte tells how many points there are
abbrev pub points_bytes : List Point → List ℕ
points_bytes points = (points_kind + length points) ∷ point_list_bytes points

abbrev pub state_bytes : DeviceState → List ℕ
state_bytes state = state_kind ∷ signed_bytes state.0

abbrev pub offer_bytes : OfferForm → List ℤ → List ℕ
offer_bytes Array demand = offer_kind ∷ demand_bytes demand
offer_bytes (Points points) demand = points_bytes points
offer_bytes (State state) demand = state_bytes state

-- how many bytes a frame of this kind has, if it is of points
abbrev pub points_size : ℕ → Option ℕ
points_size kind =
    if nat_lt points_kind kind
    then (if nat_lt (points_kind + max_points) kind then None else Some (1 + 8 * (kind - points_kind)))
    else None

-- ---- the demand

-- the array of the points over the basis that Hello had
abbrev pub points_demand : Option BasisValue → List Point → List ℤ
points_demand None points = []
points_demand (Some basis) points = array_of_points points basis

-- the bid of the kind in its state, over so many steps
abbrev pub state_demand : Option Kind → DeviceState → ℕ → List ℤ
state_demand None state steps = []
state_demand (Some kind) state steps = bid_of kind state.0 [] steps

-- each field has its bytes, and the demand is the one that is said
abbrev pub IsOfferFormed : NodePlace → OfferForm → List ℤ → Type 0
IsOfferFormed place Array demand = (length demand ≡ steps_at place.stage) × AllByRecursion (λ z. FitsSigned w32 z) demand
IsOfferFormed place (Points points) demand =
    (1 ≤ length points) × (length points ≤ max_points)
    × AllByRecursion PointFits points × (demand ≡ points_demand (basis_at place.stage) points)
IsOfferFormed place (State state) demand = FitsSigned w32 state.0 × (demand ≡ state_demand place.kind state (steps_at place.stage))

-- the points are a point bid over the basis
abbrev pub ArePointsOver : Option BasisValue → List Point → Type 0
ArePointsOver None points = ⊥
ArePointsOver (Some basis) points = checked_points basis points ≡ Ok points

-- what a list of points is over a basis: a point bid, or none
abbrev pub IsPointBidOf : BasisValue → List Point → Option (List Point) → Type 0
IsPointBidOf basis points None = ¬ (checked_points basis points ≡ Ok points)
IsPointBidOf basis points (Some bid) = (bid ≡ points) × (checked_points basis points ≡ Ok points)

-- a kind was named, and a device of it may have the state
abbrev pub IsStateOf : Option Kind → DeviceState → Type 0
IsStateOf None state = ⊥
IsStateOf (Some kind) state = IsTrue (state_fits kind state.0)

-- what is said is accepted
abbrev pub IsFormAccepted : NodePlace → OfferForm → Type 0
IsFormAccepted place Array = ⊤
IsFormAccepted place (Points points) = ArePointsOver (basis_at place.stage) points
IsFormAccepted place (State state) = IsStateOf place.kind state

-- and the demand is a bid
abbrev pub IsOfferAccepted : NodePlace → OfferForm → List ℤ → Type 0
IsOfferAccepted place form demand = IsFormAccepted place form × (checked_bid (length demand) demand ≡ Ok demand)
