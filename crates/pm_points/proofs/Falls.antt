-- The demand of a point bid never rises with the price, and stays within the limit of one demand.
use Rattle.std.proofs.Common.{◌≡◌, ◌≢◌, ◌∙◌, sym, subst, below_more, get_or-set_same, get_or-set_other, ℕ, zero, suc, ◌+◌, ◌-◌}
use Rattle.std.proofs.Common.{◌<◌, ◌≤◌, ℤ, pos, ◌≤ℤ◌, List}
use Rattle.std.proofs.Common.{length, get_or, Option, Some, None, refl, inl, inr, arith}
use Rattle.std.specs.Prelude.{◌<ℤ◌, ◌-ℤ◌}
use Rattle.std.proofs.Math.Nat.{eq-or-lt_of_le}
use Rattle.std.proofs.lemmas.Int.{ints}
use Rattle.std.proofs.lemmas.Bool.{cases_lt}
use Rattle.std.proofs.lemmas.Bool.Decides.{nat_tests}
use Rattle.std.proofs.Math.ListN.{set, length-set}
use Rattle.std.proofs.lemmas.List.FromFn.{get_or-map-range_with_len, length-map-range_with_len, fill_by_all}
use Rattle.pm_basis.specs.Prices.{BasisValue, IsBasis, price_at}
use Rattle.pm_bid.specs.Bids.{AllWithinLimit, NeverRises}
use Rattle.pm_base.specs.Limits.{demand_limit, IsWithin}
use Rattle.pm_points.specs.Points.{Point, IsPointBid, point_at, last_at_most, IsLastAtMost, demand_between, demand_from, array_of_points, demand_at_price}
use Rattle.pm_points.specs.Points.{demand_of_point, price_of_point}
use Rattle.pm_points.proofs.Floors.{share_le}
use Rattle.pm_points.proofs.Lines.{line_at_most, line_at_least, line_falls}
use Rattle.pm_points.proofs.LastPoint.{IsLast, last_is}

-- the two cases of the demand from a point on
pub demand_last : (points : List Point) (place : ℕ) (price : ℤ) → place + 1 ≡ length points →
    demand_from points price (Some place) ≡ demand_of_point (point_at points place)
demand_last points place price all = grind (arith, nat_tests)

-- from a point on that is not the last, the demand is that on the line to the next point
pub demand_inside : (points : List Point) (place : ℕ) (price : ℤ) → place + 1 < length points →
    demand_from points price (Some place) ≡ demand_between (point_at points place) (point_at points (place + 1)) price
demand_inside points place price inside = grind (arith, nat_tests)

-- demands never rise over several points
far_falls : (points : List Point) → IsPointBid points → (first n last : ℕ) → first + n ≡ last → last < length points →
    demand_of_point (point_at points last) ≤ℤ demand_of_point (point_at points first)
far_falls points bid first zero last is inside =
    let same : last ≡ first = omega arith in
    subst (λ (k : ℕ). demand_of_point (point_at points k) ≤ℤ demand_of_point (point_at points first)) (sym same) (omega (arith, ints))
far_falls points bid first (suc n) last is inside =
    let before : demand_of_point (point_at points (first + n)) ≤ℤ demand_of_point (point_at points first) =
    far_falls points bid first n (first + n) refl (omega arith) in
    let next : (first + n) + 1 ≡ last = omega arith in
    let step : demand_of_point (point_at points last) ≤ℤ demand_of_point (point_at points (first + n)) =
    subst (λ (k : ℕ). demand_of_point (point_at points k) ≤ℤ demand_of_point (point_at points (first + n))) next
    (bid.demands_never_rise (first + n) (omega arith)) in
    omega (arith, ints)

-- the demand is at most that of the last point whose price is at most the price
at_most_last : (points : List Point) → IsPointBid points → (place : ℕ) (price : ℤ) → IsLastAtMost points price place →
    demand_from points price (Some place) ≤ℤ demand_of_point (point_at points place)
at_most_last points bid place price last =
    elim (eq-or-lt_of_le (let within = last.inside in omega arith)) [
      | inl all ↦ subst (λ (z : ℤ). z ≤ℤ demand_of_point (point_at points place)) (sym (demand_last points place price all)) (omega (arith, ints))
      | inr inside ↦ subst (λ (z : ℤ). z ≤ℤ demand_of_point (point_at points place)) (sym (demand_inside points place price inside))
          (line_at_most (price_of_point (point_at points place)) (demand_of_point (point_at points place)) (price_of_point (point_at points (place + 1)))
          (demand_of_point (point_at points (place + 1))) price
          last.at_most (last.later_above (place + 1) (omega arith) inside) (bid.demands_never_rise place inside))
    ]

-- and at least that of the next point
at_least_next : (points : List Point) → IsPointBid points → (place : ℕ) (price : ℤ) → place + 1 < length points →
    IsLastAtMost points price place →
    demand_of_point (point_at points (place + 1)) ≤ℤ demand_from points price (Some place)
at_least_next points bid place price inside last =
    subst (λ (z : ℤ). demand_of_point (point_at points (place + 1)) ≤ℤ z) (sym (demand_inside points place price inside))
    (line_at_least (price_of_point (point_at points place)) (demand_of_point (point_at points place)) (price_of_point (point_at points (place + 1)))
    (demand_of_point (point_at points (place + 1))) price
    last.at_most (last.later_above (place + 1) (omega arith) inside) (bid.demands_never_rise place inside))

-- two prices on one line
same_line : (points : List Point) → IsPointBid points → (place : ℕ) (price later : ℤ) → price ≤ℤ later → IsLastAtMost points price place →
    IsLastAtMost points later place → demand_from points later (Some place) ≤ℤ demand_from points price (Some place)
same_line points bid place price later order last at_later =
    elim (eq-or-lt_of_le (let within = last.inside in omega arith)) [
      | inl all ↦ omega (arith, ints, demand_last points place price all, demand_last points place later all)
      | inr inside ↦
          let line = line_falls (price_of_point (point_at points place)) (demand_of_point (point_at points place))
          (price_of_point (point_at points (place + 1)))
          (demand_of_point (point_at points (place + 1))) price later
          last.at_most order (at_later.later_above (place + 1) (omega arith) inside) (bid.demands_never_rise place inside) in
          subst (λ (z : ℤ). demand_from points later (Some place) ≤ℤ z) (sym (demand_inside points place price inside))
          (subst (λ (z : ℤ). z ≤ℤ demand_between (point_at points place) (point_at points (place + 1)) price)
          (sym (demand_inside points place later inside)) line)
    ]

-- by the places of the last points at the two prices
falls_from : (points : List Point) → IsPointBid points → (price later : ℤ) → price ≤ℤ later → (first second : Option ℕ) →
    IsLast points price first →
    IsLast points later second → demand_from points later second ≤ℤ demand_from points price first
falls_from points bid price later order None None above after = omega (arith, ints)
falls_from points bid price later order None (Some further) above after =
    let high : demand_from points later (Some further) ≤ℤ demand_of_point (point_at points further) = at_most_last points bid further later after in
    let far : demand_of_point (point_at points further) ≤ℤ demand_of_point (point_at points 0) =
    far_falls points bid 0 further further (omega arith) after.inside in
    omega (arith, ints)
falls_from points bid price later order (Some place) None last above =
    let after : later <ℤ price_of_point (point_at points place) = above place (omega arith) last.inside in
    let before = last.at_most in
    absurd (omega (arith, ints))
falls_from points bid price later order (Some place) (Some further) last after =
    elim (cases_lt further place) [
      | inl fewer ↦
          let beyond : later <ℤ price_of_point (point_at points place) = after.later_above place fewer last.inside in
          let before = last.at_most in
          absurd (omega (arith, ints))
      | inr least ↦ elim (eq-or-lt_of_le least) [
        | inl same ↦
            let at_later : IsLastAtMost points later place = subst (λ (n : ℕ). IsLastAtMost points later n) (sym same) after in
            subst (λ (n : ℕ). demand_from points later (Some n) ≤ℤ demand_from points price (Some place)) same
            (same_line points bid place price later order last at_later)
        | inr more ↦
            let within = after.inside in
            let high : demand_from points later (Some further) ≤ℤ demand_of_point (point_at points further) = at_most_last points bid further later after in
            let low : demand_of_point (point_at points (place + 1)) ≤ℤ demand_from points price (Some place) =
            at_least_next points bid place price (omega arith) last in
            let far : demand_of_point (point_at points further) ≤ℤ demand_of_point (point_at points (place + 1)) =
            far_falls points bid (place + 1) (further - (place + 1)) further (omega arith) within in
            omega (arith, ints)
      ]
    ]

-- demand never rises with the price (Kok)
pub demand_falls : (points : List Point) → IsPointBid points → (price later : ℤ) → price ≤ℤ later →
    demand_at_price points later ≤ℤ demand_at_price points price
demand_falls points bid price later order =
    falls_from points bid price later order (last_at_most points price) (last_at_most points later) (last_is points price) (last_is points later)

within_between : (least demand greatest : ℤ) → IsWithin demand_limit least → IsWithin demand_limit greatest → least ≤ℤ demand →
    demand ≤ℤ greatest → IsWithin demand_limit demand
within_between least demand greatest low high above below = record { low = omega (arith, ints); high = omega (arith, ints) }

-- by the place of the last point
within_from : (points : List Point) → IsPointBid points → (price : ℤ) (found : Option ℕ) → IsLast points price found →
    IsWithin demand_limit (demand_from points price found)
within_from points bid price None above = bid.demands_within 0 (let some = bid.at_least_one in omega arith)
within_from points bid price (Some place) last =
    elim (eq-or-lt_of_le (let within = last.inside in omega arith)) [
      | inl all ↦ subst (λ (z : ℤ). IsWithin demand_limit z) (sym (demand_last points place price all)) (bid.demands_within place last.inside)
      | inr inside ↦
          within_between (demand_of_point (point_at points (place + 1))) (demand_from points price (Some place)) (demand_of_point (point_at points place))
          (bid.demands_within (place + 1) inside) (bid.demands_within place last.inside)
          (at_least_next points bid place price inside last) (at_most_last points bid place price last)
    ]

-- every demand is within the limit of one demand
pub demand_within : (points : List Point) → IsPointBid points → (price : ℤ) → IsWithin demand_limit (demand_at_price points price)
demand_within points bid price = within_from points bid price (last_at_most points price) (last_is points price)

-- prices rise with the step
price_rises : (basis : BasisValue) → IsBasis basis → (step : ℕ) → price_at basis step ≤ℤ price_at basis (step + 1)
price_rises basis sound step =
    let some = sound.steps.least in
    let order = sound.order in
    omega (
      arith,
      ints,
      share_le step (step + 1) (basis.max -ℤ basis.min) (pos basis.steps -ℤ pos 1) (omega arith)
          (omega (arith, ints)) (omega (arith, ints)),
    )

-- the array of points has as many steps as the basis
pub length-array_of : (points : List Point) (basis : BasisValue) → length (array_of_points points basis) ≡ basis.steps
length-array_of points basis = length-map-range_with_len (λ step. demand_at_price points (price_at basis step)) 0 basis.steps

array_of-at : (points : List Point) (basis : BasisValue) (step : ℕ) → step < basis.steps →
    get_or (array_of_points points basis) step (pos 0) ≡ demand_at_price points (price_at basis step)
array_of-at points basis step inside =
    get_or-map-range_with_len (λ step. demand_at_price points (price_at basis step)) 0 basis.steps step step (pos 0) inside (omega arith)

-- the array of a point bid never rises with the step
pub array_falls : (points : List Point) (basis : BasisValue) → IsPointBid points → IsBasis basis → NeverRises (array_of_points points basis)
array_falls points basis bid sound = λ step inside.
    let last : step + 1 < basis.steps = omega (arith, length-array_of points basis) in
    let first : step < basis.steps = omega arith in
    subst (λ (z : ℤ). z ≤ℤ get_or (array_of_points points basis) step (pos 0)) (sym (array_of-at points basis (step + 1) last))
    (subst (λ (z : ℤ). demand_at_price points (price_at basis (step + 1)) ≤ℤ z) (sym (array_of-at points basis step first))
    (demand_falls points bid (price_at basis step) (price_at basis (step + 1)) (price_rises basis sound step)))

-- the array of a point bid is within the limit of one demand
pub array_within : (points : List Point) (basis : BasisValue) → IsPointBid points → AllWithinLimit demand_limit (array_of_points points basis)
array_within points basis bid = λ step inside.
    subst (λ (z : ℤ). IsWithin demand_limit z) (sym (array_of-at points basis step (omega (arith, length-array_of points basis))))
    (demand_within points bid (price_at basis step))

-- the demand that the code finds between two points
pub within_line : (points : List Point) → IsPointBid points → (place : ℕ) (from to : Point) (demand : ℤ) → place + 1 < length points →
    from ≡ point_at points place → to ≡ point_at points (place + 1) → demand_of_point to ≤ℤ demand → demand ≤ℤ demand_of_point from →
    IsWithin demand_limit demand
within_line points bid place from to demand inside is_from is_to least greatest =
    let P : Point → Type 0 = λ point. IsWithin demand_limit (demand_of_point point) in
    within_between (demand_of_point to) demand (demand_of_point from) (subst P (sym is_to) (bid.demands_within (place + 1) inside))
    (subst P (sym is_from) (bid.demands_within place (omega arith))) least greatest

-- the array as a loop over the steps fills it
pub record Filled (points : List Point) (basis : BasisValue) (array : List ℤ) (step : ℕ) : Type 0 where
  -- the array has as many steps as the basis
  pub long : length array ≡ basis.steps
  -- each step before this one has the demand of the points at its price
  pub done : (k : ℕ) → k < step → get_or array k (pos 0) ≡ demand_at_price points (price_at basis k)

-- an array filled up to a step is filled one step further with the demand at that step's price
pub filled_more : (points : List Point) (basis : BasisValue) (array : List ℤ) (step : ℕ) (demand : ℤ) → step < basis.steps →
    Filled points basis array step → demand ≡ demand_at_price points (price_at basis step) → Filled points basis (set array step demand) (step + 1)
filled_more points basis array step demand inside filled is =
    let long : length array ≡ basis.steps = filled.long in
    let within : step < length array = omega arith in
    record {
      long = length-set array step demand ∙ long;
      done = below_more _ _
          (λ k h. let ne : k ≢ step = omega arith in rw get_or-set_other (filled.done k h))
          (rw get_or-set_same is);
    }

-- an array filled up to the number of steps or further is the array of the points
pub filled_all : (points : List Point) (basis : BasisValue) (array : List ℤ) (step : ℕ) → basis.steps ≤ step →
    Filled points basis array step → array ≡ array_of_points points basis
filled_all points basis array step all filled =
    fill_by_all (λ k. demand_at_price points (price_at basis k)) array basis.steps (pos 0) filled.long (λ k h. filled.done k (omega arith))
