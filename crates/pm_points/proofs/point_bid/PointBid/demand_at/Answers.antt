-- Of `PointBid::demand_at`: its clauses `demand` and `within`; what the call of `demand_between` requires.
use Rattle.std.proofs.Common.{rules, ◌≡◌, ◌∙◌, ap, sym, subst, refl, ℕ, ℤ, ◌+◌, ◌<◌, pos, List, length, get_or, Option, Some, None}
use Rattle.std.proofs.Common.{FitsSigned, w64, to_z, of_z, arith}
use Rattle.std.proofs.lemmas.Int.{ints, to_z-of_z}
use Rattle.std.proofs.lemmas.List.{get_or_read_under}
use Rattle.pm_base.specs.Limits.{demand_limit, IsWithin}
use Rattle.pm_points.specs.Points.{Point, demand_at_price, demand_between, demand_from, demand_of_point, last_at_most, point_at}
use Rattle.pm_points.specs.Points.{IsBetween, IsLastAtMost, IsPointBid}
use Rattle.pm_points.proofs.Falls.{demand_inside, demand_last, within_line}
use Rattle.pm_points.proofs.point_bid.PointBid.demand_at.Goals as goal

-- the demand from the place that the search finds, if any, is that at the price
at_found : (points searched : List Point) (price : ℤ) (found place : Option ℕ) → searched ≡ points →
    found ≡ last_at_most searched price → found ≡ place → demand_from points price place ≡ demand_at_price points price
at_found points searched price found place same is meant =
    ap (demand_from points price) (sym meant ∙ is ∙ ap (λ ps. last_at_most ps price) same)

-- the code reads the points at a place and behind it
record Read (points : List Point) (last : ℕ) (from to : Point) : Type 0 where
  inside : last + 1 < length points
  from_is : from ≡ point_at points last
  to_is : to ≡ point_at points (last + 1)

read : (points : List Point) (last : ℕ) (from to : Point) → last + 1 < length points → from ≡ get_or points last from →
    to ≡ get_or points (last + 1) to → Read points last from to
read points last from to inside from_read to_read = record {
  inside = inside;
  from_is = get_or_read_under points last (length points) from (pos 0, pos 0) from_read (omega arith) refl;
  to_is = get_or_read_under points (last + 1) (length points) to (pos 0, pos 0) to_read inside refl;
}

between : (points : List Point) (price : ℤ) (last : ℕ) (from to : Point) → IsPointBid points → Read points last from to →
    IsLastAtMost points price last → IsBetween from to price
between points price last from to bid is found =
    rw is.from_is (rw is.to_is (record {
      from_price = found.at_most;
      to_price = found.later_above (last + 1) (omega arith) is.inside;
      falls = bid.demands_never_rise last is.inside;
      least_price = (bid.prices_within last found.inside).low;
      greatest_price = (bid.prices_within (last + 1) is.inside).high;
      least_demand = (bid.demands_within (last + 1) is.inside).low;
      greatest_demand = (bid.demands_within last found.inside).high;
    }))

pub demand_between-requires : goal.demand_between-requires
demand_between-requires c =
    let points = c.self.inside.points.items in
    let price = to_z w64 (of_z w64 c.args.price) in
    let last = c.in-Some.last in
    let found = subst (λ ps. IsLastAtMost ps price last) c.deref.ensures.value c.in-Some.ensures.last in
    let found_inside : last < length points = found.inside in
    let inside : last + 1 < length points = omega arith in
    between points price last c.index-from.result.now c.index-2.result.now c.self.invariant
    (read points last c.index-from.result.now c.index-2.result.now inside c.index-from.ensures c.index-2.ensures) found

pub returns-in_default-clause-demand : goal.returns-in_default-clause-demand
returns-in_default-clause-demand c =
    let points = c.self.inside.points.items in
    let some : 0 < length points = c.self.invariant.at_least_one in
    let kept : to_z w64 (of_z w64 c.args.price) ≡ c.args.price = to_z-of_z w64 c.args.price c.ranges.price in
    let first : c.index.result.now ≡ point_at points 0 =
    get_or_read_under points 0 (length points) c.index.result.now (pos 0, pos 0) c.index.ensures some refl in
    let fits : FitsSigned w64 c.index.result.now.1 = search rules in
    to_z-of_z w64 c.index.result.now.1 fits ∙ ap demand_of_point first
    ∙ at_found points c.deref.result.now c.args.price c.find_last_at_most.result None c.deref.ensures.value
    (c.find_last_at_most.ensures.place ∙ ap (last_at_most c.deref.result.now) kept) c.in_default.is
    ∙ ap (λ ps. demand_at_price ps c.args.price) c.self.view_is

pub returns-then-last-len-clause-demand : goal.returns-then-last-len-clause-demand
returns-then-last-len-clause-demand c =
    let points = c.self.inside.points.items in
    let last = c.in-Some.last in
    let kept : to_z w64 (of_z w64 c.args.price) ≡ c.args.price = to_z-of_z w64 c.args.price c.ranges.price in
    let all : last + 1 ≡ length points = omega arith in
    let from : c.index-from.result.now ≡ point_at points last =
    get_or_read_under points last (length points) c.index-from.result.now (pos 0, pos 0) c.index-from.ensures (omega arith) refl in
    let is : demand_of_point c.index-from.result.now ≡ demand_at_price c.args.self.now c.args.price =
    ap demand_of_point from ∙ sym (demand_last points last c.args.price all)
    ∙ at_found points c.deref.result.now c.args.price c.find_last_at_most.result (Some last) c.deref.ensures.value
    (c.find_last_at_most.ensures.place ∙ ap (last_at_most c.deref.result.now) kept) c.in-Some.is
    ∙ ap (λ ps. demand_at_price ps c.args.price) c.self.view_is in
    let within : IsWithin demand_limit (demand_of_point (point_at points last)) = c.self.invariant.demands_within last (omega arith) in
    let same : demand_of_point c.index-from.result.now ≡ demand_of_point (point_at points last) = ap demand_of_point from in
    to_z-of_z w64 c.index-from.result.now.1 (record { sfits = omega (arith, ints) }) ∙ is

pub returns-clause-demand : goal.returns-clause-demand
returns-clause-demand c =
    let points = c.self.inside.points.items in
    let last = c.in-Some.last in
    let price = c.args.price in
    let kept : to_z w64 (of_z w64 price) ≡ price = to_z-of_z w64 price c.ranges.price in
    let last_inside : last < length c.deref.result.now = c.in-Some.ensures.last.inside in
    let same_length : length c.deref.result.now ≡ length points = ap (λ (ps : List Point). length ps) c.deref.ensures.value in
    let inside : last + 1 < length points = omega arith in
    let both = read points last c.index-from.result.now c.index-2.result.now inside c.index-from.ensures c.index-2.ensures in
    let is : c.demand_between.result ≡ demand_at_price c.args.self.now price =
    c.demand_between.ensures.demand
    ∙ ap (λ from. demand_between from c.index-2.result.now (to_z w64 (of_z w64 price))) both.from_is
    ∙ ap (λ to. demand_between (point_at points last) to (to_z w64 (of_z w64 price))) both.to_is
    ∙ ap (demand_between (point_at points last) (point_at points (last + 1))) kept
    ∙ sym (demand_inside points last price inside)
    ∙ at_found points c.deref.result.now price c.find_last_at_most.result (Some last) c.deref.ensures.value
    (c.find_last_at_most.ensures.place ∙ ap (last_at_most c.deref.result.now) kept) c.in-Some.is
    ∙ ap (λ ps. demand_at_price ps price) c.self.view_is in
    to_z-of_z w64 c.demand_between.result (search rules) ∙ is

pub returns-clause-within : goal.returns-clause-within
returns-clause-within c =
    let points = c.self.inside.points.items in
    let last = c.in-Some.last in
    let last_inside : last < length c.deref.result.now = c.in-Some.ensures.last.inside in
    let same_length : length c.deref.result.now ≡ length points = ap (λ (ps : List Point). length ps) c.deref.ensures.value in
    let inside : last + 1 < length points = omega arith in
    let both = read points last c.index-from.result.now c.index-2.result.now inside c.index-from.ensures c.index-2.ensures in
    let within : IsWithin demand_limit c.demand_between.result =
    within_line points c.self.invariant last c.index-from.result.now c.index-2.result.now c.demand_between.result inside both.from_is both.to_is
    c.demand_between.ensures.least c.demand_between.ensures.greatest in
    record { low = omega (arith, ints); high = omega (arith, ints) }
