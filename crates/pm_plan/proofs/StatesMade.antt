-- What a state of a file makes: a number that fits, or one array more.
use Rattle.std.proofs.Common.{◌≡◌, ℕ, ◌≤◌, ℤ, pos, Bool, true, false, List, [], ◌∷◌, ◌++◌, length, refl, arith, subst, IsTrue, Result}
use Rattle.std.proofs.Common.{Ok, Err}
use Rattle.std.specs.Prelude.{◌==◌, nat_lt, if◌then◌else◌}
use Rattle.std.proofs.lemmas.Int.{ints}
use Rattle.std.proofs.lemmas.Bool.Decides.{nat_tests}
use Rattle.std.proofs.lemmas.List.Elements.{All-push}
use Rattle.pm_basis.specs.Prices.{BasisValue, IsBasis}
use Rattle.pm_bid.specs.Bids.{NeverRises, AllWithinLimit}
use Rattle.pm_base.specs.Limits.{demand_limit}
use Rattle.pm_base.proofs.Numbers.{same_number}
use Rattle.pm_bid.specs.Checks.{checked_bid, first_rising, first_too_large}
use Rattle.pm_bid.specs.declared.fault.BidFault.{BidFault}
use Rattle.pm_points.specs.declared.fault.PointFault.{PointFault}
use Rattle.pm_bid.proofs.EachStep.{all_small}
use Rattle.pm_bid.proofs.FoundStep.{never_rises}
use Rattle.pm_points.specs.Points.{Point, IsPointBid, max_points, array_of_points}
use Rattle.pm_points.specs.Checks.{checked_points, first_price_fall, first_rise, first_outside}
use Rattle.pm_points.specs.Checks as point_checks
use Rattle.pm_points.proofs.Passed.{passed_all}
use Rattle.pm_points.proofs.Falls.{length-array_of, array_falls, array_within}
use Rattle.pm_device.specs.Kinds.{state_fits}
use Rattle.pm_device.specs.declared.kind.Kind.{Kind}
use Rattle.pm_device.specs.declared.kind.Kind.TheVariants.{Manual}
use Rattle.pm_plan.specs.declared.refusal.Place.{Place}
use Rattle.pm_plan.specs.Parts.{StatePart, number, array, points}
use Rattle.pm_plan.specs.Plans.{PlanData}
use Rattle.pm_plan.specs.Kept.{AreArrays}
use Rattle.pm_plan.specs.Building.{array_or_refuse, points_or_refuse, with_array, manual_state, number_state, state_of}
use Rattle.pm_plan.proofs.Inversions.{bind-ok, ok-is}

-- a bid of one device
pub record IsBid (steps : ℕ) (bid : List ℤ) : Type 0 where
  -- the bid has one demand for each step
  pub many : length bid ≡ steps
  -- the bid never rises from step to step
  pub falls : NeverRises bid
  -- the bid lies within the limit of a demand at each step
  pub within : AllWithinLimit demand_limit bid

passed : (at many : ℕ) → nat_lt at many ≡ false → many ≤ at
passed at many h = grind (arith, nat_tests)

-- an answer after a test that refuses
record ElseOk {A E : Type 0} (test : Bool) (rest : Result A E) (value : A) : Type 0 where
  fails : test ≡ false
  is : rest ≡ Ok value

else-ok : {A E : Type 0} (test : Bool) (fault : E) (rest : Result A E) (value : A) → (if test then Err fault else rest) ≡ Ok value →
    ElseOk test rest value
else-ok true fault rest value h = absurd (cc h)
else-ok false fault rest value h = record { fails = refl; is = h }

record ThenOk {A E : Type 0} (test : Bool) (rest : Result A E) (value : A) : Type 0 where
  holds : test ≡ true
  is : rest ≡ Ok value

then-ok : {A E : Type 0} (test : Bool) (fault : E) (rest : Result A E) (value : A) → (if test then rest else Err fault) ≡ Ok value →
    ThenOk test rest value
then-ok true fault rest value h = record { holds = refl; is = h }
then-ok false fault rest value h = absurd (cc h)

checked_bid-is : (steps : ℕ) (demands bid : List ℤ) → checked_bid steps demands ≡ Ok bid → IsBid steps bid
checked_bid-is steps demands bid h =
    let same = then-ok (length demands == steps) _ _ bid h in
    let rises = else-ok (nat_lt (first_rising demands) (length demands)) _ _ bid same.is in
    let large = else-ok (nat_lt (first_too_large demands) (length demands)) _ _ bid rises.is in
    let is : demands ≡ bid = cc large.is in
    subst (IsBid steps) is (record {
      many = same_number (length demands) steps same.holds;
      falls = never_rises demands (passed (first_rising demands) (length demands) rises.fails);
      within = all_small demands (passed (first_too_large demands) (length demands) large.fails);
    })

some_points : (points : List Point) → (length points == 0) ≡ false → 1 ≤ length points
some_points [] h = absurd (cc h)
some_points (p ∷ ps) h = omega arith

checked_points-is : (basis : BasisValue) (given bid : List Point) → IsBasis basis → checked_points basis given ≡ Ok bid → IsPointBid bid
checked_points-is basis given bid sound h =
    let many = length given in
    let none = else-ok (length given == 0) _ _ bid h in
    let few = else-ok (nat_lt max_points many) _ _ bid none.is in
    let fall = else-ok (nat_lt (first_price_fall given) many) _ _ bid few.is in
    let rise = else-ok (nat_lt (first_rise given) many) _ _ bid fall.is in
    let large = else-ok (nat_lt (point_checks.first_large_demand given) many) _ _ bid rise.is in
    let outside = else-ok (nat_lt (first_outside basis given) many) _ _ bid large.is in
    let is : given ≡ bid = cc outside.is in
    subst IsPointBid is
    (passed_all basis given sound (some_points given none.fails) (passed max_points many few.fails) (passed (first_price_fall given) many fall.fails)
    (passed (first_rise given) many rise.fails) (passed (point_checks.first_large_demand given) many large.fails)
    (passed (first_outside basis given) many outside.fails))

array-of : (steps : ℕ) (place : Place) (demands bid : List ℤ) (r : Result (List ℤ) BidFault) → checked_bid steps demands ≡ r →
    array_or_refuse place r ≡ Ok bid → IsBid steps bid
array-of steps place demands bid (Ok made) e h = subst (IsBid steps) (ok-is made bid h) (checked_bid-is steps demands made e)
array-of steps place demands bid (Err fault) e h = absurd (cc h)

points-of : (basis : BasisValue) (place : Place) (given : List Point) (bid : List ℤ) (r : Result (List Point) PointFault) →
    IsBasis basis → checked_points basis given ≡ r → points_or_refuse basis place r ≡ Ok bid → IsBid basis.steps bid
points-of basis place given bid (Ok made) sound e h =
    let holds = checked_points-is basis given made sound e in
    subst (IsBid basis.steps) (ok-is (array_of_points made basis) bid h)
    (record { many = length-array_of made basis; falls = array_falls made basis holds sound; within = array_within made basis holds })
points-of basis place given bid (Err fault) sound e h = absurd (cc h)

-- arrays that are bids of one device each still are with one more such bid among them
pub one_more_array : (plan : PlanData) (bid : List ℤ) → AreArrays plan → IsBid plan.basis.steps bid → AreArrays (with_array plan bid).1
one_more_array plan bid all one = record {
  steps = All-push (λ b. length b ≡ plan.basis.steps) plan.arrays bid all.steps one.many;
  fall = All-push NeverRises plan.arrays bid all.fall one.falls;
  within = All-push (AllWithinLimit demand_limit) plan.arrays bid all.within one.within;
}

-- a state that fits the kind, and the plan with no change but of its arrays
pub record StateMade (kind : Kind) (plan : PlanData) (made : ℤ × PlanData) : Type 0 where
  -- the arrays of the plan once the state was made
  pub arrays : List (List ℤ)
  -- the plan that was made is the old one with these arrays
  pub is : made.1 ≡ record plan { arrays = arrays }
  -- each of these arrays is a bid of one device
  pub bids : AreArrays (record plan { arrays = arrays })
  -- the state that was made fits the kind
  pub fits : IsTrue (state_fits kind made.0)

is_number : (n : ℕ) → IsTrue (state_fits Manual (pos n))
is_number n = grind (arith, ints)

array-made : (plan : PlanData) (bid : List ℤ) (made : ℤ × PlanData) → AreArrays plan → IsBid plan.basis.steps bid →
    with_array plan bid ≡ made → StateMade Manual plan made
array-made plan bid made all one is =
    subst (StateMade Manual plan) is (record {
      arrays = plan.arrays ++ bid ∷ [];
      is = refl;
      bids = one_more_array plan bid all one;
      fits = is_number (length plan.arrays);
    })

manual-made : (place : Place) (plan : PlanData) (part : StatePart) (made : ℤ × PlanData) → IsBasis plan.basis → AreArrays plan →
    manual_state place plan part ≡ Ok made → StateMade Manual plan made
unfolding manual_state
manual-made place plan (number z) made sound all h = absurd (cc h)
manual-made place plan (array demands) made sound all h =
    let bid = bind-ok (array_or_refuse place (checked_bid plan.basis.steps demands)) (λ b. Ok (with_array plan b)) made h in
    array-made plan bid.value made all (array-of plan.basis.steps place demands bid.value (checked_bid plan.basis.steps demands) refl
    bid.first) (ok-is (with_array plan bid.value) made bid.rest)
manual-made place plan (points pairs) made sound all h =
    let bid = bind-ok (points_or_refuse plan.basis place (checked_points plan.basis pairs)) (λ b. Ok (with_array plan b)) made h in
    array-made plan bid.value made all (points-of plan.basis place pairs bid.value (checked_points plan.basis pairs) sound refl
    bid.first) (ok-is (with_array plan bid.value) made bid.rest)

number-made : (place : Place) (kind : Kind) (plan : PlanData) (part : StatePart) (made : ℤ × PlanData) → AreArrays plan →
    number_state place kind plan part ≡ Ok made → StateMade kind plan made
number-made place kind plan (number z) made all h =
    let fit = then-ok (state_fits kind z) _ _ made h in
    subst (StateMade kind plan) (ok-is (z, plan) made fit.is) (record { arrays = plan.arrays; is = refl; bids = all; fits = fit.holds })
number-made place kind plan (array demands) made all h = absurd (cc h)
number-made place kind plan (points pairs) made all h = absurd (cc h)

-- a state of a file that is not refused fits the kind and alters of the plan only the arrays, each still a bid
pub state-made : (place : Place) (kind : Kind) (plan : PlanData) (part : StatePart) (made : ℤ × PlanData) → IsBasis plan.basis →
    AreArrays plan → state_of place kind plan part ≡ Ok made → StateMade kind plan made
unfolding state_of
state-made place Manual plan part made sound all h = manual-made place plan part made sound all h
state-made place kind plan part made sound all h = number-made place kind plan part made all h
