-- The targets of a step, over a total that never rises.
use Rattle.std.proofs.Common.{◌≡◌, ℕ, zero, suc, ◌+◌, ◌-◌, ◌<◌, ◌≤◌, ℤ, pos, ◌+ℤ◌, ◌-ℤ◌, ◌≤ℤ◌, List, length}
use Rattle.std.proofs.Common.{Some, None, arith, inl, inr}
use Rattle.std.specs.Prelude.{◌<ℤ◌}
use Rattle.std.proofs.lemmas.Bool.{cases_lt}
use Rattle.std.proofs.lemmas.Int.{ints}
use Rattle.std.proofs.lemmas.List.{get_or-map, length-map}
use Rattle.pm_bid.specs.Bids.{demand_at, NeverRises}
use Rattle.pm_bid.specs.Clearing.{Clears}
use Rattle.pm_bid.proofs.FoundStep.{first_at_most_is_first}
use Rattle.pm_ask.specs.Asked.{less_target, asked_step}
use Rattle.pm_ask.specs.Breaks.{IsTargetOf, IsLeastTarget, IsGreatestTarget}

-- a total with a target taken off has as many steps as before
pub length-less_target : (target : ℤ) (total : List ℤ) → length (less_target target total) ≡ length total
length-less_target target total = length-map total (λ demand. demand -ℤ target)

-- at each step a total with a target taken off is the total there less the target
pub less_target-at : (target : ℤ) (total : List ℤ) (step : ℕ) → step < length total
    → demand_at (less_target target total) step ≡ demand_at total step -ℤ target
less_target-at target total step inside = get_or-map (λ demand. demand -ℤ target) total step (pos 0) (pos 0) inside

-- the total is above the target before the step, and at most the target at the step, unless it is the last
pub record Meets (total : List ℤ) (target : ℤ) (step : ℕ) : Type 0 where
  -- the step is one of the total's
  pub inside : step < length total
  -- at each earlier step the total is above the target
  pub before : (earlier : ℕ) → earlier < step → target <ℤ demand_at total earlier
  -- at the step the total is at most the target, unless the step is the last
  pub met : step + 1 < length total → demand_at total step ≤ℤ target

-- so it is with a step at which the rest clears
pub clears_meets : (target : ℤ) (total : List ℤ) (step : ℕ) → Clears (less_target target total) step → Meets total target step
clears_meets target total step first =
    let same : length (less_target target total) ≡ length total = length-less_target target total in
    let inside : step < length total = omega (arith, first.inside, same) in
    record {
      inside = inside;
      before = λ earlier h.
          let above = first.before earlier h in
          let is = less_target-at target total earlier (omega arith) in
          omega (arith, ints, above, is);
      met = λ h.
          let below = first.met (omega (arith, same)) in
          let is = less_target-at target total step inside in
          omega (arith, ints, below, is);
    }

-- the rest clears at the step of a target
pub rest_clears : (target : ℤ) (total : List ℤ) → 1 ≤ length total → Clears (less_target target total) (asked_step target total)
rest_clears target total some =
    first_at_most_is_first (pos 0) (less_target target total) (omega (arith, length-less_target target total))

-- so it is with the step of a target
pub asked_step_meets : (target : ℤ) (total : List ℤ) → 1 ≤ length total → Meets total target (asked_step target total)
asked_step_meets target total some = clears_meets target total (asked_step target total) (rest_clears target total some)

-- of two such steps none is before the other
pub not_before : (total : List ℤ) (target : ℤ) (step other : ℕ) → Meets total target step → Meets total target other → other ≤ step
not_before total target step other meets meets' =
    elim (cases_lt step other) [
      | inl before ↦
          let above = meets'.before step before in
          let below = meets.met (omega (arith, meets'.inside)) in
          absurd (omega (arith, ints, above, below))
      | inr after ↦ after
    ]

-- so it is the step of the target
pub meets_is_asked : (target : ℤ) (total : List ℤ) (step : ℕ) → Meets total target step → asked_step target total ≡ step
meets_is_asked target total step meets =
    let asked = asked_step_meets target total (omega (arith, meets.inside)) in
    omega (arith, not_before total target step (asked_step target total) meets asked, not_before total target (asked_step target total) step asked meets)

-- a total that is above the target at a step is above it before, too
pub above_before : (total : List ℤ) (target : ℤ) (step earlier : ℕ) → NeverRises total → step < length total → earlier ≤ step
    → target <ℤ demand_at total step → target <ℤ demand_at total earlier
above_before total target zero earlier falls inside order above =
    let same : earlier ≡ 0 = omega arith in rw same above
above_before total target (suc step) earlier falls inside order above =
    elim (cases_lt step earlier) [
      | inl last ↦ (let same : earlier ≡ suc step = omega arith in rw same above)
      | inr before ↦
          let fall = falls step (omega arith) in
          let next : step + 1 ≡ suc step = omega arith in
          let fall' : demand_at total (suc step) ≤ℤ demand_at total step = rw next at fall in
          above_before total target step earlier falls (omega arith) before (omega (arith, ints, fall', above))
    ]

-- a target is one of a step where it is below the total at the step before and at least the total at the step; for the
-- first and for the last step only one of these is asked
pub record IsIn (total : List ℤ) (target : ℤ) (step : ℕ) : Type 0 where
  -- unless the step is the first, the target is below the total at the step before
  pub below : 0 < step → target <ℤ demand_at total (step - 1)
  -- unless the step is the last, the target is at least the total at the step
  pub met : step + 1 < length total → demand_at total step ≤ℤ target

-- a target within the bounds of a step is one of that step, where the total never rises
pub is_target : (total : List ℤ) (target : ℤ) (step : ℕ) → NeverRises total → step < length total → IsIn total target step →
    IsTargetOf total step target
is_target total target step falls inside within = meets_is_asked target total step (record {
  inside = inside;
  before = λ earlier h. above_before total target (step - 1) earlier falls (omega arith) (omega arith) (within.below (omega arith));
  met = within.met;
})

-- a target of a step is within the bounds of that step, where the total has steps at all
pub target_is_in : (total : List ℤ) (target : ℤ) (step : ℕ) → 1 ≤ length total → IsTargetOf total step target → IsIn total target step
target_is_in total target step some is =
    let meets = rw is at (asked_step_meets target total some) in
    record {
      below = λ h. meets.before (step - 1) (omega arith);
      met = meets.met;
    }

-- the ends of the targets of a step
pub least_is_total : (total : List ℤ) (step : ℕ) → NeverRises total → step + 1 < length total
    → (0 < step → demand_at total step <ℤ demand_at total (step - 1)) → IsLeastTarget total step (Some (demand_at total step))
least_is_total total step falls inside some = (
  is_target total (demand_at total step) step falls (omega arith) (record { below = some; met = λ h. omega (arith, ints) }),
  λ target is. (target_is_in total target step (omega arith) is).met inside,
)

-- the last step of a total that never rises has no least target
pub last_has_no_least : (total : List ℤ) (step : ℕ) → NeverRises total → step + 1 ≡ length total → IsLeastTarget total step None
last_has_no_least total step falls last = λ target is.
    let within = target_is_in total target step (omega arith) is in (
      target -ℤ pos 1,
      (
        is_target total (target -ℤ pos 1) step falls (omega arith) (record {
          below = λ h. let below = within.below h in omega (arith, ints, below);
          met = λ h. absurd (omega arith);
        }),
        omega (arith, ints),
      ),
    )

-- where the total falls at a step after the first, or it is last, its greatest target is the total before less 1
pub greatest_is_below : (total : List ℤ) (step : ℕ) → NeverRises total → 0 < step → step < length total
    → (step + 1 < length total → demand_at total step <ℤ demand_at total (step - 1)) →
    IsGreatestTarget total step (Some (demand_at total (step - 1) -ℤ pos 1))
greatest_is_below total step falls after inside some = (
  is_target total (demand_at total (step - 1) -ℤ pos 1) step falls inside (record {
    below = λ h. omega (arith, ints);
    met = λ h. let lower = some h in omega (arith, ints, lower);
  }),
  λ target its_own. let below = (target_is_in total target step (omega arith) its_own).below after in omega (arith, ints, below),
)

-- the first step of a total that never rises has no greatest target
pub first_has_no_greatest : (total : List ℤ) → NeverRises total → 1 ≤ length total → IsGreatestTarget total 0 None
first_has_no_greatest total falls some = λ target is.
    let within = target_is_in total target 0 some is in (
      target +ℤ pos 1,
      (
        is_target total (target +ℤ pos 1) 0 falls some (record {
          below = λ h. absurd (omega arith);
          met = λ h. let met = within.met h in omega (arith, ints, met);
        }),
        omega (arith, ints),
      ),
    )

-- a step whose total is that of the step before has no target, unless it is the last
pub level_has_none : (total : List ℤ) (target : ℤ) (step : ℕ) → 0 < step → step + 1 < length total →
    demand_at total (step - 1) ≤ℤ demand_at total step
    → ¬ (IsTargetOf total step target)
level_has_none total target step after inside level = λ is.
    let within = target_is_in total target step (omega arith) is in
    let below = within.below after in
    let met = within.met inside in
    omega (arith, ints, below, met, level)
