-- A search by halving: which steps are left, and how many looks are enough for them.
use Rattle.std.proofs.Common.{◌≡◌, ℕ, zero, suc, ◌+◌, ◌*◌, ◌^◌, ◌<◌, ◌≤◌, ℤ, ◌≤ℤ◌, List, length, arith}
use Rattle.std.specs.Prelude.{◌<ℤ◌}
use Rattle.pm_bid.specs.Bids.{demand_at, NeverRises}
use Rattle.pm_ask.proofs.Targets.{Meets, above_before}

-- the step of the target is not before `low` and not after `high`
pub record IsBetween (total : List ℤ) (target : ℤ) (low high : ℕ) : Type 0 where
  -- low is at most high
  pub order : low ≤ high
  -- high is one of the steps of the total
  pub inside : high < length total
  -- at each step before low the total is above the target
  pub above : (earlier : ℕ) → earlier < low → target <ℤ demand_at total earlier
  -- at high the total is at most the target, unless high is the last step
  pub met : high + 1 < length total → demand_at total high ≤ℤ target

-- the step of any target is between step 0 and the last step
pub between_all : (total : List ℤ) (target : ℤ) (last : ℕ) → last + 1 ≡ length total → IsBetween total target 0 last
between_all total target last is = record {
  order = omega arith;
  inside = omega arith;
  above = λ earlier h. absurd (omega arith);
  met = λ h. absurd (omega arith);
}

-- where the total at middle is at most the target, the step is from low to middle
pub between_lower : (total : List ℤ) (target : ℤ) (low high middle : ℕ) → IsBetween total target low high → low ≤ middle → middle < high
    → demand_at total middle ≤ℤ target → IsBetween total target low middle
between_lower total target low high middle between from to met = record {
  order = from;
  inside = omega (arith, between.inside);
  above = between.above;
  met = λ h. met;
}

-- where a total that never rises is above the target at middle, the step is from middle + 1 to high
pub between_upper : (total : List ℤ) (target : ℤ) (low high middle : ℕ) → NeverRises total → IsBetween total target low high →
    low ≤ middle → middle < high
    → target <ℤ demand_at total middle → IsBetween total target (middle + 1) high
between_upper total target low high middle falls between from to above = record {
  order = omega arith;
  inside = between.inside;
  above = λ earlier h. above_before total target middle earlier falls (omega (arith, between.inside)) (omega arith) above;
  met = between.met;
}

-- where high is at most low, the total meets the target at low
pub between_one : (total : List ℤ) (target : ℤ) (low high : ℕ) → IsBetween total target low high → high ≤ low → Meets total target low
between_one total target low high between one =
    let same : high ≡ low = omega (arith, between.order) in
    record {
      inside = omega (arith, between.inside);
      before = between.above;
      met = rw (← same) between.met;
    }

-- for each number of looks that is enough for so many steps, some are left that are enough for a gap between two steps
abbrev pub LooksLeft : ℕ → ℕ → ℕ → ℕ → Type 0
LooksLeft steps start counter gap =
    (n : ℕ) → steps ≤ 2 ^ n → (left : ℕ) × ((counter + left ≤ start + n) × (gap < 2 ^ left))

-- at the start the looks that are enough for the steps are left, for any gap less than the steps
pub looks_all : (steps start gap : ℕ) → gap < steps → LooksLeft steps start start gap
looks_all steps start gap less = λ n enough. (n, (omega arith, omega arith))

half_left : (counter next bound gap half left : ℕ) → next ≡ counter + 1 → 1 ≤ gap → 2 * half ≤ gap → counter + left ≤ bound → gap < 2 ^ left
    → (after : ℕ) × ((next + after ≤ bound) × (half < 2 ^ after))
half_left counter next bound gap half zero more some less in_bound enough = absurd (omega arith)
half_left counter next bound gap half (suc left) more some less in_bound enough = (left, (omega arith, omega arith))

-- a look halves the gap
pub looks_half : (steps start counter next gap half : ℕ) → next ≡ counter + 1 → 1 ≤ gap → 2 * half ≤ gap → LooksLeft steps start counter gap
    → LooksLeft steps start next half
looks_half steps start counter next gap half more some less looks =
    λ n enough. let before = looks n enough in half_left counter next (start + n) gap half before.0 more some less before.1.0 before.1.1

-- for each number of looks whose halvings so many steps bear, those that are not yet made the gap still bears
abbrev pub LooksDue : ℕ → ℕ → ℕ → ℕ → Type 0
LooksDue steps start counter gap =
    (n : ℕ) → 2 ^ n ≤ steps → (left : ℕ) × ((start + n ≤ counter + left) × (2 ^ left ≤ gap + 1))

-- at the start none is made
pub due_all : (steps start gap : ℕ) → steps ≤ gap + 1 → LooksDue steps start start gap
due_all steps start gap all = λ n bears. (n, (omega arith, omega arith))

half_due : (counter next least gap half left : ℕ) → next ≡ counter + 1 → gap ≤ 2 * half + 2 → least ≤ counter + left → 2 ^ left ≤ gap + 1
    → (after : ℕ) × ((least ≤ next + after) × (2 ^ after ≤ half + 1))
half_due counter next least gap half zero more most least_is bears = (0, (omega arith, omega arith))
half_due counter next least gap half (suc left) more most least_is bears = (left, (omega arith, omega arith))

-- a look leaves half of the gap at least
pub due_half : (steps start counter next gap half : ℕ) → next ≡ counter + 1 → gap ≤ 2 * half + 2 → LooksDue steps start counter gap
    → LooksDue steps start next half
due_half steps start counter next gap half more most looks =
    λ n bears. let before = looks n bears in half_due counter next (start + n) gap half before.0 more most before.1.0 before.1.1

power_some : (n : ℕ) → 1 ≤ 2 ^ n
power_some zero = omega arith
power_some (suc n) = let some = power_some n in omega arith

none_left : (left : ℕ) → 2 ^ left ≤ 1 → left ≤ 0
none_left zero bears = omega arith
none_left (suc left) bears = let some = power_some left in omega arith

-- where no gap is left all are made
pub due_none : (steps start counter : ℕ) → LooksDue steps start counter 0 → (n : ℕ) → 2 ^ n ≤ steps → start + n ≤ counter
due_none steps start counter looks n bears =
    let left = looks n bears in
    let none = none_left left.0 left.1.1 in
    omega (arith, left.1.0)
