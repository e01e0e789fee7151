-- What a relay announces is what is taken at the step for which it settles.
use Rattle.std.proofs.Common.{◌≡◌, ◌∙◌, sym, ap, subst, ℕ, zero, suc, ◌+◌, ◌-◌, ◌<◌, ◌≤◌, ℤ, pos, ◌≤ℤ◌}
use Rattle.std.proofs.Common.{List, length, Option, Some, None, inl, inr, refl, arith}
use Rattle.std.specs.Prelude.{◌<ℤ◌, min, max}
use Rattle.std.proofs.lemmas.Int.{ints, clamps}
use Rattle.std.proofs.lemmas.Bool.{cases_lt, cases_eq}
use Rattle.std.proofs.lemmas.List.FromFn.{get_or-map-range_with_len, length-map-range_with_len}
use Rattle.pm_base.specs.Limits.{IsWithin, demand_limit}
use Rattle.pm_base.specs.declared.limits.Limits.{Limits}
use Rattle.pm_bid.specs.Bids.{demand_at, zeros, NeverRises, AllWithinLimit}
use Rattle.pm_bid.specs.Clearing.{first_at_most, last_at_least}
use Rattle.pm_bid.specs.Limited.{NeverBind}
use Rattle.pm_bid.specs.Taken.{IsWithinLimits, settled_in, nearest_said, said_at, said_between, announced_in, settled_step, announced}
use Rattle.pm_bid.specs.Taken.{CanSay, HasStepWithin, AreSmall}
use Rattle.pm_bid.proofs.EachStep.{same_bids}
use Rattle.pm_bid.proofs.FoundStep.{first_at_most_is_first, last_at_least_is_last}
use Rattle.pm_bid.proofs.Sums.{zeros-at}

-- ---- a bid that never rises

falls_by : (bid : List ℤ) → NeverRises bid → (step n : ℕ) → step + n < length bid → demand_at bid (step + n) ≤ℤ demand_at bid step
falls_by bid falls step zero inside =
    let same : step + 0 ≡ step = omega arith in
    omega (arith, ints, ap (demand_at bid) same)
falls_by bid falls step (suc n) inside =
    let next : step + suc n ≡ (step + n) + 1 = omega arith in
    omega (arith, ints, ap (demand_at bid) next, falls (step + n) (omega arith), falls_by bid falls step n (omega arith))

-- a later step of a bid that never rises has no greater demand
pub falls_to : (bid : List ℤ) → NeverRises bid → (step later : ℕ) → step ≤ later → later < length bid →
    demand_at bid later ≤ℤ demand_at bid step
falls_to bid falls step later order inside =
    let gap : step + (later - step) ≡ later = omega arith in
    omega (arith, ints, ap (demand_at bid) gap, falls_by bid falls step (later - step) (omega arith))

-- ---- the step

-- a step of the sum
pub settled_inside : (limits : Limits) (k : ℕ) (sum : List ℤ) → 1 ≤ length sum → settled_in limits k sum < length sum
settled_inside limits k sum some =
    let first = first_at_most_is_first limits.ceiling sum some in
    let last = last_at_least_is_last limits.floor sum some in
    omega (arith, first.inside, last.inside)

-- a later step above is no earlier step below
pub settled_rises : (limits : Limits) (j k : ℕ) (sum : List ℤ) → j ≤ k → settled_in limits j sum ≤ settled_in limits k sum
settled_rises limits j k sum le = omega arith

-- within the limits it is the step itself
pub settled_kept : (limits : Limits) (k : ℕ) (sum : List ℤ) → NeverRises sum → k < length sum →
    IsWithinLimits limits (demand_at sum k) → settled_in limits k sum ≡ k
settled_kept limits k sum falls inside keeps =
    let a : ℕ = first_at_most limits.ceiling sum in
    let b : ℕ = last_at_least limits.floor sum in
    let first = first_at_most_is_first limits.ceiling sum (omega arith) in
    let last = last_at_least_is_last limits.floor sum (omega arith) in
    let from : a ≤ k = elim (cases_lt k a) [
      | inl before ↦ absurd (omega (arith, ints, first.before k before, keeps.ceiling))
      | inr le ↦ le
    ] in
    let to : k ≤ b = elim (cases_lt b k) [
      | inl after ↦ absurd (omega (arith, ints, last.after k after inside, keeps.floor))
      | inr le ↦ le
    ] in
    omega (arith, from, to)

-- above the ceiling it is the first step at most the ceiling
pub settled_above : (limits : Limits) (k : ℕ) (sum : List ℤ) → NeverRises sum → k < length sum →
    limits.ceiling <ℤ demand_at sum k → settled_in limits k sum ≡ first_at_most limits.ceiling sum
settled_above limits k sum falls inside above =
    let a : ℕ = first_at_most limits.ceiling sum in
    let first = first_at_most_is_first limits.ceiling sum (omega arith) in
    let to : k ≤ a = elim (cases_lt a k) [
      | inl later ↦ absurd (omega (arith, ints, above, falls_to sum falls a k (omega arith) inside, first.met (omega arith)))
      | inr le ↦ le
    ] in
    omega (arith, to)

-- the first step at most the ceiling comes no later than a step that keeps it
first_to : (limits : Limits) (sum : List ℤ) (i : ℕ) → i < length sum → demand_at sum i ≤ℤ limits.ceiling → first_at_most limits.ceiling sum ≤ i
first_to limits sum i inside keeps =
    let a : ℕ = first_at_most limits.ceiling sum in
    let first = first_at_most_is_first limits.ceiling sum (omega arith) in
    elim (cases_lt i a) [
      | inl before ↦ absurd (omega (arith, ints, first.before i before, keeps))
      | inr le ↦ le
    ]

-- the last step at least the floor comes no earlier than a step that keeps it
last_from : (limits : Limits) (sum : List ℤ) (i : ℕ) → i < length sum → limits.floor ≤ℤ demand_at sum i → i ≤ last_at_least limits.floor sum
last_from limits sum i inside keeps =
    let b : ℕ = last_at_least limits.floor sum in
    let last = last_at_least_is_last limits.floor sum (omega arith) in
    elim (cases_lt b i) [
      | inl after ↦ absurd (omega (arith, ints, last.after i after inside, keeps))
      | inr le ↦ le
    ]

-- if some step is within, below the floor it is the last step at least the floor
pub settled_below : (limits : Limits) (k : ℕ) (sum : List ℤ) → NeverRises sum → k < length sum → HasStepWithin limits sum →
    demand_at sum k <ℤ limits.floor → settled_in limits k sum ≡ last_at_least limits.floor sum
settled_below limits k sum falls inside has below =
    let b : ℕ = last_at_least limits.floor sum in
    let last = last_at_least_is_last limits.floor sum (omega arith) in
    let low = first_to limits sum has.step has.inside has.keeps.ceiling in
    let high = last_from limits sum has.step has.inside has.keeps.floor in
    let to : b ≤ k = elim (cases_lt k b) [
      | inl early ↦ absurd (omega (arith, ints, below, falls_to sum falls k b (omega arith) last.inside, last.met (omega arith)))
      | inr le ↦ le
    ] in
    omega (arith, low, high, to)

-- the ceiling is kept at every step, if some step of the sum keeps it
pub settled_ceiling : (limits : Limits) (k i : ℕ) (sum : List ℤ) → NeverRises sum → i < length sum → demand_at sum i ≤ℤ limits.ceiling →
    demand_at sum (settled_in limits k sum) ≤ℤ limits.ceiling
settled_ceiling limits k i sum falls inside keeps =
    let a : ℕ = first_at_most limits.ceiling sum in
    let first = first_at_most_is_first limits.ceiling sum (omega arith) in
    let early = first_to limits sum i inside keeps in
    let met : demand_at sum a ≤ℤ limits.ceiling = elim (cases_lt (a + 1) (length sum)) [
      | inl more ↦ first.met more
      | inr last ↦ let same : i ≡ a = omega (arith, early, last, inside, first.inside) in omega (arith, ints, keeps, ap (demand_at sum) same)
    ] in
    let within = settled_inside limits k sum (omega arith) in
    omega (arith, ints, met, falls_to sum falls a (settled_in limits k sum) (omega arith) within)

-- both limits are kept at every step, if some step of the sum keeps both
pub settled_within : (limits : Limits) (k : ℕ) (sum : List ℤ) → NeverRises sum → HasStepWithin limits sum →
    IsWithinLimits limits (demand_at sum (settled_in limits k sum))
settled_within limits k sum falls has =
    let i : ℕ = has.step in
    let b : ℕ = last_at_least limits.floor sum in
    let inside : i < length sum = has.inside in
    let last = last_at_least_is_last limits.floor sum (omega arith) in
    let low = first_to limits sum i inside has.keeps.ceiling in
    let high = last_from limits sum i inside has.keeps.floor in
    let met : limits.floor ≤ℤ demand_at sum b = elim (cases_eq b 0) [
      | inl none ↦ let same : i ≡ b = omega (arith, none, high) in omega (arith, ints, has.keeps.floor, ap (demand_at sum) same)
      | inr some ↦ last.met (omega (arith, some))
    ] in
    record {
      floor = omega (arith, ints, met, falls_to sum falls (settled_in limits k sum) b (omega (arith, low, high)) last.inside);
      ceiling = settled_ceiling limits k i sum falls inside has.keeps.ceiling;
    }

-- ---- what is announced

-- as long as the sum
pub length-said : (first last : ℕ) (sum : List ℤ) → length (said_between first last sum) ≡ length sum
unfolding said_between
length-said first last sum = length-map-range_with_len (said_at first last sum) 0 (length sum)

-- at each step what is taken at the nearest of the steps, as far as it can be said
pub said_between-at : (first last : ℕ) (sum : List ℤ) (k : ℕ) → k < length sum →
    demand_at (said_between first last sum) k ≡ said_at first last sum k
unfolding said_between
said_between-at first last sum k inside = get_or-map-range_with_len (said_at first last sum) 0 (length sum) k k (pos 0) inside (omega arith)

-- as long as the sum
pub announced-length : (limits : Limits) (sum : List ℤ) → length (announced_in limits sum) ≡ length sum
announced-length limits sum = length-said (first_at_most limits.ceiling sum) (last_at_least limits.floor sum) sum

-- at each step what is taken where the relay settles, as far as it can be said
pub announced-at : (limits : Limits) (sum : List ℤ) (k : ℕ) → k < length sum →
    demand_at (announced_in limits sum) k ≡ nearest_said (demand_at sum (settled_in limits k sum))
announced-at limits sum k inside = said_between-at (first_at_most limits.ceiling sum) (last_at_least limits.floor sum) sum k inside

-- a demand that a bid may have
pub nearest_said-small : (demand : ℤ) → IsWithin demand_limit (nearest_said demand)
nearest_said-small demand = record { low = omega (arith, ints, clamps); high = omega (arith, ints, clamps) }

nearest_said-itself : (demand : ℤ) → IsWithin demand_limit demand → nearest_said demand ≡ demand
nearest_said-itself demand small = omega (arith, ints, clamps, small.low, small.high)

nearest_said-falls : (a b : ℤ) → b ≤ℤ a → nearest_said b ≤ℤ nearest_said a
nearest_said-falls a b le = omega (arith, ints, clamps, le)

-- a demand that a bid may have
pub announced-small : (limits : Limits) (sum : List ℤ) → AllWithinLimit demand_limit (announced_in limits sum)
announced-small limits sum = λ k inside.
    subst (IsWithin demand_limit) (sym (announced-at limits sum k (omega (arith, inside, announced-length limits sum))))
    (nearest_said-small (demand_at sum (settled_in limits k sum)))

-- what can be said is what is taken
pub announced-taken : (limits : Limits) (sum : List ℤ) (k : ℕ) → k < length sum → IsWithin demand_limit (demand_at sum (settled_in limits k sum)) →
    demand_at (announced_in limits sum) k ≡ demand_at sum (settled_in limits k sum)
announced-taken limits sum k inside small =
    announced-at limits sum k inside ∙ nearest_said-itself (demand_at sum (settled_in limits k sum)) small

-- of a sum that never rises it never rises
pub announced-falls : (limits : Limits) (sum : List ℤ) → NeverRises sum → NeverRises (announced_in limits sum)
announced-falls limits sum falls = λ k inside.
    let next : k + 1 < length sum = omega (arith, inside, announced-length limits sum) in
    let here = announced-at limits sum k (omega arith) in
    let after = announced-at limits sum (k + 1) next in
    let le = falls_to sum falls (settled_in limits k sum) (settled_in limits (k + 1) sum) (settled_rises limits k (k + 1) sum (omega arith))
    (settled_inside limits (k + 1) sum (omega arith)) in
    omega (arith, ints, here, after, nearest_said-falls (demand_at sum (settled_in limits k sum)) (demand_at sum (settled_in limits (k + 1) sum)) le)

-- limits that can be said, with some step within them, are kept, and what is taken there can be said
pub settled_small : (limits : Limits) (k : ℕ) (sum : List ℤ) → AreSmall limits → NeverRises sum → HasStepWithin limits sum →
    IsWithin demand_limit (demand_at sum (settled_in limits k sum))
settled_small limits k sum small falls has =
    let keeps = settled_within limits k sum falls has in
    record {
      low = omega (arith, ints, keeps.floor, small.floor.low);
      high = omega (arith, ints, keeps.ceiling, small.ceiling.high);
    }

-- limits that can be said, with some step within them, are kept at every step
pub announced-within : (limits : Limits) (sum : List ℤ) (k : ℕ) → AreSmall limits → NeverRises sum → HasStepWithin limits sum → k < length sum →
    IsWithinLimits limits (demand_at (announced_in limits sum) k)
announced-within limits sum k small falls has inside =
    let keeps = settled_within limits k sum falls has in
    let is = announced-taken limits sum k inside (settled_small limits k sum small falls has) in
    record {
      floor = omega (arith, ints, keeps.floor, is);
      ceiling = omega (arith, ints, keeps.ceiling, is);
    }

-- a sum that never leaves the limits is announced as it is
pub settled_unbound : (limits : Limits) (sum : List ℤ) (k : ℕ) → NeverBind limits sum → k < length sum → settled_in limits k sum ≡ k
settled_unbound limits sum k never inside =
    let a : ℕ = first_at_most limits.ceiling sum in
    let b : ℕ = last_at_least limits.floor sum in
    let low = first_to limits sum k inside (never k inside).1 in
    let high = last_from limits sum k inside (never k inside).0 in
    omega (arith, low, high)

-- a sum that never leaves limits that can be said is announced as it is
pub announced-unbound : (limits : Limits) (sum : List ℤ) → AreSmall limits → NeverBind limits sum → announced_in limits sum ≡ sum
announced-unbound limits sum small never = same_bids (announced_in limits sum) sum (announced-length limits sum) (λ k lt.
    let inside : k < length sum = omega (arith, lt, announced-length limits sum) in
    let is : settled_in limits k sum ≡ k = settled_unbound limits sum k never inside in
    announced-at limits sum k inside ∙ ap (λ (i : ℕ). nearest_said (demand_at sum i)) is
    ∙ nearest_said-itself (demand_at sum k) (record {
      low = omega (arith, ints, small.floor.low, (never k inside).0);
      high = omega (arith, ints, small.ceiling.high, (never k inside).1);
    }))

-- what is said is a demand that a bid may have
pub said_small : (first last : ℕ) (sum : List ℤ) → AllWithinLimit demand_limit (said_between first last sum)
said_small first last sum = λ k inside.
    subst (IsWithin demand_limit) (sym (said_between-at first last sum k (omega (arith, inside, length-said first last sum))))
    (nearest_said-small (demand_at sum (max first (min k last))))

-- no power is announced as no power
pub announced-zeros : (limits : Option Limits) (steps : ℕ) → announced limits (zeros steps) ≡ zeros steps
announced-zeros None steps = refl
announced-zeros (Some limits) steps = same_bids (announced_in limits (zeros steps)) (zeros steps) (announced-length limits (zeros steps)) (λ k lt.
    let inside : k < length (zeros steps) = omega (arith, lt, announced-length limits (zeros steps)) in
    announced-at limits (zeros steps) k inside ∙ ap nearest_said (zeros-at steps (settled_in limits k (zeros steps)))
    ∙ nearest_said-itself (pos 0) (record { low = omega (arith, ints); high = omega (arith, ints) })
    ∙ sym (zeros-at steps k))

-- ---- the same, with or without limits

-- what is taken at the step for which a relay settles is what it announces at the step above
pub announced_is_taken : (limits : Option Limits) (k : ℕ) (sum : List ℤ) → k < length sum → CanSay limits k sum →
    demand_at (announced limits sum) k ≡ demand_at sum (settled_step limits k sum)
announced_is_taken None k sum inside say = refl
announced_is_taken (Some limits) k sum inside say = announced-taken limits sum k inside say

-- as long as the sum, with or without limits
pub length-announced : (limits : Option Limits) (sum : List ℤ) → length (announced limits sum) ≡ length sum
length-announced None sum = refl
length-announced (Some limits) sum = announced-length limits sum

-- a step of the sum, with or without limits
pub settled_step_inside : (limits : Option Limits) (k : ℕ) (sum : List ℤ) → k < length sum → settled_step limits k sum < length sum
settled_step_inside None k sum inside = inside
settled_step_inside (Some limits) k sum inside = settled_inside limits k sum (omega arith)
