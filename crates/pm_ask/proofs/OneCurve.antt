-- A total has one list of breaks.
use Rattle.std.proofs.Common.{◌≡◌, ◌∙◌, sym, ap, refl, ℕ, zero, suc, ◌+◌, ◌<◌, ◌≤◌, ℤ, List, [], ◌∷◌, Option, Some, None}
use Rattle.std.proofs.Common.{arith, inl, inr}
use Rattle.std.specs.Prelude.{◌⊎◌, All}
use Rattle.std.specs.List.{AllPairs, Any}
use Rattle.std.proofs.lemmas.Int.{ints}
use Rattle.std.proofs.lemmas.List.Elements.{All-head, All-tail}
use Rattle.pm_ask.specs.Breaks.{HasTargets, IsLeastTarget, IsGreatestTarget, HasEnds, AreBreaks}
use Rattle.pm_ask.specs.declared.breaks.Break.{Break}
use Rattle.pm_ask.proofs.BreakLists.{steps_of_breaks}

-- a step has one least target, or none, and so with the greatest
one_least : (total : List ℤ) (step : ℕ) (least other : Option ℤ) → IsLeastTarget total step least → IsLeastTarget total step other → least ≡ other
one_least total step (Some a) (Some b) is also =
    let below = is.1 b also.0 in
    let above = also.1 a is.0 in
    ap Some (omega (arith, ints, below, above))
one_least total step (Some a) None is also =
    let lower = also a is.0 in
    let least = is.1 lower.0 lower.1.0 in
    absurd (omega (arith, ints, lower.1.1, least))
one_least total step None (Some b) is also =
    let lower = is b also.0 in
    let least = also.1 lower.0 lower.1.0 in
    absurd (omega (arith, ints, lower.1.1, least))
one_least total step None None is also = refl

one_greatest : (total : List ℤ) (step : ℕ) (greatest other : Option ℤ) → IsGreatestTarget total step greatest → IsGreatestTarget total step other
    → greatest ≡ other
one_greatest total step (Some a) (Some b) is also =
    let below = is.1 b also.0 in
    let above = also.1 a is.0 in
    ap Some (omega (arith, ints, below, above))
one_greatest total step (Some a) None is also =
    let higher = also a is.0 in
    let greatest = is.1 higher.0 higher.1.0 in
    absurd (omega (arith, ints, higher.1.1, greatest))
one_greatest total step None (Some b) is also =
    let higher = is b also.0 in
    let greatest = also.1 higher.0 higher.1.0 in
    absurd (omega (arith, ints, higher.1.1, greatest))
one_greatest total step None None is also = refl

one_break : (total : List ℤ) (break other : Break) → break.step ≡ other.step → HasEnds total break → HasEnds total other → break ≡ other
one_break total break other step is also =
    let least = one_least total other.step break.from other.from (rw step at is.least) also.least in
    let greatest = one_greatest total other.step break.to other.to (rw step at is.greatest) also.greatest in
    λ i. record { step = step i; from = least i; to = greatest i }

-- the breaks of the steps from this one on: by rising steps, each with its ends, and one for each step that has targets
record AreBreaksFrom (total : List ℤ) (first : ℕ) (breaks : List Break) : Type 0 where
  -- the breaks stand in the order of rising steps
  pub rise : AllPairs (λ earlier later. earlier.step < later.step) breaks
  -- each break is of the first step or of a later one
  pub later : All (λ break. first ≤ break.step) breaks
  -- the step of each break has targets
  pub some : All (λ break. HasTargets total break.step) breaks
  -- each break has the least and the greatest target of its step
  pub ends : All (HasEnds total) breaks
  -- each step from the first on that has targets has a break
  pub each : (step : ℕ) → first ≤ step → HasTargets total step → Any (λ break. break.step ≡ step) breaks

first_or_later : {X : Type 0} (P : X → Type 0) (x : X) (xs : List X) → Any P (x ∷ xs) → P x ⊎ Any P xs
first_or_later P x xs (zero, it, inside, is, holds) = inl (rw (sym is) at holds)
first_or_later P x xs (suc k, it, inside, is, holds) = inr (k, it, omega (arith, inside), is, holds)

none_is_any : {X : Type 0} (P : X → Type 0) → Any P [] → ⊥
none_is_any P any = omega (arith, any.2)

-- the first break is that of the least step
first_is_least : (total : List ℤ) (first step : ℕ) (break : Break) (breaks : List Break) → AreBreaksFrom total first (break ∷ breaks) → first ≤ step
    → HasTargets total step → break.step ≤ step
first_is_least total first step break breaks are from has =
    elim (first_or_later (λ b. b.step ≡ step) break breaks (are.each step from has)) [
      | inl here ↦ omega (arith, here)
      | inr any ↦
          let order = are.rise 0 (suc any.0) any.1 (omega arith) (omega (arith, any.2)) in
          let same = ap (λ b. b.step) any.3 ∙ any.4 in
          omega (arith, order, same)
    ]

after_first : (total : List ℤ) (first : ℕ) (break : Break) (breaks : List Break) → AreBreaksFrom total first (break ∷ breaks)
    → AreBreaksFrom total (break.step + 1) breaks
after_first total first break breaks are = record {
  rise = λ i j d order inside. are.rise (suc i) (suc j) d (omega arith) (omega (arith, inside));
  later = λ k d inside. let order = are.rise 0 (suc k) d (omega arith) (omega (arith, inside)) in omega (arith, order);
  some = All-tail (λ b. HasTargets total b.step) break breaks are.some;
  ends = All-tail (HasEnds total) break breaks are.ends;
  each = λ step from has.
      let before = All-head (λ b. first ≤ b.step) break breaks are.later in
      elim (first_or_later (λ b. b.step ≡ step) break breaks (are.each step (omega (arith, before, from)) has)) [
        | inl here ↦ absurd (omega (arith, here, from))
        | inr any ↦ any
      ];
}

same_from : (total : List ℤ) (first : ℕ) (breaks others : List Break) → AreBreaksFrom total first breaks →
    AreBreaksFrom total first others → breaks ≡ others
same_from total first [] [] are also = refl
same_from total first [] (other ∷ others) are also =
    let later = All-head (λ b. first ≤ b.step) other others also.later in
    absurd (none_is_any _ (are.each other.step later (All-head (λ b. HasTargets total b.step) other others also.some)))
same_from total first (break ∷ breaks) [] are also =
    let later = All-head (λ b. first ≤ b.step) break breaks are.later in
    absurd (none_is_any _ (also.each break.step later (All-head (λ b. HasTargets total b.step) break breaks are.some)))
same_from total first (break ∷ breaks) (other ∷ others) are also =
    let of_break = All-head (λ b. HasTargets total b.step) break breaks are.some in
    let of_other = All-head (λ b. HasTargets total b.step) other others also.some in
    let least = first_is_least total first other.step break breaks are (All-head (λ b. first ≤ b.step) other others also.later) of_other in
    let other_least = first_is_least total first break.step other others also (All-head (λ b. first ≤ b.step) break breaks are.later) of_break in
    let step : break.step ≡ other.step = omega (arith, least, other_least) in
    let same = one_break total break other step (All-head (HasEnds total) break breaks are.ends) (All-head (HasEnds total) other others also.ends) in
    let next : other.step + 1 ≡ break.step + 1 = omega (arith, step) in
    let after = after_first total first break breaks are in
    let rest = same_from total (break.step + 1) breaks others after (rw next at (after_first total first other others also)) in
    λ i. same i ∷ rest i

from_start : (total : List ℤ) (breaks : List Break) → AreBreaks total breaks → AreBreaksFrom total 0 breaks
from_start total breaks are = record {
  rise = are.rise;
  later = λ k d inside. omega arith;
  some = are.some;
  ends = are.ends;
  each = λ step from has. (steps_of_breaks total breaks are step).0 has;
}

-- two lists of breaks of a total are one
pub one_list_of_breaks : (total : List ℤ) (breaks others : List Break) → AreBreaks total breaks → AreBreaks total others → breaks ≡ others
one_list_of_breaks total breaks others are also = same_from total 0 breaks others (from_start total breaks are) (from_start total others also)
