-- The numbers of changes at the ends of the phases.
use Rattle.std.proofs.Common.{◌≡◌, ℕ, ◌+◌, ◌≤◌, Bool, true, false, List, [], ◌∷◌, cond, refl, arith}
use Rattle.std.specs.List.{prefix_len}
use Rattle.std.proofs.lemmas.Bool.{leb-true, le-leb}
use Rattle.std.proofs.lemmas.Bool.Decides.{nat_tests}
use Rattle.std.proofs.lemmas.List.Sums.{prefix_len_is, prefix_len-le-length}
use Rattle.pm_plan.specs.Plans.{PlanData, node, changes_of, phases, is_up_to, change_count, end_cut}
use Rattle.pm_plan.specs.Kept.{no_change, change_at, InPhases}

-- no change is of a phase up to 0
pub end-none : (plan : PlanData) (d : ℕ) → InPhases plan → end_cut plan 0 d ≡ 0
unfolding end_cut
end-none plan d fits =
    prefix_len_is (is_up_to 0) (changes_of (node plan d)) 0 no_change (omega arith) (λ k h. absurd (omega arith))
    (λ h. let first : 1 ≤ (change_at plan d 0).phase = fits.first d 0 h in grind (arith, nat_tests))

more_at : (a b : Bool) (m n : ℕ) → (a ≡ true → b ≡ true) → m ≤ n → cond a (1 + m) 0 ≤ cond b (1 + n) 0
more_at true true m n h le = omega arith
more_at true false m n h le = absurd (cc (h refl))
more_at false true m n h le = omega arith
more_at false false m n h le = omega arith

prefix_len_more : {X : Type 0} (p q : X → Bool) → ((x : X) → p x ≡ true → q x ≡ true) → (xs : List X) → prefix_len p xs ≤ prefix_len q xs
prefix_len_more p q h [] = omega arith
prefix_len_more p q h (x ∷ xs) = more_at (p x) (q x) (prefix_len p xs) (prefix_len q xs) (h x) (prefix_len_more p q h xs)

-- the end of a later phase has no fewer changes of a device than that of an earlier one
pub end-rises : (plan : PlanData) (p q d : ℕ) → p ≤ q → end_cut plan p d ≤ end_cut plan q d
unfolding end_cut
end-rises plan p q d within =
    prefix_len_more (is_up_to p) (is_up_to q) (λ c h. le-leb _ q (let below : c.phase ≤ p = leb-true _ p h in omega arith)) (changes_of (node plan d))

-- the end of a phase has no more changes of a device than the device makes
pub end-within : (plan : PlanData) (p d : ℕ) → end_cut plan p d ≤ change_count plan d
unfolding end_cut
end-within plan p d = prefix_len-le-length (is_up_to p) (changes_of (node plan d))

-- the end of the last phase has all changes of a device, where changes lie in the plan's phases
pub end-last : (plan : PlanData) (d : ℕ) → InPhases plan → end_cut plan (phases plan) d ≡ change_count plan d
unfolding end_cut
end-last plan d fits =
    prefix_len_is (is_up_to (phases plan)) (changes_of (node plan d)) (change_count plan d) no_change (omega arith)
    (λ k h. le-leb _ _ (fits.last d k h)) (λ h. absurd (omega arith))
