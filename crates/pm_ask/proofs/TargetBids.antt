-- A target taken off a total is one more bid: the negated target at every step.
use Rattle.std.proofs.Common.{◌≡◌, ◌∙◌, sym, ap, subst, ℕ, zero, suc, ◌≤◌, ℤ, ◌+ℤ◌, ◌-ℤ◌, neg_ℤ, List, [], ◌∷◌}
use Rattle.std.proofs.Common.{length, refl, arith}
use Rattle.std.proofs.lemmas.Int.{ints}
use Rattle.pm_bid.specs.Bids.{demand_at, pairwise_sum, sum_of, HaveSteps}
use Rattle.pm_bid.specs.Clearing.{Clears, IsFirstAtMost}
use Rattle.pm_bid.proofs.Sums.{length-sum_of}
use Rattle.pm_bid.proofs.SumLaws.{added_comm}
use Rattle.pm_ask.specs.Asked.{less_target, asked_step, asked_total, target_bid}
use Rattle.pm_ask.proofs.Targets.{less_target-at, asked_step_meets, clears_meets, meets_is_asked, rest_clears}

-- the bid of a target has so many steps
pub length-target_bid : (target : ℤ) (steps : ℕ) → length (target_bid target steps) ≡ steps
length-target_bid target zero = refl
length-target_bid target (suc steps) = ap suc (length-target_bid target steps)

-- a total with a target taken off is the total with the bid of the target added
pub less_target-added : (target : ℤ) (steps : ℕ) (total : List ℤ) → length total ≡ steps
    → less_target target total ≡ pairwise_sum total (target_bid target steps)
less_target-added target zero [] same = refl
less_target-added target (suc steps) [] same = absurd (omega arith)
less_target-added target zero (x ∷ xs) same = absurd (omega arith)
less_target-added target (suc steps) (x ∷ xs) same =
    let first : x -ℤ target ≡ x +ℤ neg_ℤ target = omega (arith, ints) in
    ap (λ z. z ∷ less_target target xs) first ∙ ap (λ zs. (x +ℤ neg_ℤ target) ∷ zs) (less_target-added target steps xs (omega arith))

-- and where the total is that of some bids it is the total of these and the bid of the target
pub less_target-sum_of : (target : ℤ) (steps : ℕ) (bids : List (List ℤ)) → HaveSteps steps bids
    → less_target target (sum_of steps bids) ≡ sum_of steps (target_bid target steps ∷ bids)
less_target-sum_of target steps bids all =
    let long = length-sum_of steps bids all in
    less_target-added target steps (sum_of steps bids) long
    ∙ added_comm (sum_of steps bids) (target_bid target steps) (long ∙ sym (length-target_bid target steps))

-- a market with one more bid clears at the step of the target
pub target_clears : (target : ℤ) (steps : ℕ) (total : List ℤ) → length total ≡ steps → 1 ≤ steps
    → Clears (pairwise_sum total (target_bid target steps)) (asked_step target total)
target_clears target steps total same some =
    subst (λ rest. Clears rest (asked_step target total)) (less_target-added target steps total same) (rest_clears target total (omega arith))

-- and at no other
pub target_clears_only : (target : ℤ) (steps : ℕ) (total : List ℤ) (step : ℕ) → length total ≡ steps
    → Clears (pairwise_sum total (target_bid target steps)) step → step ≡ asked_step target total
target_clears_only target steps total step same clears =
    let first = subst (λ rest. Clears rest step) (sym (less_target-added target steps total same)) clears in
    sym (meets_is_asked target total step (clears_meets target total step first))

-- what is left over is the total there less the target
pub left_over_is : (target : ℤ) (total : List ℤ) → 1 ≤ length total
    → asked_total target total ≡ demand_at total (asked_step target total) -ℤ target
left_over_is target total some = less_target-at target total (asked_step target total) (asked_step_meets target total some).inside

-- the step of a target is the first at which the total is at most the target
pub asked_step_is_first : (target : ℤ) (total : List ℤ) → 1 ≤ length total → IsFirstAtMost target total (asked_step target total)
asked_step_is_first target total some =
    let meets = asked_step_meets target total some in
    record { inside = meets.inside; before = meets.before; met = meets.met }
