-- The sums of the groups: their limits, and what a change of one device does to them.
use Rattle.std.proofs.Common.{◌≡◌, ◌≢◌, ◌∙◌, sym, ap, ℕ, zero, suc, ◌+◌, ◌*◌, ◌<◌, ◌≤◌, ℤ, Bool, true, false, cond}
use Rattle.std.proofs.Common.{List, [], ◌∷◌, length, map, get_or, refl, arith, subst, inl, inr}
use Rattle.std.proofs.Math.ListN.{set}
use Rattle.std.specs.Prelude.{◌==◌}
use Rattle.std.specs.List.{range_with_len}
use Rattle.std.proofs.lemmas.Bool.{cases_eq, eq-eqb, ne_eqb, cond-true, cond-false}
use Rattle.std.proofs.lemmas.Int.{ints}
use Rattle.std.proofs.lemmas.List.FromFn.{length-map-range_with_len, get_or-map-range_with_len}
use Rattle.pm_bid.specs.Bids.{demand_at, pairwise_sum, pairwise_difference, zeros, sum_of, HaveSteps, AllWithinLimit}
use Rattle.pm_base.specs.Limits.{demand_limit, sum_limit, IsWithin, most_nodes}
use Rattle.pm_bid.proofs.Sums.{sum_of-set, length-sum_of, length-zeros, sum_of-at, zeros-at}
use Rattle.pm_bid.proofs.SumLaws.{Bounded, total_within}
use Rattle.pm_plan.specs.Plans.{PlanData, node, is_member, group, change_count, node_numbers}
use Rattle.pm_plan.specs.Kept.{IsPlan}
use Rattle.pm_plan.specs.Auction.{States, node_bid, part_in, sum_in, demand_in_cut}
use Rattle.pm_base.specs.Cuts.{Cut}
use Rattle.pm_base.proofs.Ints.{wider}
use Rattle.pm_plan.specs.States.{state}
use Rattle.pm_plan.proofs.Auctions.{map_range_same}
use Rattle.pm_plan.proofs.Fits.{bid-steps, demand-within}

-- one value of a list of values is another
map_range_set : {X : Type 0} (f g : ℕ → X) (a n i : ℕ) → i < n → ((k : ℕ) → k ≢ a + i → g k ≡ f k) →
    map g (range_with_len a n) ≡ set (map f (range_with_len a n)) i (g (a + i))
map_range_set f g a zero i inside other = absurd (omega arith)
map_range_set f g a (suc n) zero inside other =
    ap (λ x. x ∷ map g (range_with_len (a + 1) n)) (let e : a ≡ a + 0 = omega arith in ap g e)
    ∙ ap (λ xs. g (a + 0) ∷ xs) (map_range_same g f (a + 1) n (λ k low high. other k (omega arith)))
map_range_set f g a (suc n) (suc i) inside other =
    ap (λ x. x ∷ map g (range_with_len (a + 1) n)) (other a (omega arith))
    ∙ ap (λ xs. f a ∷ xs) (map_range_set f g (a + 1) n i (omega arith) (λ k h. other k (omega arith)))
    ∙ ap (λ j. f a ∷ set (map f (range_with_len (a + 1) n)) i (g j)) (omega arith)

-- the demand of a device depends on its own number alone
pub demand_cut : (plan : PlanData) (s : States) (a b : Cut) (d : ℕ) → a d ≡ b d → demand_in_cut plan s a d ≡ demand_in_cut plan s b d
unfolding demand_in_cut
demand_cut plan s a b d same =
    ap (λ n. cond (is_member plan d n) (node_bid plan (node plan d) (s d n)) (zeros plan.basis.steps)) same

-- what a device adds to its own group is its demand in the cut
pub part_own : (plan : PlanData) (s : States) (cut : Cut) (d : ℕ) → part_in plan s cut (group plan d) d ≡ demand_in_cut plan s cut d
unfolding part_in
part_own plan s cut d = cond-true {A = List ℤ} (group plan d == group plan d) (demand_in_cut plan s cut d) (zeros plan.basis.steps)
    (eq-eqb (group plan d) (group plan d) refl)

-- what a device adds to a group that is not its own is all zeros
pub part_other : (plan : PlanData) (s : States) (cut : Cut) (g d : ℕ) → group plan d ≢ g → part_in plan s cut g d ≡ zeros plan.basis.steps
unfolding part_in
part_other plan s cut g d other =
    cond-false {A = List ℤ} (group plan d == g) (demand_in_cut plan s cut d) (zeros plan.basis.steps) (ne_eqb (group plan d) g other)

part_cut : (plan : PlanData) (s : States) (a b : Cut) (g d : ℕ) → a d ≡ b d → part_in plan s a g d ≡ part_in plan s b g d
unfolding part_in
part_cut plan s a b g d same = ap (λ bid. cond (group plan d == g) bid (zeros plan.basis.steps)) (demand_cut plan s a b d same)

-- the demands of the nodes have the steps of the basis, and lie within the limit of one demand
pub record Fit (plan : PlanData) (s : States) (cut : Cut) : Type 0 where
  -- the demand of each node in the cut has as many steps as the basis
  pub steps : (d : ℕ) → 1 ≤ d → d ≤ length plan.nodes → length (demand_in_cut plan s cut d) ≡ plan.basis.steps
  -- the demand of each node in the cut is within the limit of one demand
  pub bounded : (d : ℕ) → 1 ≤ d → d ≤ length plan.nodes → AllWithinLimit demand_limit (demand_in_cut plan s cut d)

zero_within : (limit steps step : ℕ) → IsWithin limit (demand_at (zeros steps) step)
zero_within limit steps step = subst (IsWithin limit) (sym (zeros-at steps step)) (record { low = omega (arith, ints); high = omega (arith, ints) })

cond_steps : (b : Bool) (steps : ℕ) (bid : List ℤ) → length bid ≡ steps → length (cond b bid (zeros steps)) ≡ steps
cond_steps true steps bid h = h
cond_steps false steps bid h = length-zeros steps

-- so they are in each cut
pub fits : (plan : PlanData) (cut : Cut) → IsPlan plan → ((d : ℕ) → d ≤ length plan.nodes → cut d ≤ change_count plan d) →
    Fit plan (state plan) cut
unfolding demand_in_cut
fits plan cut is within = record {
  steps = λ d low high. cond_steps (is_member plan d (cut d)) plan.basis.steps _ (bid-steps plan (node plan d) (state plan d (cut d)) is);
  bounded = λ d low high. demand-within plan cut d is (within d high);
}

part_fits : (plan : PlanData) (s : States) (cut : Cut) (g d : ℕ) → 1 ≤ d → d ≤ length plan.nodes → Fit plan s cut →
    length (part_in plan s cut g d) ≡ plan.basis.steps
part_fits plan s cut g d low high fit = elim (cases_eq (group plan d) g) [
  | inl same ↦ subst (λ (h : ℕ). length (part_in plan s cut h d) ≡ plan.basis.steps) same
      (ap (λ bid. length bid) (part_own plan s cut d) ∙ fit.steps d low high)
  | inr other ↦ ap (λ bid. length bid) (part_other plan s cut g d other) ∙ length-zeros plan.basis.steps
]

-- what a node adds to a group at a step is within the limit of one demand, where the demands fit
pub part_within : (plan : PlanData) (s : States) (cut : Cut) (g d step : ℕ) → 1 ≤ d → d ≤ length plan.nodes →
    step < plan.basis.steps → Fit plan s cut → Bounded demand_limit step (part_in plan s cut g d)
part_within plan s cut g d step low high below fit = elim (cases_eq (group plan d) g) [
  | inl same ↦ subst (λ (h : ℕ). Bounded demand_limit step (part_in plan s cut h d)) same
      (subst (λ bid. Bounded demand_limit step bid) (sym (part_own plan s cut d)) (fit.bounded d low high step (omega (arith, fit.steps d low high))))
  | inr other ↦ subst (λ bid. Bounded demand_limit step bid) (sym (part_other plan s cut g d other)) (zero_within demand_limit plan.basis.steps step)
]

-- what the nodes add to a group has as many steps as the basis, where the demands fit
pub parts_fit : (plan : PlanData) (s : States) (cut : Cut) (g : ℕ) → Fit plan s cut →
    HaveSteps plan.basis.steps (map (part_in plan s cut g) (node_numbers plan))
parts_fit plan s cut g fit i d inside =
    let n = length plan.nodes in
    let long = length-map-range_with_len (part_in plan s cut g) 1 n in
    let below : i < n = omega (arith, long) in
    ap (λ bid. length bid) (get_or-map-range_with_len (part_in plan s cut g) 1 n i (1 + i) d below refl)
    ∙ part_fits plan s cut g (1 + i) (omega arith) (omega arith) fit

-- the sum of a group has as many steps as the basis, where the demands fit
pub sum_fits : (plan : PlanData) (s : States) (cut : Cut) (g : ℕ) → Fit plan s cut → length (sum_in plan s cut g) ≡ plan.basis.steps
unfolding sum_in
sum_fits plan s cut g fit = length-sum_of plan.basis.steps _ (parts_fit plan s cut g fit)

-- the sum of a group is within the limit of a sum, where the demands fit and the nodes are not too many
pub sum_within : (plan : PlanData) (s : States) (cut : Cut) (g : ℕ) → length plan.nodes ≤ most_nodes → Fit plan s cut →
    AllWithinLimit sum_limit (sum_in plan s cut g)
unfolding sum_in
sum_within plan s cut g few fit step inside =
    let n = length plan.nodes in
    let bids = map (part_in plan s cut g) (node_numbers plan) in
    let long : length bids ≡ n = length-map-range_with_len (part_in plan s cut g) 1 n in
    let all = parts_fit plan s cut g fit in
    let below : step < plan.basis.steps = omega (arith, length-sum_of plan.basis.steps bids all) in
    let total = total_within demand_limit step bids
    (λ i d h. subst (λ bid. Bounded demand_limit step bid)
    (sym (get_or-map-range_with_len (part_in plan s cut g) 1 n i (1 + i) d (omega (arith, long)) refl))
    (part_within plan s cut g (1 + i) step (omega arith) (omega (arith, long)) below fit)) in
    wider (length bids * demand_limit) sum_limit _ (omega arith)
    (subst (λ z. IsWithin (length bids * demand_limit) z) (sym (sum_of-at plan.basis.steps bids step all below)) total)

-- the sum of the group of a device, after the device has made its changes
pub sum_exchanged : (plan : PlanData) (s : States) (a b : Cut) (d : ℕ) → 1 ≤ d → d ≤ length plan.nodes → Fit plan s a →
    length (demand_in_cut plan s b d) ≡ plan.basis.steps → ((e : ℕ) → e ≢ d → b e ≡ a e) →
    pairwise_sum (pairwise_difference (sum_in plan s a (group plan d)) (demand_in_cut plan s a d)) (demand_in_cut plan s b d) ≡ sum_in plan s b (group plan d)
unfolding sum_in
sum_exchanged plan s a b zero low high fit same other = absurd (omega arith)
sum_exchanged plan s a b (suc d) low high fit same other =
    let n = length plan.nodes in
    let g = group plan (suc d) in
    let bids = map (part_in plan s a g) (node_numbers plan) in
    let old : get_or bids d [] ≡ demand_in_cut plan s a (suc d) =
    get_or-map-range_with_len (part_in plan s a g) 1 n d (suc d) [] (omega arith) (omega arith) ∙ part_own plan s a (suc d) in
    let inside : d < length bids = omega (arith, length-map-range_with_len (part_in plan s a g) 1 n) in
    ap (λ bid. pairwise_sum (pairwise_difference (sum_of plan.basis.steps bids) bid) (demand_in_cut plan s b (suc d))) (sym old)
    ∙ sum_of-set plan.basis.steps bids d (demand_in_cut plan s b (suc d)) inside (parts_fit plan s a g fit) same
    ∙ ap (λ bid. sum_of plan.basis.steps (set bids d bid)) (sym (part_own plan s b (suc d))
    ∙ (let e : suc d ≡ 1 + d = omega arith in ap (part_in plan s b g) e))
    ∙ ap (sum_of plan.basis.steps)
    (sym (map_range_set (part_in plan s a g) (part_in plan s b g) 1 n d (omega arith)
    (λ k h. part_cut plan s b a g k (other k (λ e. h (e ∙ omega arith))))))

-- the sum of another group stays
pub sum_kept : (plan : PlanData) (s : States) (a b : Cut) (g d : ℕ) → group plan d ≢ g → ((e : ℕ) → e ≢ d → b e ≡ a e) →
    sum_in plan s b g ≡ sum_in plan s a g
unfolding sum_in
sum_kept plan s a b g d apart other =
    ap (sum_of plan.basis.steps) (map_range_same (part_in plan s b g) (part_in plan s a g) 1 (length plan.nodes) (λ k low high. elim (cases_eq k d) [
      | inl same ↦ subst (λ (e : ℕ). part_in plan s b g e ≡ part_in plan s a g e) (sym same) (part_other plan s b g d apart
          ∙ sym (part_other plan s a g d apart))
      | inr away ↦ part_cut plan s b a g k (other k away)
    ]))
