-- The powers of a group's members add up to the demand of the group at its step.
use Rattle.std.proofs.Common.{◌≡◌, ◌∙◌, sym, ap, subst, ℕ, ◌<◌, ℤ, pos, ◌+ℤ◌, Bool, true, false, cond, eqb, List, [], ◌∷◌}
use Rattle.std.proofs.Common.{length, map, refl, Option, Some}
use Rattle.std.specs.Prelude.{◌&&◌}
use Rattle.std.proofs.lemmas.Bool.{cond-false, eqb-true}
use Rattle.pm_base.specs.declared.limits.Limits.{Limits}
use Rattle.pm_base.specs.Cuts.{Cut}
use Rattle.pm_bid.specs.Bids.{demand_at, zeros}
use Rattle.pm_bid.specs.Limited.{local_step, step_within}
use Rattle.pm_bid.proofs.Sums.{total_at, zeros-at}
use Rattle.pm_plan.specs.Plans.{PlanData, node, limits_of, is_member, group}
use Rattle.pm_plan.specs.Kept.{IsPlan}
use Rattle.pm_plan.specs.Auction.{demand_in_cut, sum_in, announcement, limited_nodes, total, plain_step, local_step_of_group, local_step_in, power}
use Rattle.pm_plan.specs.States.{state}
use Rattle.pm_laws.proofs.Offers.{int_sum_same}
use Rattle.pm_offer.specs.Powers.{total_watts, members_in, group_power, announced_power, KeepsLimits}
use Rattle.pm_offer.proofs.Sums.{total_of_some}
use Rattle.pm_offer.proofs.Steps.{demand_is, watts, sum_in_at, total_is}
use Rattle.pm_offer.proofs.LocalSteps.{group_step_inside}
use Rattle.pm_offer.proofs.Falls.{group_keeps}

-- ---- numbers of watts, as sums of bids at a step

watts_at : (f : ℕ → List ℤ) (step : ℕ) (xs : List ℕ) → total_watts (map (λ x. demand_at (f x) step) xs) ≡ total_at (map f xs) step
watts_at f step [] = refl
watts_at f step (x ∷ xs) = ap (λ z. demand_at (f x) step +ℤ z) (watts_at f step xs)

-- ---- the powers of a group

-- a node that is no member takes no power
absent_watts : (plan : PlanData) (cut : Cut) (step d : ℕ) → is_member plan d (cut d) ≡ false → watts plan cut step d ≡ pos 0
unfolding demand_in_cut
absent_watts plan cut step d absent =
    ap (λ bid. demand_at bid step) (cond-false {A = List ℤ} (is_member plan d (cut d)) _ (zeros plan.basis.steps) absent) ∙ zeros-at plan.basis.steps step

-- the step of a group over a cut
abbrev pub step_of : PlanData → Cut → ℕ → ℕ
step_of plan cut g = local_step_of_group plan (state plan) cut (plain_step plan (state plan) cut) g

power_in_group : (plan : PlanData) (cut : Cut) (g d : ℕ) → group plan d ≡ g → power plan (state plan) cut d ≡ watts plan cut (step_of plan cut g) d
unfolding power local_step_in
power_in_group plan cut g d same =
    ap (demand_at (demand_in_cut plan (state plan) cut d)) (ap (step_of plan cut) same)
    ∙ ap (λ bid. demand_at bid (step_of plan cut g)) (demand_is plan cut d)

members_alone : (grouped member : Bool) (y z : ℤ) → (grouped ≡ true → y ≡ z) →
    (member ≡ false → z ≡ pos 0) → cond (grouped && member) y (pos 0) ≡ cond grouped z (pos 0)
members_alone true true y z same none = same refl
members_alone true false y z same none = sym (none refl)
members_alone false member y z same none = refl

-- the powers of a group's members add up to the group's sum at the group's step
pub powers_group : (plan : PlanData) (g : ℕ) (cut : Cut) → IsPlan plan →
    group_power plan cut g ≡ demand_at (sum_in plan (state plan) cut g) (local_step_of_group plan (state plan) cut (plain_step plan (state plan) cut) g)
unfolding group_power
powers_group plan g cut is =
    let n : ℕ = length plan.nodes in
    let counts : ℕ → Bool = λ d. eqb (group plan d) g && is_member plan d (cut d) in
    let alone : ℕ → List ℤ = λ d. power plan (state plan) cut d ∷ [] in
    watts_at alone 0 (members_in plan cut g)
    ∙ total_of_some alone counts n 0
    ∙ int_sum_same n _ (λ d. cond (eqb (group plan d) g) (watts plan cut (step_of plan cut g) d) (pos 0))
    (λ d one le. members_alone (eqb (group plan d) g) (is_member plan d (cut d)) (power plan (state plan) cut d) (watts plan cut (step_of plan cut g) d)
    (λ e. power_in_group plan cut g d (eqb-true (group plan d) g e)) (absent_watts plan cut (step_of plan cut g) d))
    ∙ sym (sum_in_at plan is cut g (step_of plan cut g) (group_step_inside plan cut g is))

-- at a step the total is the sum of group 0 and the announced power of the limited concentrators
pub powers_total : (plan : PlanData) (cut : Cut) (step : ℕ) → IsPlan plan → step < plan.basis.steps →
    demand_at (total plan (state plan) cut) step ≡ demand_at (sum_in plan (state plan) cut 0) step +ℤ announced_power plan cut step
unfolding announced_power
powers_total plan cut step is inside =
    total_is plan is cut step inside
    ∙ ap (λ z. demand_at (sum_in plan (state plan) cut 0) step +ℤ z) (sym (watts_at (announcement plan (state plan) cut) step (limited_nodes plan)))

limited_step : (plan : PlanData) (cut : Cut) (g : ℕ) (l : Limits) → limits_of (node plan g) ≡ Some l →
    step_within l (plain_step plan (state plan) cut) (sum_in plan (state plan) cut g) ≡ step_of plan cut g
unfolding local_step_of_group
limited_step plan cut g l here =
    sym (ap (λ (own : Option Limits). local_step own (plain_step plan (state plan) cut) (sum_in plan (state plan) cut g)) here)

-- a group's powers add up within its limits where its sum keeps these at some step of the basis
pub powers_within : (plan : PlanData) (g : ℕ) (cut : Cut) (l : Limits) (k : ℕ) → IsPlan plan → limits_of (node plan g) ≡ Some l →
    k < plan.basis.steps →
    KeepsLimits l (demand_at (sum_in plan (state plan) cut g) k) → KeepsLimits l (group_power plan cut g)
powers_within plan g cut l k is here inside keeps =
    subst (KeepsLimits l) (ap (demand_at (sum_in plan (state plan) cut g)) (limited_step plan cut g l here) ∙ sym (powers_group plan g cut is))
    (group_keeps plan is cut g (plain_step plan (state plan) cut) k l inside keeps)
