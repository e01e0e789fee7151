-- The plain auction of a cut depends on the states of the cut alone.
use Rattle.std.proofs.Common.{◌≡◌, ◌∙◌, ap, ℕ, zero, suc, ◌+◌, ◌<◌, ◌≤◌, ℤ, List, [], ◌∷◌, length, map, cond, refl, arith}
use Rattle.std.specs.Prelude.{◌==◌}
use Rattle.std.specs.List.{range_with_len}
use Rattle.pm_bid.specs.Bids.{demand_at, sum_of, zeros}
use Rattle.pm_bid.specs.Clearing.{clearing_step}
use Rattle.pm_bid.specs.Limited.{within_limits, local_step}
use Rattle.pm_plan.specs.Devices.{DeviceData}
use Rattle.pm_plan.specs.declared.node.Node.TheVariants.{Concentrator, Limited, Device}
use Rattle.pm_plan.specs.Plans.{PlanData, NodeData, node, limits_of, is_member, group}
use Rattle.pm_plan.specs.Auction.{States, node_bid, part_in, sum_in, announcement, total}
use Rattle.pm_plan.specs.Auction.{plain_step, local_step_of_group, local_step_in, power, limited_nodes, demand_in_cut}
use Rattle.pm_base.specs.Cuts.{Cut}

-- two functions that agree on the numbers of a range map the range to the same list
pub map_range_same : {X : Type 0} (f g : ℕ → X) (a n : ℕ) → ((k : ℕ) → a ≤ k → k < a + n → f k ≡ g k) →
    map f (range_with_len a n) ≡ map g (range_with_len a n)
map_range_same f g a zero same = refl
map_range_same f g a (suc n) same =
    ap (λ x. x ∷ map f (range_with_len (a + 1) n)) (same a (omega arith) (omega arith))
    ∙ ap (λ xs. g a ∷ xs) (map_range_same f g (a + 1) n (λ k low high. same k (omega arith) (omega arith)))

-- two functions that agree everywhere map a list to the same list
pub map_same : {A X : Type 0} (f g : A → X) (xs : List A) → ((x : A) → f x ≡ g x) → map f xs ≡ map g xs
map_same f g [] same = refl
map_same f g (x ∷ xs) same = ap (λ y. y ∷ map f xs) (same x) ∙ ap (λ ys. g x ∷ ys) (map_same f g xs same)

-- states that give each device the same in a cut
abbrev pub Agree : PlanData → Cut → States → States → Type 0
Agree plan cut s t = (d : ℕ) (planned : DeviceData) → node plan d ≡ Device planned → s d (cut d) ≡ t d (cut d)

bid_same : (plan : PlanData) (n : NodeData) (y z : ℤ) → ((planned : DeviceData) → n ≡ Device planned → y ≡ z) →
    node_bid plan n y ≡ node_bid plan n z
bid_same plan (Device planned) y z same = ap (node_bid plan (Device planned)) (same planned refl)
bid_same plan Concentrator y z same = refl
bid_same plan (Limited limits) y z same = refl

-- states that agree on a cut give each node the same demand in the cut
pub demand_same : (plan : PlanData) (s t : States) (cut : Cut) (d : ℕ) → Agree plan cut s t → demand_in_cut plan s cut d ≡ demand_in_cut plan t cut d
unfolding demand_in_cut
demand_same plan s t cut d same =
    ap (λ bid. cond (is_member plan d (cut d)) bid (zeros plan.basis.steps)) (bid_same plan (node plan d) (s d (cut d)) (t d (cut d)) (same d))

-- states that agree on a cut give each group the same sum of demands
pub sum_same : (plan : PlanData) (s t : States) (cut : Cut) (g : ℕ) → Agree plan cut s t → sum_in plan s cut g ≡ sum_in plan t cut g
unfolding sum_in part_in
sum_same plan s t cut g same =
    ap (sum_of plan.basis.steps) (map_range_same (part_in plan s cut g) (part_in plan t cut g) 1 (length plan.nodes)
    (λ d low high. ap (λ bid. cond (group plan d == g) bid (zeros plan.basis.steps)) (demand_same plan s t cut d same)))

-- states that agree on a cut give the same total
pub total_same : (plan : PlanData) (s t : States) (cut : Cut) → Agree plan cut s t → total plan s cut ≡ total plan t cut
unfolding total announcement
total_same plan s t cut same =
    ap (λ bid. sum_of plan.basis.steps (bid ∷ map (announcement plan s cut) (limited_nodes plan))) (sum_same plan s t cut 0 same)
    ∙ ap (λ bids. sum_of plan.basis.steps (sum_in plan t cut 0 ∷ bids)) (map_same (announcement plan s cut) (announcement plan t cut) (limited_nodes plan)
    (λ g. ap (within_limits (limits_of (node plan g))) (sum_same plan s t cut g same)))

-- states that agree on a cut give the plain auction the same step
pub plain_same : (plan : PlanData) (s t : States) (cut : Cut) → Agree plan cut s t → plain_step plan s cut ≡ plain_step plan t cut
unfolding plain_step
plain_same plan s t cut same = ap clearing_step (total_same plan s t cut same)

-- states that agree on a cut give each node the same step of its group
pub local_same : (plan : PlanData) (s t : States) (cut : Cut) (x : ℕ) → Agree plan cut s t → local_step_in plan s cut x ≡ local_step_in plan t cut x
unfolding local_step_in local_step_of_group
local_same plan s t cut x same =
    ap (λ k. local_step (limits_of (node plan (group plan x))) k (sum_in plan s cut (group plan x))) (plain_same plan s t cut same)
    ∙ ap (local_step (limits_of (node plan (group plan x))) (plain_step plan t cut)) (sum_same plan s t cut (group plan x) same)

-- states that agree on a cut give each node the same power
pub power_same : (plan : PlanData) (s t : States) (cut : Cut) (d : ℕ) → Agree plan cut s t → power plan s cut d ≡ power plan t cut d
unfolding power
power_same plan s t cut d same =
    ap (λ bid. demand_at bid (local_step_in plan s cut d)) (demand_same plan s t cut d same)
    ∙ ap (demand_at (demand_in_cut plan t cut d)) (local_same plan s t cut d same)
