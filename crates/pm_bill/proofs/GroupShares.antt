-- Each device belongs to one group, so that the groups come to the same power and the same cost as the devices.
use Rattle.std.proofs.Common.{◌≡◌, ◌∙◌, sym, ap, ℕ, ◌≤◌, ℤ, pos, ◌+ℤ◌, ◌*ℤ◌, Bool, true, false, cond, eqb, List, ◌∷◌}
use Rattle.std.proofs.Common.{length, map, refl}
use Rattle.std.proofs.Common.{arith, inl, inr}
use Rattle.std.specs.Prelude.{filter, ◌&&◌}
use Rattle.std.proofs.lemmas.Bool.{cases_eq, cond-true, cond-false, eq-eqb, ne_eqb}
use Rattle.std.proofs.lemmas.Int.{ints}
use Rattle.std.proofs.Math.IntN.{*ℤ_comm, zero-*ℤ}
use Rattle.pm_base.specs.Cuts.{Cut}
use Rattle.pm_basis.specs.Prices.{price_at}
use Rattle.pm_bid.specs.Bids.{demand_at, zeros}
use Rattle.pm_bid.proofs.Sums.{zeros-at}
use Rattle.pm_market.specs.Offers.{int_sum_to}
use Rattle.pm_laws.proofs.Offers.{int_sum_same, int_sum_add, int_sum_only, int_sum_swap}
use Rattle.pm_plan.specs.Plans.{PlanData, is_member, is_limited, group, node_numbers}
use Rattle.pm_plan.specs.Kept.{IsPlan}
use Rattle.pm_plan.specs.Auction.{demand_in_cut, limited_nodes, local_step_in, power}
use Rattle.pm_plan.specs.States.{state}
use Rattle.pm_plan.proofs.Drafts.{limited_is_no_root}
use Rattle.pm_offer.specs.Powers.{members_in, group_power}
use Rattle.pm_offer.proofs.Sums.{sum_zeros, sum_where, none_where}
use Rattle.pm_offer.proofs.GroupNodes.{group_kind}
use Rattle.pm_offer.proofs.Offers.{group_inside}
use Rattle.pm_offer.proofs.GroupPowers.{step_of}
use Rattle.pm_offer.proofs.Laws.{powers_group}
use Rattle.pm_bill.specs.declared.share.Share.{Share}
use Rattle.pm_bill.specs.declared.share.GroupSum.{GroupSum}
use Rattle.pm_bill.specs.Shares.{sum_each, share_cost, group_cost}
use Rattle.pm_bill.specs.Runs.{device_share, group_sum, group_sums}
use Rattle.pm_bill.proofs.NodeSums.{sum_each-map, sum_each-same, watts-sum_each, sum_each-nodes, times-int_sum, times-where}

-- a device that is no member has no power
pub no_power : (plan : PlanData) (cut : Cut) (d : ℕ) → is_member plan d (cut d) ≡ false → power plan (state plan) cut d ≡ pos 0
unfolding power demand_in_cut
no_power plan cut d absent =
    ap (λ bid. demand_at bid (local_step_in plan (state plan) cut d)) (cond-false {A = List ℤ} (is_member plan d (cut d)) _ (zeros plan.basis.steps) absent)
    ∙ zeros-at plan.basis.steps (local_step_in plan (state plan) cut d)

-- ---- each device belongs to one group

-- what the devices of group g have
abbrev pub in_group : PlanData → (ℕ → ℤ) → ℕ → ℤ
in_group plan f g = int_sum_to (length plan.nodes) (λ d. cond (eqb (group plan d) g) (f d) (pos 0))

-- of the limited concentrators only that above a device counts it, and where none is above it group 0 does
one_group : (plan : PlanData) → IsPlan plan → (d : ℕ) (v : ℤ) → d ≤ length plan.nodes →
    cond (eqb (group plan d) 0) v (pos 0)
    +ℤ int_sum_to (length plan.nodes) (λ g. cond (is_limited plan g) (cond (eqb (group plan d) g) v (pos 0)) (pos 0))
    ≡ v
one_group plan is d v inside =
    let n : ℕ = length plan.nodes in
    let h : ℕ = group plan d in
    let term : ℕ → ℤ = λ g. cond (is_limited plan g) (cond (eqb h g) v (pos 0)) (pos 0) in
    elim (group_kind plan is d inside) [
      | inl free ↦
          let own : cond (eqb h 0) v (pos 0) ≡ v = cond-true (eqb h 0) v (pos 0) (eq-eqb h 0 free) in
          let others : int_sum_to n term ≡ pos 0 = sum_zeros n term (λ g one le.
          ap (λ b. cond (is_limited plan g) (cond b v (pos 0)) (pos 0)) (ne_eqb h g (λ same. omega arith))
          ∙ none_where (is_limited plan g)) in
          omega (arith, ints, own, others)
      | inr bounded ↦
          let one : 1 ≤ h = limited_is_no_root plan h bounded in
          let own : cond (eqb h 0) v (pos 0) ≡ pos 0 = cond-false (eqb h 0) v (pos 0) (ne_eqb h 0 (λ same. omega arith)) in
          let others : int_sum_to n term ≡ v =
          int_sum_only n term h one (group_inside plan is d inside)
          (λ g other g_one g_le. ap (λ b. cond (is_limited plan g) (cond b v (pos 0)) (pos 0)) (ne_eqb h g (λ same. other (sym same)))
          ∙ none_where (is_limited plan g))
          ∙ cond-true (is_limited plan h) (cond (eqb h h) v (pos 0)) (pos 0) bounded
          ∙ cond-true (eqb h h) v (pos 0) (eq-eqb h h refl) in
          omega (arith, ints, own, others)
    ]

-- what all groups have is what all devices have
pub in_all_groups : (plan : PlanData) → IsPlan plan → (f : ℕ → ℤ) →
    sum_each (in_group plan f) (0 ∷ limited_nodes plan) ≡ int_sum_to (length plan.nodes) f
in_all_groups plan is f =
    let n : ℕ = length plan.nodes in
    let own : ℕ → ℤ = λ d. cond (eqb (group plan d) 0) (f d) (pos 0) in
    let term : ℕ → ℕ → ℤ = λ g d. cond (is_limited plan g) (cond (eqb (group plan d) g) (f d) (pos 0)) (pos 0) in
    ap (λ z. in_group plan f 0 +ℤ z)
    (sum_each-nodes (in_group plan f) (is_limited plan) n
    ∙ int_sum_same n (λ g. cond (is_limited plan g) (in_group plan f g) (pos 0)) (λ g. int_sum_to n (term g))
    (λ g one le. sum_where (is_limited plan g) n (λ d. cond (eqb (group plan d) g) (f d) (pos 0)))
    ∙ int_sum_swap n n term)
    ∙ sym (int_sum_add n own (λ d. int_sum_to n (λ g. term g d)))
    ∙ int_sum_same n _ f (λ d one le. one_group plan is d (f d) le)

-- ---- power and cost

-- the price of a group's step in a cut
abbrev pub group_price : PlanData → Cut → ℕ → ℤ
group_price plan cut g = price_at plan.basis (step_of plan cut g)

member_alone : (grouped member : Bool) (z : ℤ) → (member ≡ false → z ≡ pos 0) → cond (grouped && member) z (pos 0) ≡ cond grouped z (pos 0)
member_alone true true z none = refl
member_alone true false z none = sym (none refl)
member_alone false member z none = refl

-- the power of a group is that of its devices
pub power_in_group : (plan : PlanData) (cut : Cut) (g : ℕ) → IsPlan plan → (group_sum plan cut g).power ≡ in_group plan (power plan (state plan) cut) g
unfolding group_power
power_in_group plan cut g is =
    let n : ℕ = length plan.nodes in
    let watts : ℕ → ℤ = power plan (state plan) cut in
    let counts : ℕ → Bool = λ d. eqb (group plan d) g && is_member plan d (cut d) in
    sym (powers_group plan g cut is)
    ∙ watts-sum_each watts (members_in plan cut g)
    ∙ sum_each-nodes watts counts n
    ∙ int_sum_same n (λ d. cond (counts d) (watts d) (pos 0)) (λ d. cond (eqb (group plan d) g) (watts d) (pos 0))
    (λ d one le. member_alone (eqb (group plan d) g) (is_member plan d (cut d)) (watts d) (no_power plan cut d))

-- the price of a device is that of its group
share_price : (plan : PlanData) (cut : Cut) (d : ℕ) → (device_share plan cut d).price ≡ group_price plan cut (group plan d)
unfolding local_step_in
share_price plan cut d = refl

-- what a device costs a minute
abbrev pub device_cost : PlanData → Cut → ℕ → ℤ
device_cost plan cut d = share_cost (device_share plan cut d)

cost_where : (plan : PlanData) (cut : Cut) (g d : ℕ) →
    cond (eqb (group plan d) g) (group_price plan cut g *ℤ power plan (state plan) cut d) (pos 0)
    ≡ cond (eqb (group plan d) g) (device_cost plan cut d) (pos 0)
cost_where plan cut g d = elim (cases_eq (group plan d) g) [
  | inl same ↦
      ap (λ z. cond (eqb (group plan d) g) (z *ℤ power plan (state plan) cut d) (pos 0))
      (sym (share_price plan cut d ∙ ap (group_price plan cut) same))
  | inr other ↦
      cond-false (eqb (group plan d) g) _ (pos 0) (ne_eqb (group plan d) g other)
      ∙ sym (cond-false (eqb (group plan d) g) (device_cost plan cut d) (pos 0) (ne_eqb (group plan d) g other))
]

cost_in_group : (plan : PlanData) (cut : Cut) (g : ℕ) → IsPlan plan → group_cost (group_sum plan cut g) ≡ in_group plan (device_cost plan cut) g
cost_in_group plan cut g is =
    let n : ℕ = length plan.nodes in
    let watts : ℕ → ℤ = power plan (state plan) cut in
    ap (λ z. group_price plan cut g *ℤ z) (power_in_group plan cut g is)
    ∙ times-int_sum (group_price plan cut g) n (λ d. cond (eqb (group plan d) g) (watts d) (pos 0))
    ∙ int_sum_same n _ _ (λ d one le. times-where (group_price plan cut g) (eqb (group plan d) g) (watts d) ∙ cost_where plan cut g d)

-- all groups have the power of all devices
pub groups_power : (plan : PlanData) (cut : Cut) → IsPlan plan →
    sum_each (λ group. group.power) (group_sums plan cut) ≡ int_sum_to (length plan.nodes) (power plan (state plan) cut)
groups_power plan cut is =
    sum_each-map (λ (sum : GroupSum). sum.power) (group_sum plan cut) (0 ∷ limited_nodes plan)
    ∙ sum_each-same (λ g. (group_sum plan cut g).power) (in_group plan (power plan (state plan) cut)) (0 ∷ limited_nodes plan)
    (λ g. power_in_group plan cut g is)
    ∙ in_all_groups plan is (power plan (state plan) cut)

-- and cost what all devices cost
pub groups_cost : (plan : PlanData) (cut : Cut) → IsPlan plan →
    sum_each group_cost (group_sums plan cut) ≡ int_sum_to (length plan.nodes) (λ d. share_cost (device_share plan cut d))
groups_cost plan cut is =
    sum_each-map group_cost (group_sum plan cut) (0 ∷ limited_nodes plan)
    ∙ sum_each-same (λ g. group_cost (group_sum plan cut g)) (in_group plan (device_cost plan cut)) (0 ∷ limited_nodes plan)
    (λ g. cost_in_group plan cut g is)
    ∙ in_all_groups plan is (device_cost plan cut)

-- ---- a list of devices that has all members

-- a device that is no member costs nothing
pub no_cost : (plan : PlanData) (cut : Cut) (d : ℕ) → is_member plan d (cut d) ≡ false → device_cost plan cut d ≡ pos 0
no_cost plan cut d absent =
    ap (λ z. (device_share plan cut d).price *ℤ z) (no_power plan cut d absent)
    ∙ *ℤ_comm (device_share plan cut d).price (pos 0) ∙ zero-*ℤ (device_share plan cut d).price

left_out : (chosen : Bool) (z : ℤ) → (chosen ≡ false → z ≡ pos 0) → cond chosen z (pos 0) ≡ z
left_out true z none = refl
left_out false z none = sym (none refl)

-- a list of devices that leaves out no member has the power of all
pub shares_power : (plan : PlanData) (cut : Cut) (p : ℕ → Bool) → ((d : ℕ) → p d ≡ false → is_member plan d (cut d) ≡ false) →
    sum_each (λ share. share.power) (map (device_share plan cut) (filter p (node_numbers plan)))
    ≡ int_sum_to (length plan.nodes) (power plan (state plan) cut)
shares_power plan cut p no_member =
    sum_each-map (λ (share : Share). share.power) (device_share plan cut) (filter p (node_numbers plan))
    ∙ sum_each-nodes (power plan (state plan) cut) p (length plan.nodes)
    ∙ int_sum_same (length plan.nodes) _ _ (λ d one le. left_out (p d) (power plan (state plan) cut d) (λ out. no_power plan cut d (no_member d out)))

-- and the cost of all
pub shares_cost : (plan : PlanData) (cut : Cut) (p : ℕ → Bool) → ((d : ℕ) → p d ≡ false → is_member plan d (cut d) ≡ false) →
    sum_each share_cost (map (device_share plan cut) (filter p (node_numbers plan)))
    ≡ int_sum_to (length plan.nodes) (λ d. share_cost (device_share plan cut d))
shares_cost plan cut p no_member =
    sum_each-map share_cost (device_share plan cut) (filter p (node_numbers plan))
    ∙ sum_each-nodes (device_cost plan cut) p (length plan.nodes)
    ∙ int_sum_same (length plan.nodes) _ _ (λ d one le. left_out (p d) (device_cost plan cut d) (λ out. no_cost plan cut d (no_member d out)))
