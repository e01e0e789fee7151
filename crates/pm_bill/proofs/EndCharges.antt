-- The shares and the sums of groups at an end are those of the plain auction of its cut, and it may be charged.
use Rattle.std.proofs.Common.{◌≡◌, ◌∙◌, sym, ap, ℕ, ◌≤◌, ◌<◌, Bool, List, [], ◌∷◌, length, map, get_or, refl}
use Rattle.std.proofs.Common.{arith}
use Rattle.std.specs.Prelude.{All, filter, ◌==◌, not}
use Rattle.std.proofs.lemmas.Simd.{map-map}
use Rattle.std.proofs.lemmas.List.{length-map}
use Rattle.std.proofs.lemmas.List.Elements.{All-map, All-filter, All-head, All-tail}
use Rattle.std.proofs.lemmas.List.Filters.{length-filter_both}
use Rattle.std.proofs.lemmas.List.FromFn.{get_or-range_with_len, length-range_with_len}
use Rattle.pm_base.specs.Cuts.{Cut}
use Rattle.pm_base.specs.Limits.{IsWithin, demand_limit}
use Rattle.pm_base.proofs.Filters.{filter-map, filter_twice}
use Rattle.pm_plan.specs.declared.end.MemberLine.{MemberLine}
use Rattle.pm_plan.specs.declared.end.LimitedLine.{LimitedLine}
use Rattle.pm_basis.specs.Prices.{price_at}
use Rattle.pm_plan.specs.Plans.{PlanData, is_member, is_limited, group, node_numbers, end_cut}
use Rattle.pm_plan.specs.Kept.{IsPlan}
use Rattle.pm_plan.specs.Auction.{limited_nodes, plain_step, local_step_in, power, member_line, limited_line, end_in}
use Rattle.pm_plan.specs.States.{state, end_of}
use Rattle.pm_plan.proofs.Ends.{end-within}
use Rattle.pm_plan.proofs.Fits.{power-within}
use Rattle.pm_offer.specs.Powers.{group_power}
use Rattle.pm_offer.proofs.Offers.{group_inside}
use Rattle.pm_offer.proofs.GroupPowers.{step_of}
use Rattle.pm_offer.proofs.LocalSteps.{group_step_inside}
use Rattle.pm_offer.proofs.Laws.{powers_group}
use Rattle.pm_bill.specs.declared.share.GroupSum.{GroupSum}
use Rattle.pm_bill.specs.Shares.{sum_each}
use Rattle.pm_bill.specs.Runs.{device_share, group_sum, group_sums}
use Rattle.pm_bill.specs.Charges.{member_share, member_shares, free_power, limited_group, end_groups, MayBeCharged}
use Rattle.pm_bill.proofs.NodeSums.{sum_each-map, watts-sum_each}
use Rattle.pm_bill.proofs.EndShares.{price-in_end, unlimited_step}

-- ---- lists

-- functions that agree at each element
map_alike : {X Y : Type 0} (f g : X → Y) (xs : List X) → All (λ x. f x ≡ g x) xs → map f xs ≡ map g xs
map_alike f g [] alike = refl
map_alike f g (x ∷ xs) alike =
    ap (λ y. y ∷ map f xs) (All-head (λ z. f z ≡ g z) x xs alike) ∙ ap (λ ys. g x ∷ ys) (map_alike f g xs (All-tail (λ z. f z ≡ g z) x xs alike))

-- the numbers of a plan's nodes go no further than its nodes
nodes_inside : (plan : PlanData) → All (λ x. x ≤ length plan.nodes) (node_numbers plan)
nodes_inside plan i d inside =
    let long = length-range_with_len 1 (length plan.nodes) in
    let here = get_or-range_with_len 1 (length plan.nodes) i d (omega arith) in
    omega (arith, here)

-- ---- shares

-- the members of a cut in file order
abbrev pub members : PlanData → Cut → List ℕ
members plan cut = filter (λ d. is_member plan d (cut d)) (node_numbers plan)

line_share : (plan : PlanData) (cut : Cut) (d : ℕ) → IsPlan plan → d ≤ length plan.nodes →
    member_share plan (end_of plan cut) (member_line plan (state plan) cut d) ≡ device_share plan cut d
unfolding member_line local_step_in
line_share plan cut d is inside =
    ap (λ z. record { node = d; price = z; power = power plan (state plan) cut d })
    (price-in_end plan cut (group plan d) (λ bounded. group_inside plan is d inside))

-- the shares at a cut's end are those of its members
pub shares_at_end : (plan : PlanData) (cut : Cut) → IsPlan plan →
    member_shares plan (end_of plan cut) ≡ map (device_share plan cut) (members plan cut)
unfolding end_in
shares_at_end plan cut is =
    map-map (member_share plan (end_of plan cut)) (member_line plan (state plan) cut) (members plan cut)
    ∙ map_alike (λ d. member_share plan (end_of plan cut) (member_line plan (state plan) cut d)) (device_share plan cut) (members plan cut)
    (All-filter (λ d. is_member plan d (cut d))
    (λ d. member_share plan (end_of plan cut) (member_line plan (state plan) cut d) ≡ device_share plan cut d) (node_numbers plan)
    (λ i e inside. line_share plan cut (get_or (node_numbers plan) i e) is (nodes_inside plan i e inside)))

-- ---- groups

-- the power of the members below no limited concentrator is the power of group 0
free_power_is : (plan : PlanData) (cut : Cut) → IsPlan plan → free_power plan (end_of plan cut) ≡ (group_sum plan cut 0).power
unfolding end_in member_line group_power
free_power_is plan cut is =
    let line : ℕ → MemberLine = member_line plan (state plan) cut in
    let free : ℕ → Bool = λ d. group plan d == 0 in
    ap (sum_each (λ (member : MemberLine). member.power)) (filter-map (λ (member : MemberLine). group plan member.node == 0) line (members plan cut))
    ∙ sum_each-map (λ (member : MemberLine). member.power) line (filter free (members plan cut))
    ∙ ap (sum_each (power plan (state plan) cut)) (filter_twice free (λ d. is_member plan d (cut d)) (node_numbers plan))
    ∙ sym (watts-sum_each (power plan (state plan) cut) _)
    ∙ powers_group plan 0 cut is

line_groups : (plan : PlanData) (cut : Cut) (gs : List ℕ) → map (limited_group plan) (map (limited_line plan (state plan) cut) gs)
    ≡ map (group_sum plan cut) gs
unfolding limited_line
line_groups plan cut gs = map-map (limited_group plan) (limited_line plan (state plan) cut) gs

-- the groups at a cut's end are those of the plain auction
pub groups_at_end : (plan : PlanData) (cut : Cut) → IsPlan plan → end_groups plan (end_of plan cut) ≡ group_sums plan cut
unfolding end_in
groups_at_end plan cut is =
    let rest : List GroupSum = map (limited_group plan) (map (limited_line plan (state plan) cut) (limited_nodes plan)) in
    let step : ℕ = plain_step plan (state plan) cut in
    ap (λ z. record { price = price_at plan.basis step; power = z } ∷ rest) (free_power_is plan cut is)
    ∙ ap (λ k. record { price = price_at plan.basis k; power = (group_sum plan cut 0).power } ∷ rest) (unlimited_step plan cut 0 refl)
    ∙ ap (λ sums. group_sum plan cut 0 ∷ sums) (line_groups plan cut (limited_nodes plan))

-- ---- bounds

-- the end of each phase may be charged
pub may_charge : (plan : PlanData) (p : ℕ) → IsPlan plan → MayBeCharged plan (end_of plan (end_cut plan p))
unfolding end_in member_line limited_line
may_charge plan p is =
    let cut : Cut = end_cut plan p in
    let all = nodes_inside plan in
    record {
      nodes =
          All-map (λ (line : MemberLine). line.node ≤ length plan.nodes) (member_line plan (state plan) cut) (members plan cut)
          (All-filter (λ d. is_member plan d (cut d)) (λ d. d ≤ length plan.nodes) (node_numbers plan) all);
      steps =
          All-map (λ (line : LimitedLine). line.step < plan.basis.steps) (limited_line plan (state plan) cut) (limited_nodes plan)
          (All-filter (is_limited plan) (λ g. step_of plan cut g < plan.basis.steps) (node_numbers plan)
          (λ i d inside. group_step_inside plan cut (get_or (node_numbers plan) i d) is));
      powers =
          All-map (λ (line : MemberLine). IsWithin demand_limit line.power) (member_line plan (state plan) cut) (members plan cut)
          (All-filter (λ d. is_member plan d (cut d)) (λ d. IsWithin demand_limit (power plan (state plan) cut d)) (node_numbers plan)
          (λ i d inside. power-within plan cut (get_or (node_numbers plan) i d) is (end-within plan p (get_or (node_numbers plan) i d))));
      few =
          let member : ℕ → Bool = λ d. is_member plan d (cut d) in
          let lines = length-map (members plan cut) (member_line plan (state plan) cut) in
          let both = length-filter_both member (λ d. not (member d)) (λ d. refl) (node_numbers plan) in
          let long = length-range_with_len 1 (length plan.nodes) in
          omega (arith, lines, both, long, is.nodes.few);
    }
