-- The end that is read of the parts, line by line.
use Rattle.std.proofs.Common.{◌≡◌, ◌∙◌, sym, ap, ℕ, ◌+◌, ◌-◌, ◌≤◌, ℤ, Bool, List, [], ◌∷◌, ◌++◌, map}
use Rattle.std.proofs.Common.{Option, Some, inl, inr}
use Rattle.std.specs.Prelude.{filter}
use Rattle.std.specs.List.{range_with_len}
use Rattle.std.proofs.lemmas.Bool.{cond-true, cond-false, cases_Bool}
use Rattle.std.proofs.lemmas.List.{append-nil}
use Rattle.pm_base.specs.declared.limits.Limits.{Limits}
use Rattle.pm_basis.specs.Prices.{price_at}
use Rattle.pm_bid.specs.Bids.{demand_at}
use Rattle.pm_bid.specs.Limited.{step_within, local_step}
use Rattle.pm_cache.specs.Cache.{Cache, aggregate_of, child_head, child_demand}
use Rattle.pm_market.specs.Lists.{parent}
use Rattle.pm_plan.specs.Auction.{EndData, limited_nodes}
use Rattle.pm_plan.specs.Market.{plan_lists}
use Rattle.pm_plan.specs.Plans.{PlanData, node, limits_of, node_numbers}
use Rattle.pm_plan.specs.Plans as plans
use Rattle.pm_plan.specs.declared.end.MemberLine.{MemberLine}
use Rattle.pm_plan.specs.declared.end.LimitedLine.{LimitedLine}
use Rattle.pm_plan.proofs.EndLines.{listed-yes, listed-no}
use Rattle.pm_plan.proofs.MarketLists.{parent-is}
use Rattle.pm_session.specs.Ports.{held_by}
use Rattle.pm_session.specs.declared.price.Held.{Held}
use Rattle.pm_tree.specs.Entries.{place_of}
use Rattle.pm_carried.specs.Carried.{Carried, cache_at, entry_head, entry_demand, carried_power, carried_member, carried_step, carried_limited, carried_end}
use Rattle.pm_phase.specs.PartsEnd.{held_of_parts, is_member_in, parts_end, AddsLineIf}
use Rattle.pm_phase.specs.declared.node.NodePart.{NodePart}

-- the line of a member, by the cache of the node above
pub member_is : (plan : PlanData) (c : Carried) (d above place number' : ℕ) (cache : Cache) (held : Option Held) (power' : ℤ) →
    above ≡ plans.parent plan d → cache ≡ cache_at c above → place ≡ place_of plan.entries d → held ≡ held_by (c.seats d) →
    power' ≡ carried_power held (child_demand cache place) → number' ≡ (child_head cache place).number →
    (let line : MemberLine = record { node = d; power = power'; number = number' } in line) ≡ carried_member plan c d
unfolding carried_member entry_head entry_demand
member_is plan c d above place number' cache held power' above_is cache_is place_is held_is power_is number_is =
    let y : ℕ = parent (plan_lists plan) d in
    let same : cache ≡ cache_at c y = cache_is ∙ ap (cache_at c) (above_is ∙ sym (parent-is plan d)) in
    let p : ℕ = place_of plan.entries d in
    ap (λ (w : ℤ). let line : MemberLine = record { node = d; power = w; number = number' } in line) (
    power_is ∙ ap (λ (h : Option Held). carried_power h (child_demand cache place)) held_is
    ∙ ap (λ (q : Cache). carried_power (held_by (c.seats d)) (child_demand q place)) same
    ∙ ap (λ (k : ℕ). carried_power (held_by (c.seats d)) (child_demand (cache_at c y) k)) place_is
    )
    ∙ ap (λ (n : ℕ).
    let line : MemberLine = record { node = d; power = carried_power (held_by (c.seats d)) (child_demand (cache_at c y) p); number = n } in line) (
    number_is ∙ ap (λ (q : Cache). (child_head q place).number) same ∙ ap (λ (k : ℕ). (child_head (cache_at c y) k).number) place_is
    )

-- the line of a limited concentrator
pub limited_is : (plan : PlanData) (c : Carried) (g k local : ℕ) (limits : Limits) (sum : List ℤ) (total' : ℤ) →
    limits_of (node plan g) ≡ Some limits → k ≡ c.auctioneer.step → sum ≡ aggregate_of (c.concentrators g).cache →
    local ≡ step_within limits k sum → total' ≡ demand_at sum local →
    (let line : LimitedLine = record { node = g; step = local; total = total' } in line) ≡ carried_limited plan c g
unfolding carried_limited
limited_is plan c g k local limits sum total' limits_is step_is sum_is local_is total_is =
    let own : List ℤ = aggregate_of (c.concentrators g).cache in
    let local_step_is : local ≡ carried_step plan c g =
    local_is ∙ ap (λ (j : ℕ). step_within limits j sum) step_is ∙ ap (step_within limits c.auctioneer.step) sum_is
    ∙ ap (λ (l : Option Limits). local_step l c.auctioneer.step own) (sym limits_is) in
    ap (λ (w : ℤ). let line : LimitedLine = record { node = g; step = local; total = w } in line)
    (total_is ∙ ap (λ (s : List ℤ). demand_at s local) sum_is)
    ∙ ap (λ (h : ℕ). let line : LimitedLine = record { node = g; step = h; total = demand_at own h } in line) local_step_is

-- the lines of one node more
pub one_more : {A : Type 0} (line : ℕ → A) (test : ℕ → Bool) (n : ℕ) (old new : List A) → 1 ≤ n →
    old ≡ map line (filter test (range_with_len 1 (n - 1))) → AddsLineIf line test n old new →
    new ≡ map line (filter test (range_with_len 1 (n + 1 - 1)))
one_more {A} line test n old new first is adds =
    let before : List A = map line (filter test (range_with_len 1 (n - 1))) in
    elim (cases_Bool (test n)) [
      | inl passes ↦
          adds ∙ ap (λ (ls : List A). old ++ ls) (cond-true (test n) (line n ∷ []) [] passes) ∙ ap (λ (ls : List A). ls ++ line n ∷ []) is
          ∙ sym (listed-yes line test n first passes)
      | inr fails ↦
          adds ∙ ap (λ (ls : List A). old ++ ls) (cond-false (test n) (line n ∷ []) [] fails) ∙ append-nil old ∙ is
          ∙ sym (listed-no line test n first fails)
    ]

-- the end with these lines
pub end_is : (plan : PlanData) (parts : List NodePart) (k : ℕ) (price' total' : ℤ) (members' : List MemberLine) (limited' : List LimitedLine) →
    k ≡ (held_of_parts parts).auctioneer.step → price' ≡ price_at plan.basis k →
    total' ≡ demand_at (aggregate_of (held_of_parts parts).auctioneer.cache) k →
    members' ≡ map (carried_member plan (held_of_parts parts)) (filter (is_member_in parts) (node_numbers plan)) →
    limited' ≡ map (carried_limited plan (held_of_parts parts)) (limited_nodes plan) →
    (let end : EndData = record { step = k; price = price'; total = total'; members = members'; limited = limited' } in end) ≡ parts_end plan parts
unfolding carried_end
end_is plan parts k price' total' members' limited' step_is price_is total_is members_are limited_are =
    let c : Carried = held_of_parts parts in
    ap (λ (ms : List MemberLine). let end : EndData = record { step = k; price = price'; total = total'; members = ms; limited = limited' } in end) members_are
    ∙ ap (λ (ls : List LimitedLine). let end : EndData = record {
      step = k;
      price = price';
      total = total';
      members = map (carried_member plan c) (filter (is_member_in parts) (node_numbers plan));
      limited = ls;
    } in end) limited_are
    ∙ ap (λ (w : ℤ). let end : EndData = record {
      step = k;
      price = w;
      total = total';
      members = map (carried_member plan c) (filter (is_member_in parts) (node_numbers plan));
      limited = map (carried_limited plan c) (limited_nodes plan);
    } in end) price_is
    ∙ ap (λ (w : ℤ). let end : EndData = record {
      step = k;
      price = price_at plan.basis k;
      total = w;
      members = map (carried_member plan c) (filter (is_member_in parts) (node_numbers plan));
      limited = map (carried_limited plan c) (limited_nodes plan);
    } in end) total_is
    ∙ ap (λ (j : ℕ). let end : EndData = record {
      step = j;
      price = price_at plan.basis j;
      total = demand_at (aggregate_of c.auctioneer.cache) j;
      members = map (carried_member plan c) (filter (is_member_in parts) (node_numbers plan));
      limited = map (carried_limited plan c) (limited_nodes plan);
    } in end) step_is
