-- The lines of the phases' ends name nodes and steps of the plan.
use Rattle.std.proofs.Common.{◌≡◌, ◌∙◌, sym, ap, ℕ, ◌<◌, ◌≤◌, ℤ, pos, List, length, get_or, arith, Option, Some, None}
use Rattle.std.specs.Prelude.{All, filter, int_lt}
use Rattle.std.specs.List.{range_with_len}
use Rattle.std.proofs.lemmas.List.Elements.{All-map, All-filter}
use Rattle.std.proofs.lemmas.List.FromFn.{get_or-range_with_len, length-range_with_len, length-map-range_with_len}
use Rattle.pm_base.specs.declared.limits.Limits.{Limits}
use Rattle.pm_bid.specs.Bids.{demand_at}
use Rattle.pm_bid.specs.Clearing.{first_at_most, last_at_least}
use Rattle.pm_bid.specs.Limited.{local_step}
use Rattle.pm_plan.specs.declared.end.MemberLine.{MemberLine}
use Rattle.pm_plan.specs.declared.end.LimitedLine.{LimitedLine}
use Rattle.pm_plan.specs.Plans.{PlanData, node, limits_of, phases, change_count, is_limited, is_member, end_cut, node_numbers}
use Rattle.pm_plan.specs.Kept.{IsPlan}
use Rattle.pm_plan.specs.Auction.{sum_in, total, plain_step, local_step_of_group, member_line, limited_line, end_in}
use Rattle.pm_base.specs.Cuts.{Cut}
use Rattle.pm_base.proofs.Bools.{chosen}
use Rattle.pm_plan.specs.States.{state, end_of, all_ends}
use Rattle.pm_plan.proofs.Ends.{end-within}
use Rattle.pm_walk.proofs.Sums.{fits, sum_fits}
use Rattle.pm_walk.proofs.GroupTotals.{total_to-steps, total_to-all}
use Rattle.pm_report.specs.Report.{IsEndOf}

first_inside : (limit : ℤ) (bid : List ℤ) (steps : ℕ) → length bid ≡ steps → 1 ≤ steps → first_at_most limit bid < steps
first_inside limit bid steps long some = omega arith

last_inside : (limit : ℤ) (bid : List ℤ) (steps : ℕ) → length bid ≡ steps → 1 ≤ steps → last_at_least limit bid < steps
last_inside limit bid steps long some = omega arith

local_inside : (limits : Option Limits) (k steps : ℕ) (sum : List ℤ) → length sum ≡ steps → 1 ≤ steps → k < steps →
    local_step limits k sum < steps
local_inside None k steps sum long some inside = inside
local_inside (Some limits) k steps sum long some inside =
    chosen (λ (j : ℕ). j < steps) (int_lt limits.ceiling (demand_at sum k)) (first_at_most limits.ceiling sum) _
    (first_inside limits.ceiling sum steps long some)
    (chosen (λ (j : ℕ). j < steps) (int_lt (demand_at sum k) limits.floor) (last_at_least limits.floor sum) k
    (last_inside limits.floor sum steps long some) inside)

-- the numbers of nodes
each_number : (n : ℕ) → All (λ x. x ≤ n) (range_with_len 1 n)
each_number n i d inside =
    let long = length-range_with_len 1 n in
    let here = get_or-range_with_len 1 n i d (omega arith) in
    omega (arith, here)

member-node : (plan : PlanData) (cut : Cut) (d : ℕ) → d ≤ length plan.nodes → (member_line plan (state plan) cut d).node ≤ length plan.nodes
unfolding member_line
member-node plan cut d inside = inside

limited-node : (plan : PlanData) (cut : Cut) (g : ℕ) → g ≤ length plan.nodes → (limited_line plan (state plan) cut g).node ≤ length plan.nodes
unfolding limited_line
limited-node plan cut g inside = inside

-- a cut that gives no device more than its changes
abbrev pub IsCutOf : PlanData → Cut → Type 0
IsCutOf plan cut = (d : ℕ) → d ≤ length plan.nodes → cut d ≤ change_count plan d

plain_step-inside : (plan : PlanData) (cut : Cut) → IsPlan plan → IsCutOf plan cut → plain_step plan (state plan) cut < plan.basis.steps
unfolding plain_step
plain_step-inside plan cut is within =
    let fit = fits plan cut is within in
    let long = ap (λ (l : List ℤ). length l) (sym (total_to-all plan (state plan) cut)) ∙ total_to-steps plan (state plan) cut (length plan.nodes) fit in
    first_inside (pos 0) (total plan (state plan) cut) plan.basis.steps long (let some = is.basis.steps.least in omega arith)

limited-step : (plan : PlanData) (cut : Cut) (g : ℕ) → IsPlan plan → IsCutOf plan cut → (limited_line plan (state plan) cut g).step < plan.basis.steps
unfolding limited_line local_step_of_group
limited-step plan cut g is within =
    let fit = fits plan cut is within in
    local_inside (limits_of (node plan g)) (plain_step plan (state plan) cut) plan.basis.steps (sum_in plan (state plan) cut g)
    (sum_fits plan (state plan) cut g fit)
    (let some = is.basis.steps.least in omega arith) (plain_step-inside plan cut is within)

-- the end over a cut with no more than the plan's changes names nodes and steps of the plan alone
pub end-is : (plan : PlanData) (cut : Cut) → IsPlan plan → IsCutOf plan cut → IsEndOf plan (end_of plan cut)
unfolding end_in
end-is plan cut is within =
    let n = length plan.nodes in
    let s = state plan in
    let node_inside = each_number n in
    record {
      members =
          All-map (λ (line : MemberLine). line.node ≤ n) (member_line plan s cut) (filter (λ d. is_member plan d (cut d)) (node_numbers plan))
          (All-filter (λ d. is_member plan d (cut d)) (λ d. (member_line plan s cut d).node ≤ n) (node_numbers plan)
          (λ i d inside. member-node plan cut (get_or (node_numbers plan) i d) (node_inside i d inside)));
      limited =
          All-map (λ (line : LimitedLine). line.node ≤ n) (limited_line plan s cut) (filter (is_limited plan) (node_numbers plan))
          (All-filter (is_limited plan) (λ g. (limited_line plan s cut g).node ≤ n) (node_numbers plan)
          (λ i d inside. limited-node plan cut (get_or (node_numbers plan) i d) (node_inside i d inside)));
      steps =
          All-map (λ (line : LimitedLine). line.step < plan.basis.steps) (limited_line plan s cut) (filter (is_limited plan) (node_numbers plan))
          (All-filter (is_limited plan) (λ g. (limited_line plan s cut g).step < plan.basis.steps) (node_numbers plan)
          (λ i d inside. limited-step plan cut (get_or (node_numbers plan) i d) is within));
    }

-- the ends of all phases name nodes and steps of the plan alone
pub ends-are : (plan : PlanData) → IsPlan plan → All (IsEndOf plan) (all_ends plan)
ends-are plan is =
    All-map (IsEndOf plan) (λ p. end_of plan (end_cut plan p)) (range_with_len 1 (phases plan))
    (λ i d inside. end-is plan (end_cut plan (get_or (range_with_len 1 (phases plan)) i d)) is
    (λ e low. end-within plan (get_or (range_with_len 1 (phases plan)) i d) e))

-- there is one end for each phase of the plan
pub length-ends : (plan : PlanData) → length (all_ends plan) ≡ phases plan
length-ends plan = length-map-range_with_len (λ p. end_of plan (end_cut plan p)) 1 (phases plan)
