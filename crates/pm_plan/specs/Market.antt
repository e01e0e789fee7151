-- The lists of the market of cuts that a plan stands for.
use Rattle.std.specs.Prelude.{ℕ, List, map, Bool}
use Rattle.std.specs.List.{range_with_len}
use Rattle.pm_tree.specs.Entries.{parents_of, leaves_of}
use Rattle.pm_market.specs.Lists.{Lists}
use Rattle.pm_plan.specs.Plans.{PlanData, is_member, phases, change_count, end_cut, node_numbers}

-- whether a device is a member after each of its changes
abbrev pub members_of : PlanData → ℕ → List Bool
members_of plan d = map (is_member plan d) (range_with_len 1 (change_count plan d))

abbrev pub plan_lists : PlanData → Lists
plan_lists plan = record {
  parents = parents_of plan.entries;
  leaves = leaves_of plan.entries;
  members = map (members_of plan) (node_numbers plan);
  ends = map (λ p. map (end_cut plan p) (node_numbers plan)) (range_with_len 1 (phases plan));
}
