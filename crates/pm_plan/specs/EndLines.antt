-- The lines of the first nodes at a phase's end.
use Rattle.std.specs.Prelude.{ℕ, List, map, filter}
use Rattle.std.specs.List.{range_with_len}
use Rattle.pm_base.specs.Cuts.{Cut}
use Rattle.pm_plan.specs.declared.end.MemberLine.{MemberLine}
use Rattle.pm_plan.specs.declared.end.LimitedLine.{LimitedLine}
use Rattle.pm_plan.specs.Plans.{PlanData, is_limited, is_member}
use Rattle.pm_plan.specs.Auction.{member_line, limited_line}
use Rattle.pm_plan.specs.States.{state}

-- the lines of the members among the first k nodes
unfoldable pub members_to : PlanData → Cut → ℕ → List MemberLine
members_to plan cut k = map (member_line plan (state plan) cut) (filter (λ d. is_member plan d (cut d)) (range_with_len 1 k))

-- the lines of the limited concentrators among the first k nodes
unfoldable pub limited_to : PlanData → Cut → ℕ → List LimitedLine
limited_to plan cut k = map (limited_line plan (state plan) cut) (filter (is_limited plan) (range_with_len 1 k))
