-- The text of a phase's end, and the report.
use Rattle.std.specs.Prelude.{ℕ, ◌+◌, ◌<◌, ◌≤◌, List, [], ◌∷◌, ◌++◌, codes, decimal, length, map, flat_map, All}
use Rattle.std.specs.Fmt.{signed_decimal}
use Rattle.pm_basis.specs.Prices.{price_at}
use Rattle.pm_plan.specs.declared.end.MemberLine.{MemberLine}
use Rattle.pm_plan.specs.declared.end.LimitedLine.{LimitedLine}
use Rattle.pm_plan.specs.Plans.{PlanData, phases, all_changes}
use Rattle.pm_plan.specs.Auction.{EndData}
use Rattle.pm_plan.specs.Ends.{EndValue}
use Rattle.pm_report.specs.Words.{name, text_line}

-- the nodes and the steps that the lines of an end name are those of the plan
pub record IsEndOf (plan : PlanData) (end : EndData) : Type 0 where
  pub members : All (λ member. member.node ≤ length plan.nodes) end.members
  pub limited : All (λ limited. limited.node ≤ length plan.nodes) end.limited
  pub steps : All (λ limited. limited.step < plan.basis.steps) end.limited

-- phase P price X step K total T members M
abbrev pub phase_line : ℕ → EndData → List ℕ
phase_line phase end = text_line (
    codes "phase" ∷ decimal phase ∷ codes "price" ∷ signed_decimal end.price ∷ codes "step" ∷ decimal end.step
    ∷ codes "total" ∷ signed_decimal end.total ∷ codes "members" ∷ decimal (length end.members) ∷ [])

-- member NAME power W bid N
abbrev pub member_text : PlanData → MemberLine → List ℕ
member_text plan member = text_line (
    codes "member" ∷ name plan member.node ∷ codes "power" ∷ signed_decimal member.power ∷ codes "bid" ∷ decimal member.number ∷ [])

-- limited NAME price X step K total T, where X is the price of step K
abbrev pub limited_text : PlanData → LimitedLine → List ℕ
limited_text plan limited = text_line (
    codes "limited" ∷ name plan limited.node ∷ codes "price" ∷ signed_decimal (price_at plan.basis limited.step)
    ∷ codes "step" ∷ decimal limited.step ∷ codes "total" ∷ signed_decimal limited.total ∷ [])

-- the line of a phase, then one for each member and one for each limited concentrator
unfoldable pub phase_text : PlanData → ℕ → EndData → List ℕ
phase_text plan phase end =
    phase_line phase end ++ (flat_map (member_text plan) end.members ++ flat_map (limited_text plan) end.limited)

-- end phases P changes C, with the phases and the changes of the plan
abbrev pub end_line : PlanData → List ℕ
end_line plan = text_line (codes "end" ∷ codes "phases" ∷ decimal (phases plan) ∷ codes "changes" ∷ decimal (all_changes plan.nodes) ∷ [])

-- the texts of phases, the first of which has this number
abbrev pub phase_texts : PlanData → ℕ → List EndData → List ℕ
phase_texts plan first [] = []
phase_texts plan first (end ∷ ends) = phase_text plan first end ++ phase_texts plan (first + 1) ends

-- the text of each phase, counted from 1, then the last line
unfoldable pub report_text : PlanData → List EndData → List ℕ
report_text plan ends = phase_texts plan 1 ends ++ end_line plan

-- ends without the room that they have
abbrev pub ends_of : List EndValue → List EndData
ends_of ends = map (λ end. end.end) ends
