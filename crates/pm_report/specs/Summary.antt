-- The summary of a demo.
use Rattle.std.specs.Prelude.{ℕ, ◌-◌, ℤ, pos, ◌+ℤ◌, List, [], ◌∷◌, ◌++◌, codes, decimal, length, slice_index_or, fold}
use Rattle.std.specs.Fmt.{signed_decimal}
use Rattle.pm_plan.specs.Ends.{no_end}
use Rattle.pm_plan.specs.Plans.{PlanData, phases, all_changes}
use Rattle.pm_plan.specs.Auction.{EndData}
use Rattle.pm_report.specs.Words.{text_line}

-- the sum of one number of each end, as of the prices or of the totals
abbrev pub sum_over : (EndData → ℤ) → List EndData → ℤ
sum_over part ends = fold (λ sum end. sum +ℤ part end) (pos 0) ends

-- the last of the ends
abbrev pub last_end : List EndData → EndData
last_end ends = slice_index_or ends (length ends - 1) no_end

-- demo size S number R nodes N phases P changes C, with the nodes, the phases and the changes of the plan
abbrev pub demo_line : ℕ → ℕ → PlanData → List ℕ
demo_line size number plan = text_line (
    codes "demo" ∷ codes "size" ∷ decimal size ∷ codes "number" ∷ decimal number ∷ codes "nodes" ∷ decimal (length plan.nodes)
    ∷ codes "phases" ∷ decimal (phases plan) ∷ codes "changes" ∷ decimal (all_changes plan.nodes) ∷ [])

-- prices A totals B, the sums over all ends
abbrev pub sums_line : List EndData → List ℕ
sums_line ends = text_line (
    codes "prices" ∷ signed_decimal (sum_over (λ end. end.price) ends)
    ∷ codes "totals" ∷ signed_decimal (sum_over (λ end. end.total) ends) ∷ [])

-- last price X total T members M
abbrev pub last_line : EndData → List ℕ
last_line end = text_line (
    codes "last" ∷ codes "price" ∷ signed_decimal end.price ∷ codes "total" ∷ signed_decimal end.total
    ∷ codes "members" ∷ decimal (length end.members) ∷ [])

-- the line of the demo and its plan, that of the sums, and that of the last end
unfoldable pub summary_text : ℕ → ℕ → PlanData → List EndData → List ℕ
summary_text size number plan ends =
    demo_line size number plan ++ (sums_line ends ++ last_line (last_end ends))
