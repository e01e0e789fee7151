-- What a settled board hands on.
use Rattle.std.proofs.Common.{◌≡◌, ◌∙◌, sym, ap, subst, ℕ, ℤ, List, arith}
use Rattle.pm_market.specs.Lists.{end_count, IsLeaf}
use Rattle.pm_market.specs.Moves.{Idle}
use Rattle.pm_market.specs.declared.journal.Line.{Line}
use Rattle.pm_market.proofs.Tree.{leaf_node}
use Rattle.pm_plan.specs.Plans.{PlanData, phases, end_cut}
use Rattle.pm_plan.specs.Kept.{IsPlan}
use Rattle.pm_plan.specs.Auction.{total}
use Rattle.pm_plan.specs.Ends.{EndValue}
use Rattle.pm_plan.specs.States.{state, all_ends}
use Rattle.pm_plan.specs.Market.{plan_lists}
use Rattle.pm_plan.proofs.MarketLists.{lawful, phases-is, end-is}
use Rattle.pm_offer.proofs.GroupNodes.{nodes_are}
use Rattle.pm_offer.proofs.Laws.{total_alike}
use Rattle.pm_report.specs.Report.{ends_of}
use Rattle.pm_board.specs.Boards.{BoardValue, board_state}
use Rattle.pm_turns.specs.Settled.{IsSettled}
use Rattle.pm_answer.specs.Answers.{IsCompleteJournal, last_total}

-- the ends that a settled board hands on are those of all phases of its plan
pub settled_ends : (plan : PlanData) (b : BoardValue) (ends : List EndValue) → b.plan ≡ plan → IsSettled b → ends ≡ b.ends →
    ends_of ends ≡ all_ends plan
settled_ends plan b ends same settled handed = ap ends_of handed ∙ settled.ends ∙ ap all_ends same

-- the lines that a settled board hands on are a complete journal of its plan
pub settled_journal : (plan : PlanData) (b : BoardValue) (lines : List Line) → b.plan ≡ plan → IsSettled b → lines ≡ b.lines →
    IsCompleteJournal plan lines
settled_journal plan b lines same settled handed =
    subst (λ (ls : List Line). IsCompleteJournal plan ls) (sym handed)
    (subst (λ (p : PlanData). IsCompleteJournal p b.lines) same (record { legal = settled.journal; complete = settled.complete }))

-- all changes made are those at the end of the last phase
last_counts : (b : BoardValue) → IsPlan b.plan → IsSettled b → (d : ℕ) → IsLeaf (plan_lists b.plan) d →
    (board_state b).counts d ≡ end_cut b.plan (phases b.plan) d
last_counts b is settled d leaf =
    let law = lawful b.plan is in
    let node = leaf_node (plan_lists b.plan) law d leaf in
    settled.made d leaf ∙ sym (law.ends_last d leaf) ∙ ap (λ (p : ℕ). end_count (plan_lists b.plan) p d) (phases-is b.plan)
    ∙ end-is b.plan (phases b.plan) d node.0 (omega (arith, node.1, nodes_are b.plan is)) (omega arith) is.in_phases

-- the sum that is told where nothing is pending is the total at the end of the last phase
pub settled_total : (plan : PlanData) (b : BoardValue) (sum : List ℤ) → IsPlan plan → b.plan ≡ plan → IsSettled b →
    (Idle (plan_lists b.plan) (board_state b) → sum ≡ total b.plan (state b.plan) (board_state b).counts) → sum ≡ last_total plan
unfolding last_total
settled_total plan b sum is_plan same settled current =
    let is : IsPlan b.plan = subst IsPlan (sym same) is_plan in
    current settled.quiet ∙ total_alike b.plan (board_state b).counts (end_cut b.plan (phases b.plan)) is (last_counts b is settled)
    ∙ ap (λ (p : PlanData). total p (state p) (end_cut p (phases p))) same
