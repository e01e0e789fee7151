-- The lines of a trace tell the lines of its journal.
use Rattle.std.proofs.Common.{◌≡◌, ◌∙◌, sym, ap, refl, ℕ, suc, List, [], ◌∷◌, ◌++◌, get_or, append_assoc, arith, Option}
use Rattle.std.specs.Prelude.{All, flat_map}
use Rattle.std.proofs.lemmas.List.{append_cancel_left}
use Rattle.pm_market.specs.declared.moves.Move.{Move}
use Rattle.pm_market.specs.declared.moves.Move.TheVariants.{Change, Learn, Publish, Clear, Pass, Close}
use Rattle.pm_market.specs.declared.journal.Line.{Line}
use Rattle.pm_plan.specs.Plans.{PlanData}
use Rattle.pm_plan.specs.Kept.{IsPlan}
use Rattle.pm_plan.specs.Auction.{EndData}
use Rattle.pm_report.specs.Words.{text_line}
use Rattle.pm_report.specs.Report.{report_text}
use Rattle.pm_report.specs.Trace.{move_words, move_line, moves_line, trace_text, IsLineOfRun}
use Rattle.pm_report.proofs.LineWords.{same_line}
use Rattle.pm_report.proofs.Moves.{move_are_words, same_move}

-- no line of a move begins as the last line does
begins : (plan : PlanData) (what : Move) (held : Option (ℕ × ℕ)) (rest : List ℕ) →
    get_or (text_line (move_words plan what held) ++ rest) 0 0 ≡ 109 → ⊥
begins plan (Change device number) held rest same = omega arith
begins plan (Learn child number) held rest same = omega arith
begins plan (Publish node number) held rest same = omega arith
begins plan (Clear index) held rest same = omega arith
begins plan (Pass node index) held rest same = omega arith
begins plan (Close phase) held rest same = omega arith

-- the line of a move and what follows is not the last line
not_last : (plan : PlanData) (one : Line) (more last : List ℕ) (lines : List Line) → (move_line plan one ++ more) ++ last ≡ moves_line lines → ⊥
not_last plan one more last lines same =
    begins plan one.what one.held (more ++ last) (ap (λ bytes. get_or bytes 0 0) (sym (append_assoc (move_line plan one) more last) ∙ same))

others : (P : Line → Type 0) (one : Line) (lines : List Line) → All P (one ∷ lines) → All P lines
others P one lines all = λ k d inside. all (suc k) d (omega arith)

first : (P : Line → Type 0) (one : Line) (lines : List Line) → All P (one ∷ lines) → P one
first P one lines all = all 0 one (omega arith)

module _ (plan : PlanData) (is : IsPlan plan) (a_last b_last : List Line) where
  same_lines : (a b : List Line) → All (IsLineOfRun plan) a → All (IsLineOfRun plan) b →
      flat_map (move_line plan) a ++ moves_line a_last ≡ flat_map (move_line plan) b ++ moves_line b_last → a ≡ b
  same_lines [] [] a_are b_are same = refl
  same_lines [] (other ∷ b) a_are b_are same = absurd (not_last plan other (flat_map (move_line plan) b) (moves_line b_last) a_last (sym same))
  same_lines (one ∷ a) [] a_are b_are same = absurd (not_last plan one (flat_map (move_line plan) a) (moves_line a_last) b_last same)
  same_lines (one ∷ a) (other ∷ b) a_are b_are same =
      let one_is = first (IsLineOfRun plan) one a a_are in
      let other_is = first (IsLineOfRun plan) other b b_are in
      let line = same_line (move_words plan one.what one.held) (move_words plan other.what other.held)
      (flat_map (move_line plan) a ++ moves_line a_last) (flat_map (move_line plan) b ++ moves_line b_last)
      (move_are_words plan is one one_is) (move_are_words plan is other other_is)
      (sym (append_assoc (move_line plan one) (flat_map (move_line plan) a) (moves_line a_last)) ∙ same
      ∙ append_assoc (move_line plan other) (flat_map (move_line plan) b) (moves_line b_last)) in
      let here = same_move plan is one other one_is other_is line.words in
      let more = same_lines a b (others (IsLineOfRun plan) one a a_are) (others (IsLineOfRun plan) other b b_are) line.rest in
      (λ i. here i ∷ more i)

-- journals of lines of a plan's runs that have the same trace, with the same ends, are the same
pub same_journal : (plan : PlanData) (ends : List EndData) (a b : List Line) → IsPlan plan → All (IsLineOfRun plan) a → All (IsLineOfRun plan) b →
    trace_text plan ends a ≡ trace_text plan ends b → a ≡ b
unfolding trace_text
same_journal plan ends a b is a_are b_are same =
    same_lines plan is a b a b a_are b_are
    (append_cancel_left (report_text plan ends) (flat_map (move_line plan) a ++ moves_line a) (flat_map (move_line plan) b ++ moves_line b) same)

-- lines that are written alike are the same
pub same_one : (plan : PlanData) (one other : Line) → IsPlan plan → IsLineOfRun plan one → IsLineOfRun plan other →
    move_line plan one ≡ move_line plan other → one ≡ other
same_one plan one other is one_is other_is same =
    let line = same_line (move_words plan one.what one.held) (move_words plan other.what other.held) [] []
    (move_are_words plan is one one_is) (move_are_words plan is other other_is) (ap (λ bytes. bytes ++ []) same) in
    same_move plan is one other one_is other_is line.words
