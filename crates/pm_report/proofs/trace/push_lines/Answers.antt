-- Of `push_lines`: the turns of its loop over `at`.
use Rattle.std.proofs.Common.{◌≡◌, ◌∙◌, sym, ap, subst, ℕ, ◌+◌, List, [], ◌∷◌, ◌++◌, take, Some, arith, slice_get, string_bytes}
use Rattle.std.proofs.Common.{refl}
use Rattle.std.specs.Prelude.{flat_map, IsNone}
use Rattle.std.proofs.lemmas.List.{take_more}
use Rattle.std.proofs.lemmas.Option.{get_or_from_slice_get, slice_get_within}
use Rattle.std.proofs.lemmas.Grind.{common_steps}
use Rattle.pm_market.specs.declared.journal.Line.{Line}
use Rattle.pm_report.specs.Trace.{move_line}
use Rattle.pm_report.proofs.trace.push_lines.Goals as goal
use Rattle.pm_report.proofs.trace.push_lines.Goals.{in-Some+in_ok-push_line, in_default}

-- one more move has its line
next_line : (line_of : Line → List ℕ) (lines : List Line) (at : ℕ) (line : Line) (old text new : List ℕ) → slice_get lines at ≡ Some line →
    text ≡ old ++ flat_map line_of (take at lines) → new ≡ text ++ line_of line → new ≡ old ++ flat_map line_of (take (at + 1) lines)
next_line line_of lines at line old text new found so_far more =
    let read : take (at + 1) lines ≡ take at lines ++ line ∷ [] =
    take_more lines at line (slice_get_within lines at line found) ∙ ap (λ l. take at lines ++ l ∷ []) (get_or_from_slice_get lines at line line found) in
    grind (arith, common_steps, ap (flat_map line_of) read)

pub loop-at-preserved : goal.loop-at-preserved
loop-at-preserved c = elim c.match-get.branch [
  | in-Some+in_ok-push_line w ↦
      next_line (move_line c.args.plan.now) c.args.journal.now.lines c.loop-at.at w.in-Some.line _ _ _
      (sym c.get.ensures.line ∙ w.in-Some.is) c.loop-at.invariant (ap string_bytes w.text-is ∙ w.in_ok-push_line.ensures)
  | in_default w ↦ let past = c.get.ensures.none.0 (subst IsNone (sym w.in_default.is) refl) in absurd (omega arith)
]
