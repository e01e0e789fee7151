-- What is said of a trace at the end of its reading.
use Rattle.std.proofs.Common.{◌≡◌, ◌≢◌, ◌∙◌, sym, ap, subst, refl, ℕ, ◌+◌, ◌<◌, ◌≤◌, List, [], ◌∷◌, ◌++◌}
use Rattle.std.proofs.Common.{length, append_assoc, arith, inl, inr}
use Rattle.std.specs.Prelude.{All}
use Rattle.std.proofs.lemmas.List.{append-nil, append_cancel_left, length-append, length-map}
use Rattle.std.proofs.lemmas.List.Elements.{All-append, All-cons, All-nil, All-head}
use Rattle.std.proofs.lemmas.Bool.{cases_eq, cases_lt}
use Rattle.pm_market.specs.Lists.{Lists, phases}
use Rattle.pm_market.specs.State.{start}
use Rattle.pm_market.specs.Moves.{Legal, LegalJournal, IsComplete, after}
use Rattle.pm_market.specs.Held.{lines}
use Rattle.pm_market.specs.declared.moves.Move.{Move}
use Rattle.pm_laws.proofs.Kept.{sound_start, sound_after}
use Rattle.pm_laws.proofs.Progress.{progress}
use Rattle.pm_plan.specs.Plans.{PlanData}
use Rattle.pm_plan.specs.Kept.{IsPlan}
use Rattle.pm_plan.specs.Market.{plan_lists}
use Rattle.pm_plan.proofs.MarketLists.{lawful}
use Rattle.pm_offer.specs.Offers.{local_step_at}
use Rattle.pm_report.specs.Trace.{move_line}
use Rattle.pm_envelope.specs.Lines.{HasNoLineFeed}
use Rattle.pm_check.specs.Lines.{IsWholeLine, text_of_lines, AreLinesOf}
use Rattle.pm_check.specs.Traces.{journal_lines, next_line, count_line, IsLineDue, in_report, next_move, count, AreLinesDue, IsValidTrace, IsBadAmong, not_due}
use Rattle.pm_check.specs.Traces.{no_end, missing, IsBadLine}
use Rattle.pm_check.specs.Reading.{IsReported, HasReadTo}
use Rattle.pm_check.proofs.TextLines.{text_of_lines-append, text_of_lines-push, lines_within, one_list}
use Rattle.pm_check.proofs.TextLines.{same_lines, lines_before, line_before, no_lines, lines_exist}
use Rattle.pm_check.proofs.RunLines.{whole_from, whole_count, count_lines}
use Rattle.pm_check.proofs.Dues.{report_due, journal_due, count_due, no_move_due, no_count_due, nothing_due}

no_bytes : (bytes : List ℕ) → length bytes ≡ 0 → bytes ≡ []
no_bytes [] none = refl
no_bytes (byte ∷ bytes) none = absurd (omega (arith, none))

-- ---- bad lines, by the lines read before

-- these lines were read, each due, and this stands behind them
pub record AreRead (plan : PlanData) (report : List (List ℕ)) (trace : List ℕ) (done : List (List ℕ)) (rest : List ℕ) : Type 0 where
  -- the lines that were read are whole lines
  pub whole : All IsWholeLine done
  -- each line that was read is due after those before it
  pub due : AreLinesDue plan report done
  -- the trace is the lines that were read, and then the rest
  pub parts : trace ≡ text_of_lines done ++ rest

module _ (plan : PlanData) (report : List (List ℕ)) (trace : List ℕ) (done : List (List ℕ)) (rest : List ℕ)
    (read : AreRead plan report trace done rest) where
  -- the lines of the trace are those read, and those of the rest
  lines_of_all : (lines : List (List ℕ)) (end : List ℕ) → AreLinesOf rest lines end → AreLinesOf trace (done ++ lines) end
  lines_of_all lines end are = subst (λ (t : List ℕ). AreLinesOf t (done ++ lines) end) (sym read.parts) (lines_before done rest lines end read.whole are)

  -- a whole line that is not due
  pub bad_line : (line more : List ℕ) → IsWholeLine line → rest ≡ line ++ more → ¬ (IsLineDue plan report done line) →
      IsBadAmong plan report trace (length done + 1)
  bad_line line more whole parts other =
      let are = lines_exist more in
      let all = line_before line more are.0 are.1.0 whole are.1.1 in
      not_due done are.0 line are.1.0
      (lines_of_all (line ∷ are.0) are.1.0 (subst (λ (t : List ℕ). AreLinesOf t (line ∷ are.0) are.1.0) (sym parts) all)) read.due other refl

  -- a line without end
  bad_end : HasNoLineFeed rest → rest ≢ [] → IsBadAmong plan report trace (length done + 1)
  bad_end none some =
      no_end done rest (subst (λ (ls : List (List ℕ)). AreLinesOf trace ls rest) (append-nil done) (lines_of_all [] rest (no_lines rest none)))
      read.due some refl

  -- nothing, where a line is due
  bad_missing : (line : List ℕ) → rest ≡ [] → HasNoLineFeed rest → IsLineDue plan report done line → IsBadAmong plan report trace (length done + 1)
  bad_missing line nothing none next =
      let all = subst (λ (ls : List (List ℕ)). AreLinesOf trace ls rest) (append-nil done) (lines_of_all [] rest (no_lines rest none)) in
      missing done line (subst (AreLinesOf trace done) nothing all) read.due next refl

  -- the trace has no whole line more, and a line is due
  pub bad_rest : (line : List ℕ) → HasNoLineFeed rest → IsLineDue plan report done line → IsBadAmong plan report trace (length done + 1)
  bad_rest line none next = elim (cases_eq (length rest) 0) [
    | inl empty ↦ bad_missing line (no_bytes rest empty) none next
    | inr some ↦ bad_end none (λ nothing. some (ap (λ l. length l) nothing))
  ]

  -- nothing is due, and something stands there
  bad_behind : (lines : List (List ℕ)) (end : List ℕ) → rest ≢ [] → ((line : List ℕ) → IsLineDue plan report done line → ⊥) →
      AreLinesOf rest lines end →
      IsBadAmong plan report trace (length done + 1)
  bad_behind [] end some none_due are = bad_end (subst HasNoLineFeed (sym are.parts) are.no_end) some
  bad_behind (line ∷ lines) end some none_due are =
      bad_line line (text_of_lines lines ++ end) (All-head IsWholeLine line lines are.whole) (are.parts ∙ append_assoc line (text_of_lines lines) end)
      (none_due line)

  -- where nothing is due and the trace goes on, its bad line is the one behind those read
  pub bad_more : rest ≢ [] → ((line : List ℕ) → IsLineDue plan report done line → ⊥) → IsBadAmong plan report trace (length done + 1)
  bad_more some none_due = let are = lines_exist rest in bad_behind are.0 are.1.0 some none_due are.1.1

-- ---- the report

-- so many lines of the report were read in the trace; this is left of both
pub record IsMatched (report trace : List ℕ) (lines : ℕ) (done : List (List ℕ)) (later rest : List ℕ) : Type 0 where
  -- the lines read of the report are whole lines
  pub whole : All IsWholeLine done
  -- so many lines of the report were read
  pub count : lines ≡ length done
  -- the report is the lines that were read, and then what is left of it
  pub report_is : report ≡ text_of_lines done ++ later
  -- the trace is the lines that were read, and then what is left of it
  pub trace_is : trace ≡ text_of_lines done ++ rest

module _ (report trace : List ℕ) (lines : ℕ) (done : List (List ℕ)) (later rest : List ℕ) (matched : IsMatched report trace lines done later rest)
    (report_lines : List (List ℕ)) (are : AreLinesOf report report_lines []) where
  -- the lines of the report are those read, and those of what is left
  report_parts : (more : List (List ℕ)) (end : List ℕ) → AreLinesOf later more end → (report_lines ≡ done ++ more) × ([] ≡ end)
  report_parts more end of_later =
      one_list report report_lines (done ++ more) [] end are
      (subst (λ (t : List ℕ). AreLinesOf t (done ++ more) end) (sym matched.report_is) (lines_before done later more end matched.whole of_later))

  read_of : (plan : PlanData) (more : List (List ℕ)) → report_lines ≡ done ++ more → AreRead plan report_lines trace done rest
  read_of plan more parts = record { whole = matched.whole; due = report_due plan report_lines done more parts; parts = matched.trace_is }

  -- a line of the report is due after those before it
  expected_due : (plan : PlanData) (line : List ℕ) (more : List (List ℕ)) → report_lines ≡ done ++ line ∷ more →
      IsLineDue plan report_lines done line
  expected_due plan line more parts = in_report more parts

  -- and no other line
  other_due : (plan : PlanData) (line other : List ℕ) (more : List (List ℕ)) → report_lines ≡ done ++ line ∷ more → other ≢ line →
      IsLineDue plan report_lines done other → ⊥
  other_due plan line other more parts differ (in_report rest' also) =
      let same : other ∷ rest' ≡ line ∷ more = append_cancel_left done (other ∷ rest') (line ∷ more) (sym also ∙ parts) in
      differ (cc same)
  other_due plan line other more parts differ (next_move journal m begins legal goes next tells) =
      absurd (omega (
        arith,
        ap (λ l. length l) (parts ∙ ap (λ (ls : List (List ℕ)). ls ++ line ∷ more) begins),
        length-append (report_lines ++ journal_lines plan journal) (line ∷ more),
        length-append report_lines (journal_lines plan journal),
      ))
  other_due plan line other more parts differ (count journal begins legal complete tells) =
      absurd (omega (
        arith,
        ap (λ l. length l) (parts ∙ ap (λ (ls : List (List ℕ)). ls ++ line ∷ more) begins),
        length-append (report_lines ++ journal_lines plan journal) (line ∷ more),
        length-append report_lines (journal_lines plan journal),
      ))

  -- the line expected has a report's line behind it
  expected_parts : (expected behind : List ℕ) → IsWholeLine expected → later ≡ expected ++ behind →
      (more : List (List ℕ)) × (report_lines ≡ done ++ expected ∷ more)
  expected_parts expected behind whole parts =
      let of_behind = lines_exist behind in
      let of_later = subst (λ (t : List ℕ). AreLinesOf t (expected ∷ of_behind.0) of_behind.1.0) (sym parts)
      (line_before expected behind of_behind.0 of_behind.1.0 whole of_behind.1.1) in
      (of_behind.0, (report_parts (expected ∷ of_behind.0) of_behind.1.0 of_later).0)

  -- the trace has no whole line more, where the report has one
  pub report_cut : (plan : PlanData) (expected behind : List ℕ) → IsWholeLine expected → later ≡ expected ++ behind → HasNoLineFeed rest →
      IsBadLine plan report trace (lines + 1)
  report_cut plan expected behind whole parts none =
      let all = expected_parts expected behind whole parts in
      record {
        report_lines = report_lines;
        lines_are = are;
        bad = subst (λ n. IsBadAmong plan report_lines trace (n + 1)) (sym matched.count)
            (bad_rest plan report_lines trace done rest (read_of plan (expected ∷ all.0) all.1) expected none (expected_due plan expected all.0 all.1));
      }

  -- the trace has another line than the report
  pub report_other : (plan : PlanData) (expected behind found more : List ℕ) → IsWholeLine expected → later ≡ expected ++ behind →
      IsWholeLine found → rest ≡ found ++ more → found ≢ expected → IsBadLine plan report trace (lines + 1)
  report_other plan expected behind found more whole parts found_whole found_parts differ =
      let all = expected_parts expected behind whole parts in
      record {
        report_lines = report_lines;
        lines_are = are;
        bad = subst (λ n. IsBadAmong plan report_lines trace (n + 1)) (sym matched.count)
            (bad_line plan report_lines trace done rest (read_of plan (expected ∷ all.0) all.1) found more found_whole found_parts
            (other_due plan expected found all.0 all.1 differ));
      }

  -- the whole report was read
  pub report_read : HasNoLineFeed later → IsReported report trace lines rest
  report_read none =
      let all = report_parts [] later (no_lines later none) in
      let same : report_lines ≡ done = all.0 ∙ append-nil done in
      record {
        report_lines = report_lines;
        lines_are = are;
        count = matched.count ∙ ap (λ (ls : List (List ℕ)). length ls) (sym same);
        parts = matched.trace_is ∙ ap (λ (ls : List (List ℕ)). text_of_lines ls ++ rest) (sym same);
      }

-- ---- the moves

module _ (plan : PlanData) (is_plan : IsPlan plan) where
  abbrev lists : Lists
  lists = plan_lists plan

  module _ (report trace : List ℕ) (report_lines : List (List ℕ)) (are : AreLinesOf report report_lines []) (journal : List Move) (rest : List ℕ)
      (read : HasReadTo plan report_lines trace journal rest) where
    whole_lines : All IsWholeLine (report_lines ++ journal_lines plan journal)
    whole_lines =
        All-append IsWholeLine report_lines (journal_lines plan journal) are.whole
        (whole_from plan is_plan journal start (sound_start lists (lawful plan is_plan)) read.legal)

    lines_read : AreRead plan report_lines trace (report_lines ++ journal_lines plan journal) rest
    lines_read = record {
      whole = whole_lines;
      due = journal_due plan is_plan report_lines journal read.legal;
      parts =
          read.parts ∙ sym (append_assoc (text_of_lines report_lines) (text_of_lines (journal_lines plan journal)) rest)
          ∙ ap (λ t. t ++ rest) (sym (text_of_lines-append report_lines (journal_lines plan journal)));
    }

    many : length (report_lines ++ journal_lines plan journal) ≡ length report_lines + length journal
    many = omega (
      arith,
      length-append report_lines (journal_lines plan journal),
      length-map (lines lists (local_step_at plan) journal)
          (move_line plan),
      count_lines plan is_plan journal,
    )

    -- there are no more lines than bytes
    pub lines_small : length report_lines + length journal ≤ length trace
    lines_small =
        omega (
          arith,
          many,
          lines_within (report_lines ++ journal_lines plan journal) whole_lines,
          ap (λ l. length l) lines_read.parts,
          length-append (text_of_lines (report_lines ++ journal_lines plan journal)) rest,
        )

    bad_at : IsBadAmong plan report_lines trace (length (report_lines ++ journal_lines plan journal) + 1) →
        IsBadLine plan report trace (length report_lines + length journal + 1)
    bad_at bad = record {
      report_lines = report_lines;
      lines_are = are;
      bad = subst (λ n. IsBadAmong plan report_lines trace (n + 1)) many bad;
    }

    -- a line that tells no legal move
    pub bad_move : (line more : List ℕ) → IsWholeLine line → rest ≡ line ++ more → ¬ (IsComplete lists journal) →
        ((m : Move) → Legal lists (after lists journal) m → line ≢ next_line plan journal m) →
        IsBadLine plan report trace (length report_lines + length journal + 1)
    bad_move line more whole parts going none =
        bad_at (bad_line plan report_lines trace (report_lines ++ journal_lines plan journal) rest lines_read line more whole parts
        (no_move_due plan is_plan report_lines journal line read.legal going none))

    -- a line that does not tell the number of moves, where all phases are closed
    pub bad_count : (line more : List ℕ) → IsWholeLine line → rest ≡ line ++ more → IsComplete lists journal → line ≢ count_line plan journal →
        IsBadLine plan report trace (length report_lines + length journal + 1)
    bad_count line more whole parts complete other =
        bad_at (bad_line plan report_lines trace (report_lines ++ journal_lines plan journal) rest lines_read line more whole parts
        (no_count_due plan is_plan report_lines journal line read.legal complete other))

    -- there is always a line due
    some_due : (line : List ℕ) × IsLineDue plan report_lines (report_lines ++ journal_lines plan journal) line
    some_due = elim (cases_eq (after lists journal).closed (phases lists)) [
      | inl complete ↦ (count_line plan journal, count journal refl read.legal complete refl)
      | inr going ↦
          let sound = sound_after lists (lawful plan is_plan) journal read.legal in
          let move = progress lists (lawful plan is_plan) (after lists journal) sound (omega (arith, going, sound.closed_within)) in
          (next_line plan journal move.0, next_move journal move.0 refl read.legal going move.1 refl)
    ]

    -- the trace ends too early
    pub bad_cut : HasNoLineFeed rest → IsBadLine plan report trace (length report_lines + length journal + 1)
    bad_cut none = let next = some_due in
        bad_at (bad_rest plan report_lines trace (report_lines ++ journal_lines plan journal) rest lines_read next.0 none next.1)

    module _ (more : List ℕ) (complete : IsComplete lists journal) (parts : rest ≡ count_line plan journal ++ more) where
      counted : AreRead plan report_lines trace ((report_lines ++ journal_lines plan journal) ++ count_line plan journal ∷ []) more
      counted = record {
        whole = All-append IsWholeLine (report_lines ++ journal_lines plan journal) (count_line plan journal ∷ []) whole_lines
            (All-cons IsWholeLine (count_line plan journal) [] (whole_count plan is_plan journal read.legal) (All-nil IsWholeLine));
        due = count_due plan is_plan report_lines journal read.legal complete;
        parts =
            lines_read.parts ∙ ap (λ t. text_of_lines (report_lines ++ journal_lines plan journal) ++ t) parts
            ∙ sym (append_assoc (text_of_lines (report_lines ++ journal_lines plan journal)) (count_line plan journal) more)
            ∙ ap (λ t. t ++ more) (sym (text_of_lines-push (report_lines ++ journal_lines plan journal) (count_line plan journal)));
      }

      -- something stands behind the number of moves
      pub bad_tail : more ≢ [] → IsBadLine plan report trace (length report_lines + length journal + 1 + 1)
      bad_tail some = record {
        report_lines = report_lines;
        lines_are = are;
        bad = subst (λ n. IsBadAmong plan report_lines trace (n + 1))
            (omega (arith, many, length-append (report_lines ++ journal_lines plan journal) (count_line plan journal ∷ [])))
            (bad_more plan report_lines trace _ more counted some (nothing_due plan is_plan report_lines journal));
      }

      -- nothing does: the trace is valid
      pub valid_trace : more ≡ [] → IsValidTrace plan report trace (length journal)
      valid_trace none = record {
        journal = journal;
        legal = read.legal;
        complete = complete;
        text =
            read.parts ∙ ap (λ t. text_of_lines report_lines ++ (text_of_lines (journal_lines plan journal) ++ t))
            (parts ∙ ap (λ t. count_line plan journal ++ t) none ∙ append-nil _)
            ∙ ap (λ t. t ++ (text_of_lines (journal_lines plan journal) ++ count_line plan journal)) (sym (append-nil _) ∙ sym are.parts);
        count = refl;
      }

  -- ---- one judgement

  -- the lines of a valid trace
  valid_lines : (report trace : List ℕ) (moves : ℕ) (report_lines : List (List ℕ)) → AreLinesOf report report_lines [] →
      (valid : IsValidTrace plan report trace moves) →
      AreLinesOf trace ((report_lines ++ journal_lines plan valid.journal) ++ count_line plan valid.journal ∷ []) []
  valid_lines report trace moves report_lines are valid =
      let whole = All-append IsWholeLine report_lines (journal_lines plan valid.journal) are.whole
      (whole_from plan is_plan valid.journal start (sound_start lists (lawful plan is_plan)) valid.legal) in
      record {
        whole = All-append IsWholeLine (report_lines ++ journal_lines plan valid.journal) (count_line plan valid.journal ∷ []) whole
            (All-cons IsWholeLine (count_line plan valid.journal) [] (whole_count plan is_plan valid.journal valid.legal) (All-nil IsWholeLine));
        no_end = All-nil (λ (b : ℕ). b ≢ 10);
        parts =
            valid.text ∙ ap (λ t. t ++ (text_of_lines (journal_lines plan valid.journal) ++ count_line plan valid.journal)) (are.parts ∙ append-nil _)
            ∙ sym (append_assoc (text_of_lines report_lines) (text_of_lines (journal_lines plan valid.journal)) (count_line plan valid.journal))
            ∙ ap (λ t. t ++ count_line plan valid.journal) (sym (text_of_lines-append report_lines (journal_lines plan valid.journal)))
            ∙ sym (text_of_lines-push (report_lines ++ journal_lines plan valid.journal) (count_line plan valid.journal)) ∙ sym (append-nil _);
      }

  not_bad_among : (report trace : List ℕ) (moves number : ℕ) (report_lines : List (List ℕ)) → AreLinesOf report report_lines [] →
      IsValidTrace plan report trace moves →
      IsBadAmong plan report_lines trace number → ⊥
  not_bad_among report trace moves number report_lines are valid (not_due before more line rest also due other number_is) =
      let same = one_list trace _ (before ++ line ∷ more) [] rest (valid_lines report trace moves report_lines are valid) also in
      other (count_due plan is_plan report_lines valid.journal valid.legal valid.complete before more line same.0)
  not_bad_among report trace moves number report_lines are valid (no_end before rest also due some number_is) =
      some (sym (one_list trace _ before [] rest (valid_lines report trace moves report_lines are valid) also).1)
  not_bad_among report trace moves number report_lines are valid (missing before line also due next number_is) =
      let same = one_list trace _ before [] [] (valid_lines report trace moves report_lines are valid) also in
      nothing_due plan is_plan report_lines valid.journal line (subst (λ (ls : List (List ℕ)). IsLineDue plan report_lines ls line) (sym same.0) next)

  -- a valid trace has no bad line
  pub not_both : (report trace : List ℕ) (moves number : ℕ) → IsValidTrace plan report trace moves → IsBadLine plan report trace number → ⊥
  not_both report trace moves number valid bad = not_bad_among report trace moves number bad.report_lines bad.lines_are valid bad.bad

  -- and one number of moves
  pub one_count : (report trace : List ℕ) (moves other : ℕ) → IsValidTrace plan report trace moves →
      IsValidTrace plan report trace other → moves ≡ other
  one_count report trace moves other valid also =
      let lines_of = λ (v : List Move). journal_lines plan v ++ count_line plan v ∷ [] in
      let whole = λ (v : List Move) (legal : LegalJournal lists v).
      All-append IsWholeLine (journal_lines plan v) (count_line plan v ∷ []) (whole_from plan is_plan v start (sound_start lists (lawful plan is_plan)) legal)
      (All-cons IsWholeLine (count_line plan v) [] (whole_count plan is_plan v legal) (All-nil IsWholeLine)) in
      let text = λ (v : List Move). text_of_lines-push (journal_lines plan v) (count_line plan v) in
      let rest = append_cancel_left report _ _ (sym valid.text ∙ also.text) in
      let same = same_lines (lines_of valid.journal) (lines_of also.journal) [] [] (whole valid.journal valid.legal) (whole also.journal also.legal)
      (All-nil (λ (b : ℕ). b ≢ 10)) (All-nil (λ (b : ℕ). b ≢ 10)) (ap (λ t. t ++ []) (text valid.journal ∙ rest ∙ sym (text also.journal))) in
      omega (
        arith,
        valid.count,
        also.count,
        ap (λ l. length l) same.0,
        length-append (journal_lines plan valid.journal) (count_line plan valid.journal ∷ []),
        length-append (journal_lines plan also.journal) (count_line plan also.journal ∷ []),
        length-map (lines lists (local_step_at plan) valid.journal) (move_line plan),
        length-map (lines lists (local_step_at plan) also.journal) (move_line plan),
        count_lines plan is_plan valid.journal,
        count_lines plan is_plan also.journal,
      )

-- ---- one bad line

-- of two beginnings of a list the longer one has an element where the shorter one ends
longer_beginning : {X : Type 0} → (a b x y : List X) → a ++ x ≡ b ++ y → length a < length b → (z : X) × ((more : List X) × (b ≡ a ++ z ∷ more))
longer_beginning [] [] x y same less = absurd (omega (arith, less))
longer_beginning [] (z ∷ b) x y same less = (z, (b, refl))
longer_beginning (w ∷ a) [] x y same less = absurd (omega (arith, less))
longer_beginning (w ∷ a) (v ∷ b) x y same less =
    let first : w ≡ v = cc same in
    let later : a ++ x ≡ b ++ y = cc same in
    let more = longer_beginning a b x y later (omega (arith, less)) in
    (more.0, (more.1.0, λ i. sym first i ∷ more.1.1 i))

-- these lines of the trace are due, and the next one, where there is one, is not
record StopsAt (plan : PlanData) (report lines before behind : List (List ℕ)) : Type 0 where
  due : AreLinesDue plan report before
  parts : lines ≡ before ++ behind
  stops : (line : List ℕ) (more : List (List ℕ)) → behind ≡ line ∷ more → IsLineDue plan report before line → ⊥

not_before : (plan : PlanData) (report lines a a_behind b b_behind : List (List ℕ)) → StopsAt plan report lines a a_behind →
    StopsAt plan report lines b b_behind →
    length a < length b → ⊥
not_before plan report lines a a_behind b b_behind a_stops b_stops less =
    let next = longer_beginning a b a_behind b_behind (sym a_stops.parts ∙ b_stops.parts) less in
    let behind = append_cancel_left a a_behind (next.0 ∷ (next.1.0 ++ b_behind))
    (sym a_stops.parts ∙ b_stops.parts ∙ ap (λ (ls : List (List ℕ)). ls ++ b_behind) next.1.1 ∙ append_assoc a (next.0 ∷ next.1.0) b_behind) in
    a_stops.stops next.0 (next.1.0 ++ b_behind) behind (b_stops.due a next.1.0 next.0 next.1.1)

-- where a trace with these lines stops to be due
abbrev Stops : PlanData → List (List ℕ) → List (List ℕ) → ℕ → Type 0
Stops plan report lines
    number = (before : List (List ℕ)) × ((behind : List (List ℕ)) × (StopsAt plan report lines before behind × (number ≡ length before + 1)))

end_stops : (plan : PlanData) (report lines before : List (List ℕ)) (number : ℕ) → AreLinesDue plan report before → before ≡ lines →
    number ≡ length before + 1 → Stops plan report lines number
end_stops plan report lines before number due all number_is =
    (before, ([], (record { due = due; parts = sym all ∙ sym (append-nil before); stops = λ line more same next. absurd (cc same) }, number_is)))

stops_among : (plan : PlanData) (report lines : List (List ℕ)) (trace rest : List ℕ) (number : ℕ) → AreLinesOf trace lines rest →
    IsBadAmong plan report trace number → Stops plan report lines number
stops_among plan report lines trace rest number are (not_due before more line end also due other number_is) = (
  before,
  (
    line ∷ more,
    (
      record {
        due = due;
        parts = (one_list trace lines (before ++ line ∷ more) rest end are also).0;
        stops = λ next later same next_due. other (subst (IsLineDue plan report before) (let here : next ≡ line = cc same in here) next_due);
      },
      number_is,
    ),
  ),
)
stops_among plan report lines trace rest number are (no_end before end also due some number_is) =
    end_stops plan report lines before number due (sym (one_list trace lines before rest end are also).0) number_is
stops_among plan report lines trace rest number are (missing before line also due next number_is) =
    end_stops plan report lines before number due (sym (one_list trace lines before rest [] are also).0) number_is

one_stop : (plan : PlanData) (report lines : List (List ℕ)) (number other : ℕ) → Stops plan report lines number → Stops plan report lines other →
    number ≡ other
one_stop plan report lines number other a b =
    elim (cases_lt (length a.0) (length b.0)) [
      | inl less ↦ absurd (not_before plan report lines a.0 a.1.0 b.0 b.1.0 a.1.1.0 b.1.1.0 less)
      | inr from ↦ elim (cases_lt (length b.0) (length a.0)) [
        | inl less ↦ absurd (not_before plan report lines b.0 b.1.0 a.0 a.1.0 b.1.1.0 a.1.1.0 less)
        | inr to ↦ omega (arith, from, to, a.1.1.1, b.1.1.1)
      ]
    ]

-- a trace has one bad line
pub one_bad_line : (plan : PlanData) (report trace : List ℕ) (line other : ℕ) → IsBadLine plan report trace line → IsBadLine plan report trace other →
    line ≡ other
one_bad_line plan report trace line other a b =
    let same = (one_list report a.report_lines b.report_lines [] [] a.lines_are b.lines_are).0 in
    let all = lines_exist trace in
    let b_bad = subst (λ (ls : List (List ℕ)). IsBadAmong plan ls trace other) (sym same) b.bad in
    one_stop plan a.report_lines all.0 line other
    (stops_among plan a.report_lines all.0 trace all.1.0 line all.1.1 a.bad) (stops_among plan a.report_lines all.0 trace all.1.0 other all.1.1 b_bad)
