-- What a judge says of a line, and of the whole trace.
use Rattle.std.proofs.Common.{◌≡◌, ◌≢◌, ◌∙◌, sym, ap, subst, refl, ℕ, ◌+◌, ◌≤◌, true, false, List, [], ◌∷◌, ◌++◌}
use Rattle.std.proofs.Common.{length, append_assoc, arith}
use Rattle.std.specs.Prelude.{Option, Some, None, decimal, codes}
use Rattle.std.proofs.lemmas.Bool.{false≢true}
use Rattle.std.proofs.lemmas.List.{length-append}
use Rattle.pm_market.specs.Lists.{Lists, phases}
use Rattle.pm_market.specs.State.{State}
use Rattle.pm_market.specs.Moves.{Legal, IsComplete, step, after}
use Rattle.pm_market.specs.Held.{holding_after, line_of, lines}
use Rattle.pm_market.specs.Legality.{is_legal}
use Rattle.pm_market.specs.Market.{market_lists, market_state}
use Rattle.pm_market.specs.declared.moves.Move.{Move}
use Rattle.pm_market.specs.declared.journal.Line.{Line}
use Rattle.pm_laws.proofs.Legality.{legal_tested}
use Rattle.pm_plan.specs.Plans.{PlanData}
use Rattle.pm_plan.specs.Kept.{IsPlan}
use Rattle.pm_plan.specs.Market.{plan_lists}
use Rattle.pm_plan.proofs.MarketLists.{lawful}
use Rattle.pm_offer.specs.Offers.{local_step_at}
use Rattle.pm_report.specs.Words.{text_line}
use Rattle.pm_report.specs.Trace.{IsLineOfRun, move_line}
use Rattle.pm_report.proofs.Traces.{same_one}
use Rattle.pm_check.specs.MoveReading.{Reads}
use Rattle.pm_envelope.specs.Lines.{HasNoLineFeed}
use Rattle.pm_check.specs.declared.judge.Judge.{Judge}
use Rattle.pm_check.specs.Lines.{IsWholeLine, text_of_lines}
use Rattle.pm_check.specs.Traces.{journal_lines, next_line, count_line, IsValidTrace, IsBadLine}
use Rattle.pm_check.specs.Judges.{IsJudge, HasMade, HasTaken, TellsNone, held_in}
use Rattle.pm_check.specs.Reading.{IsReported, IsJudging}
use Rattle.pm_check.proofs.TextLines.{text_of_lines-push}
use Rattle.pm_check.proofs.RunLines.{line_is, count_lines}
use Rattle.pm_check.proofs.Dues.{legal_push, after_push, journal_push}
use Rattle.pm_check.proofs.Judgements.{lines_small, bad_move, bad_count, bad_cut, bad_tail, valid_trace}
use Rattle.pm_check.proofs.Making.{plan_of, held_same}

-- ---- a line

module _ (plan : PlanData) (judge : Judge) (is : IsJudge plan judge) (text : List ℕ) where
  abbrev lists : Lists
  lists = plan_lists plan

  abbrev s : State
  s = market_state judge.market

  abbrev next : Move → Line
  next m = line_of lists (local_step_at plan) s m

  -- what is no line of a run tells no legal move
  pub reads_none : (answer : Option Line) → Reads (IsLineOfRun plan) (move_line plan) text answer → answer ≡ None → TellsNone plan judge text
  reads_none (Some line) reads none m legal same = absurd (cc none)
  reads_none None reads none m legal same = reads.none refl (next m) (line_is plan (plan_of plan judge is) s is.sound m legal) (sym same)

  module _ (line : Line) (of_run : IsLineOfRun plan line) (tells : move_line plan line ≡ text) where
    -- a legal move that the text tells is that of the line
    same_line : (m : Move) → Legal lists s m → text ≡ move_line plan (line_of lists (local_step_at plan) s m) →
        line ≡ line_of lists (local_step_at plan) s m
    same_line m legal same =
        let is_plan = plan_of plan judge is in
        same_one plan line (line_of lists (local_step_at plan) s m) is_plan of_run (line_is plan is_plan s is.sound m legal) (tells ∙ same)

    -- the line of a move that is not legal
    pub tells_illegal : is_legal (market_lists judge.market) s line.what ≡ false → TellsNone plan judge text
    tells_illegal tested m legal same =
        let here : line.what ≡ m = ap (λ (l : Line). l.what) (same_line m legal same) in
        let is_plan = plan_of plan judge is in
        let passes = (legal_tested lists s line.what (lawful plan is_plan) is.sound).1 (subst (Legal lists s) (sym here) legal) in
        false≢true (sym tested ∙ ap (λ (ls : Lists). is_legal ls s line.what) is.lists ∙ passes)

    -- the line of a legal move with something else that is held
    pub tells_other : (new : Judge) → HasMade plan judge new line.what → line.held ≢ held_in plan (market_state new.market) line.what →
        TellsNone plan judge text
    tells_other new made other m legal same =
        let all = same_line m legal same in
        let here : line.what ≡ m = ap (λ (l : Line). l.what) all in
        other (ap (λ (l : Line). l.held) all ∙ ap (holding_after lists (local_step_at plan) s) (sym here) ∙ sym (held_same plan s line.what)
        ∙ ap (λ (t : State). held_in plan t line.what) (sym made.made))

    -- the line of a legal move, with what is then held
    pub tells_legal : (new : Judge) → Legal lists s line.what → HasMade plan judge new line.what →
        line.held ≡ held_in plan (market_state new.market) line.what →
        HasTaken plan judge new text line.what
    tells_legal new legal made held_is =
        let held_now = held_is ∙ ap (λ (t : State). held_in plan t line.what) made.made ∙ held_same plan s line.what in
        let whole : line ≡ line_of lists (local_step_at plan) s line.what = (λ i. record { what = line.what; held = held_now i }) in
        record { legal = legal; told = sym tells ∙ ap (move_line plan) whole; made = made }

-- ---- the trace

-- before the first move
pub judging_start : (plan : PlanData) (report trace : List ℕ) (lines : ℕ) (judge : Judge) (rest : List ℕ) → IsReported report trace lines rest →
    IsJudge plan judge →
    market_state judge.market ≡ after (plan_lists plan) [] → IsJudging plan report trace lines judge 0 rest
judging_start plan report trace lines judge rest reported sound made = record {
  report_lines = reported.report_lines;
  lines_are = reported.lines_are;
  count = reported.count;
  journal = [];
  read = record { legal = tt; parts = reported.parts };
  sound = sound;
  made = made;
  many = refl;
}

module _ (plan : PlanData) (report trace : List ℕ) (above : ℕ) (judge : Judge) (moves : ℕ) (rest : List ℕ)
    (judging : IsJudging plan report trace above judge moves rest) where
  is_plan : IsPlan plan
  is_plan = plan_of plan judge judging.sound

  number_is : length judging.report_lines + length judging.journal ≡ above + moves
  number_is = omega (arith, judging.count, judging.many)

  -- there are no more lines than bytes
  pub above_small : above + moves ≤ length trace
  above_small = omega (arith, number_is, lines_small plan is_plan report trace judging.report_lines judging.lines_are judging.journal rest judging.read)

  -- the phases that are closed are those of the journal
  complete_is : (market_state judge.market).closed ≡ phases (market_lists judge.market) → IsComplete (plan_lists plan) judging.journal
  complete_is closed = ap (λ (t : State). t.closed) (sym judging.made) ∙ closed ∙ ap (λ (ls : Lists). phases ls) judging.sound.lists

  complete_back : IsComplete (plan_lists plan) judging.journal → (market_state judge.market).closed ≡ phases (market_lists judge.market)
  complete_back closed = ap (λ (t : State). t.closed) judging.made ∙ closed ∙ ap (λ (ls : Lists). phases ls) (sym judging.sound.lists)

  count_is : text_line (codes "moves" ∷ decimal moves ∷ []) ≡ count_line plan judging.journal
  count_is =
      let many : moves ≡ length (lines (plan_lists plan) (local_step_at plan) judging.journal) = judging.many
      ∙ sym (count_lines plan is_plan judging.journal) in
      ap (λ (n : ℕ). text_line (codes "moves" ∷ decimal n ∷ [])) many

  at_line : (n : ℕ) → IsBadLine plan report trace (length judging.report_lines + length judging.journal + n) →
      IsBadLine plan report trace (above + moves + n)
  at_line n bad = subst (λ (k : ℕ). IsBadLine plan report trace (k + n)) number_is bad

  -- the trace has no whole line more
  pub cut_short : HasNoLineFeed rest → IsBadLine plan report trace (above + moves + 1)
  cut_short none = at_line 1 (bad_cut plan is_plan report trace judging.report_lines judging.lines_are judging.journal rest judging.read none)

  module _ (line more : List ℕ) (whole : IsWholeLine line) (parts : rest ≡ line ++ more) where
    -- a line that tells no legal move
    pub not_a_move : ¬ ((market_state judge.market).closed ≡ phases (market_lists judge.market)) → TellsNone plan judge line →
        IsBadLine plan report trace (above + moves + 1)
    not_a_move going none =
        at_line 1 (bad_move plan is_plan report trace judging.report_lines judging.lines_are judging.journal rest judging.read line more whole parts
        (λ complete. going (complete_back complete))
        (λ m legal same. none m (subst (λ (t : State). Legal (plan_lists plan) t m) (sym judging.made) legal)
        (same ∙ ap (λ (t : State). move_line plan (line_of (plan_lists plan) (local_step_at plan) t m)) (sym judging.made))))

    -- a line that tells another number of moves
    pub not_the_count : (market_state judge.market).closed ≡ phases (market_lists judge.market) →
        line ≢ text_line (codes "moves" ∷ decimal moves ∷ []) →
        IsBadLine plan report trace (above + moves + 1)
    not_the_count closed other =
        at_line 1 (bad_count plan is_plan report trace judging.report_lines judging.lines_are judging.journal rest judging.read line more whole parts
        (complete_is closed) (λ same. other (same ∙ sym count_is)))

    module _ (closed : (market_state judge.market).closed ≡ phases (market_lists judge.market))
        (is_count : line ≡ text_line (codes "moves" ∷ decimal moves ∷ [])) where
      counted : rest ≡ count_line plan judging.journal ++ more
      counted = parts ∙ ap (λ (l : List ℕ). l ++ more) (is_count ∙ count_is)

      -- something stands behind the number of moves
      pub not_the_end : more ≢ [] → IsBadLine plan report trace (above + moves + 1 + 1)
      not_the_end some =
          subst (λ (k : ℕ). IsBadLine plan report trace (k + 1 + 1)) number_is
          (bad_tail plan is_plan report trace judging.report_lines judging.lines_are judging.journal rest judging.read more (complete_is closed) counted some)

      -- nothing does
      pub is_valid : more ≡ [] → IsValidTrace plan report trace moves
      is_valid none =
          subst (IsValidTrace plan report trace) (sym judging.many)
          (valid_trace plan is_plan report trace judging.report_lines judging.lines_are judging.journal rest judging.read more (complete_is closed)
          counted none)

    -- a line that tells a legal move, which was made
    pub judging_next : (new : Judge) (m : Move) → HasTaken plan judge new line m → IsJudging plan report trace above new (moves + 1) more
    judging_next new m taken =
        let legal = subst (λ (t : State). Legal (plan_lists plan) t m) judging.made taken.legal in
        let told : line ≡ next_line plan judging.journal m =
        taken.told ∙ ap (λ (t : State). move_line plan (line_of (plan_lists plan) (local_step_at plan) t m)) judging.made in
        record {
          report_lines = judging.report_lines;
          lines_are = judging.lines_are;
          count = judging.count;
          journal = judging.journal ++ m ∷ [];
          read = record {
            legal = legal_push plan is_plan judging.journal m judging.read.legal legal;
            parts =
                judging.read.parts
                ∙ ap (λ t. text_of_lines judging.report_lines ++ (text_of_lines (journal_lines plan judging.journal) ++ t))
                (parts ∙ ap (λ (l : List ℕ). l ++ more) told)
                ∙ ap (λ t. text_of_lines judging.report_lines ++ t)
                (sym (append_assoc (text_of_lines (journal_lines plan judging.journal)) (next_line plan judging.journal m) more)
                ∙ ap (λ t. t ++ more)
                (sym (ap text_of_lines (journal_push plan judging.journal m)
                ∙ text_of_lines-push (journal_lines plan judging.journal) (next_line plan judging.journal m))));
          };
          sound = taken.made.judge;
          made = taken.made.made ∙ ap (λ (t : State). step (plan_lists plan) t m) judging.made ∙ sym (after_push plan is_plan judging.journal m);
          many = omega (arith, judging.many, length-append judging.journal (m ∷ []));
        }
