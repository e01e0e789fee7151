-- Which line is due after the lines of a legal journal, and after its count.
use Rattle.std.proofs.Common.{◌≡◌, ◌≢◌, ◌∙◌, sym, ap, subst, refl, ℕ, ◌+◌, ◌⊎◌, List, [], ◌∷◌}
use Rattle.std.proofs.Common.{◌++◌, length, map, append_assoc, arith, inl, inr}
use Rattle.std.proofs.lemmas.List.{append-nil, append_cancel_left, length-append}
use Rattle.pm_market.specs.Lists.{Lists, phases, Lawful}
use Rattle.pm_market.specs.State.{State, start}
use Rattle.pm_market.specs.Moves.{Legal, LegalJournal, IsComplete, step, after, after_from}
use Rattle.pm_market.specs.Held.{line_of, lines_from}
use Rattle.pm_market.specs.Sound.{Sound}
use Rattle.pm_market.specs.declared.moves.Move.{Move}
use Rattle.pm_market.specs.declared.moves.Move.TheVariants.{Change, Learn, Publish, Clear, Pass, Close}
use Rattle.pm_laws.proofs.Kept.{sound_after}
use Rattle.pm_laws.proofs.Order.{after_append, legal_append, legal_parts}
use Rattle.pm_plan.specs.Plans.{PlanData}
use Rattle.pm_plan.specs.Kept.{IsPlan}
use Rattle.pm_plan.specs.Market.{plan_lists}
use Rattle.pm_plan.proofs.MarketLists.{lawful}
use Rattle.pm_offer.specs.Offers.{local_step_at}
use Rattle.pm_report.specs.Trace.{move_line}
use Rattle.pm_check.specs.Traces.{journal_lines, next_line, count_line, IsLineDue, in_report, next_move, count, AreLinesDue}
use Rattle.pm_check.proofs.RunLines.{no_count, same_moves}

-- ---- lists

-- where one element more stands in a list, it is the last one or stands among those before
split_push : {X : Type 0} → (xs before more : List X) (x y : X) → xs ++ x ∷ [] ≡ before ++ y ∷ more →
    ((before ≡ xs) × (y ≡ x)) ⊎ ((rest : List X) × (xs ≡ before ++ y ∷ rest))
split_push [] [] more x y same = inl (refl, cc same)
split_push [] (b ∷ before) more x y same = absurd (omega (arith, ap (λ l. length l) same, length-append before (y ∷ more)))
split_push (a ∷ xs) [] more x y same = inr (xs, (let first : a ≡ y = cc same in λ i. first i ∷ xs))
split_push (a ∷ xs) (b ∷ before) more x y same =
    let first : a ≡ b = cc same in
    let later : xs ++ x ∷ [] ≡ before ++ y ∷ more = cc same in
    elim (split_push xs before more x y later) [
      | inl last ↦ inl ((λ i. sym first i ∷ last.0 i), last.1)
      | inr inside ↦ inr (inside.0, λ i. first i ∷ inside.1 i)
    ]

-- nothing stands behind the end of a list
longer : {X : Type 0} → (xs more rest : List X) (x : X) → xs ≡ (xs ++ more) ++ x ∷ rest → ⊥
longer xs more rest x same = omega (arith, ap (λ l. length l) same, length-append (xs ++ more) (x ∷ rest), length-append xs more)

-- an element of a mapped list is the value of some element
mapped_at : {X Y : Type 0} → (f : X → Y) (xs : List X) (front back : List Y) (y : Y) → map f xs ≡ front ++ y ∷ back → (x : X) × (f x ≡ y)
mapped_at f [] [] back y same = absurd (cc same)
mapped_at f [] (z ∷ front) back y same = absurd (cc same)
mapped_at f (x ∷ xs) [] back y same = (x, cc same)
mapped_at f (x ∷ xs) (z ∷ front) back y same = let later : map f xs ≡ front ++ y ∷ back = cc same in mapped_at f xs front back y later

-- ---- one line more

-- the lines of a journal with one move more
lines_push : (plan : PlanData) (ms : List Move) (m : Move) (s : State) →
    map (move_line plan) (lines_from (plan_lists plan) (local_step_at plan) s (ms ++ m ∷ []))
    ≡ map (move_line plan) (lines_from (plan_lists plan) (local_step_at plan) s ms)
    ++ move_line plan (line_of (plan_lists plan) (local_step_at plan) (after_from (plan_lists plan) s ms) m) ∷ []
lines_push plan [] m s = refl
lines_push plan (n ∷ ms) m s = ap (λ l. move_line plan (line_of (plan_lists plan) (local_step_at plan) s n) ∷ l)
    (lines_push plan ms m (step (plan_lists plan) s n))

-- the lines of a journal with one move more are its lines and then the line of that move
pub journal_push : (plan : PlanData) (journal : List Move) (m : Move) →
    journal_lines plan (journal ++ m ∷ []) ≡ journal_lines plan journal ++ next_line plan journal m ∷ []
journal_push plan journal m = lines_push plan journal m start

-- where a line is due after lines that are due, all of them are
pub due_push : (plan : PlanData) (report trace : List (List ℕ)) (line : List ℕ) → AreLinesDue plan report trace → IsLineDue plan report trace line →
    AreLinesDue plan report (trace ++ line ∷ [])
due_push plan report trace line due next before more other same =
    elim (split_push trace before more line other same) [
      | inl last ↦
          subst (λ (l : List ℕ). IsLineDue plan report before l) (sym last.1)
          (subst (λ (ls : List (List ℕ)). IsLineDue plan report ls line) (sym last.0) next)
      | inr inside ↦ due before inside.0 other inside.1
    ]

-- the first lines of the report are due
pub report_due : (plan : PlanData) (report done later : List (List ℕ)) → report ≡ done ++ later → AreLinesDue plan report done
report_due plan report done later parts before more line same =
    in_report (more ++ later) (parts ∙ ap (λ l. l ++ later) same ∙ append_assoc before (line ∷ more) later)

-- once all phases are closed no move is legal
pub no_more : (lists : Lists) (s : State) (m : Move) → Sound lists s → s.closed ≡ phases lists → Legal lists s m → ⊥
no_more lists s (Change d n) sound closed legal = omega (arith, legal.1)
no_more lists s (Learn x n) sound closed legal = sound.ended_idle closed (Learn x n) legal
no_more lists s (Publish c n) sound closed legal = sound.ended_idle closed (Publish c n) legal
no_more lists s (Clear j) sound closed legal = sound.ended_idle closed (Clear j) legal
no_more lists s (Pass x j) sound closed legal = sound.ended_idle closed (Pass x j) legal
no_more lists s (Close p) sound closed legal = omega (arith, legal.0, legal.1)

module _ (plan : PlanData) (is_plan : IsPlan plan) where
  abbrev lists : Lists
  lists = plan_lists plan

  law : Lawful lists
  law = lawful plan is_plan

  -- a legal move that is made after a legal journal
  pub legal_push : (journal : List Move) (m : Move) → LegalJournal lists journal → Legal lists (after lists journal) m →
      LegalJournal lists (journal ++ m ∷ [])
  legal_push journal m legal next = legal_append lists journal (m ∷ []) start legal (next, tt)

  -- the state after a journal with one move more is the step of that move from the state after the journal
  pub after_push : (journal : List Move) (m : Move) → after lists (journal ++ m ∷ []) ≡ step lists (after lists journal) m
  after_push journal m = after_append lists journal (m ∷ []) start

  -- the line of a move that is legal after a journal is due
  move_due : (report : List (List ℕ)) (journal : List Move) (m : Move) → LegalJournal lists journal → Legal lists (after lists journal) m →
      IsLineDue plan report (report ++ journal_lines plan journal) (next_line plan journal m)
  move_due report journal m legal next =
      next_move journal m refl legal (λ complete. no_more lists (after lists journal) m (sound_after lists law journal legal) complete next) next refl

  journal_due_from : (report : List (List ℕ)) (front back : List Move) → LegalJournal lists (front ++ back) →
      AreLinesDue plan report (report ++ journal_lines plan front) →
      AreLinesDue plan report (report ++ journal_lines plan (front ++ back))
  journal_due_from report front [] legal due = subst (λ (j : List Move). AreLinesDue plan report (report ++ journal_lines plan j)) (sym (append-nil front)) due
  journal_due_from report front (m ∷ back) legal due =
      let again : front ++ m ∷ back ≡ (front ++ m ∷ []) ++ back = sym (append_assoc front (m ∷ []) back) in
      let parts = legal_parts lists front (m ∷ back) start legal in
      let next = due_push plan report (report ++ journal_lines plan front) (next_line plan front m) due (move_due report front m parts.0 parts.1.0) in
      let more : (report ++ journal_lines plan front) ++ next_line plan front m ∷ [] ≡ report ++ journal_lines plan (front ++ m ∷ []) =
      append_assoc report (journal_lines plan front) (next_line plan front m ∷ []) ∙ ap (λ l. report ++ l) (sym (journal_push plan front m)) in
      subst (λ (j : List Move). AreLinesDue plan report (report ++ journal_lines plan j)) (sym again)
      (journal_due_from report (front ++ m ∷ []) back (subst (LegalJournal lists) again legal) (subst (AreLinesDue plan report) more next))

  -- the lines of the report and of a legal journal are due
  pub journal_due : (report : List (List ℕ)) (journal : List Move) → LegalJournal lists journal →
      AreLinesDue plan report (report ++ journal_lines plan journal)
  journal_due report journal legal =
      journal_due_from report [] journal legal
      (subst (AreLinesDue plan report) (sym (append-nil report)) (report_due plan report report [] (sym (append-nil report))))

  -- and behind a complete journal the line with the number of moves
  pub count_due : (report : List (List ℕ)) (journal : List Move) → LegalJournal lists journal → IsComplete lists journal →
      AreLinesDue plan report ((report ++ journal_lines plan journal) ++ count_line plan journal ∷ [])
  count_due report journal legal complete =
      due_push plan report (report ++ journal_lines plan journal) (count_line plan journal) (journal_due report journal legal)
      (count journal refl legal complete refl)

  -- ---- what is not due

  -- behind a legal journal that is not complete: what tells no move that is legal after it
  pub no_move_due : (report : List (List ℕ)) (journal : List Move) (line : List ℕ) → LegalJournal lists journal → ¬ (IsComplete lists journal) →
      ((m : Move) → Legal lists (after lists journal) m → line ≢ next_line plan journal m) →
      IsLineDue plan report (report ++ journal_lines plan journal) line → ⊥
  no_move_due report journal line legal going none (in_report more parts) = longer report (journal_lines plan journal) more line parts
  no_move_due report journal line legal going none (next_move other m parts other_legal other_goes next tells) =
      let same = same_moves plan is_plan other journal other_legal legal
      (sym (append_cancel_left report (journal_lines plan journal) (journal_lines plan other) parts)) in
      none m (subst (λ (j : List Move). Legal lists (after lists j) m) same next) (tells ∙ ap (λ (j : List Move). next_line plan j m) same)
  no_move_due report journal line legal going none (count other parts other_legal complete tells) =
      let same = same_moves plan is_plan other journal other_legal legal
      (sym (append_cancel_left report (journal_lines plan journal) (journal_lines plan other) parts)) in
      going (subst (IsComplete lists) same complete)

  -- behind a complete journal: what is not the line with its number of moves
  pub no_count_due : (report : List (List ℕ)) (journal : List Move) (line : List ℕ) → LegalJournal lists journal → IsComplete lists journal →
      line ≢ count_line plan journal → IsLineDue plan report (report ++ journal_lines plan journal) line → ⊥
  no_count_due report journal line legal complete other_line (in_report more parts) = longer report (journal_lines plan journal) more line parts
  no_count_due report journal line legal complete other_line (next_move other m parts other_legal other_goes next tells) =
      let same = same_moves plan is_plan other journal other_legal legal
      (sym (append_cancel_left report (journal_lines plan journal) (journal_lines plan other) parts)) in
      other_goes (subst (IsComplete lists) (sym same) complete)
  no_count_due report journal line legal complete other_line (count other parts other_legal other_complete tells) =
      let same = same_moves plan is_plan other journal other_legal legal
      (sym (append_cancel_left report (journal_lines plan journal) (journal_lines plan other) parts)) in
      other_line (tells ∙ ap (count_line plan) same)

  -- a line with a number of moves stands among the lines of no journal
  no_count_among : (report : List (List ℕ)) (journal other : List Move) →
      (report ++ journal_lines plan journal) ++ count_line plan journal ∷ [] ≡ report ++ journal_lines plan other → ⊥
  no_count_among report journal other same =
      let parts = append_cancel_left report (journal_lines plan journal ++ count_line plan journal ∷ []) (journal_lines plan other)
      (sym (append_assoc report (journal_lines plan journal) (count_line plan journal ∷ [])) ∙ same) in
      let found = mapped_at (move_line plan) _ (journal_lines plan journal) [] (count_line plan journal) (sym parts) in
      no_count plan found.0 _ found.1

  -- behind the line with the number of moves nothing is due
  pub nothing_due : (report : List (List ℕ)) (journal : List Move) (line : List ℕ) →
      IsLineDue plan report ((report ++ journal_lines plan journal) ++ count_line plan journal ∷ []) line → ⊥
  nothing_due report journal line (in_report more parts) =
      longer report (journal_lines plan journal ++ count_line plan journal ∷ []) more line
      (parts ∙ ap (λ l. l ++ line ∷ more) (append_assoc report (journal_lines plan journal) (count_line plan journal ∷ [])))
  nothing_due report journal line (next_move other m parts other_legal other_goes next tells) = no_count_among report journal other parts
  nothing_due report journal line (count other parts other_legal complete tells) = no_count_among report journal other parts
