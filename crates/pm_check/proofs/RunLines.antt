-- The lines that tell legal moves: they are of the plan, they are whole lines, and they tell the moves.
use Rattle.std.proofs.Common.{◌≡◌, ◌≢◌, ◌∙◌, sym, ap, subst, refl, ℕ, suc, ◌+◌, ◌<◌, ◌≤◌, ◌^◌, Bool, true, false, List}
use Rattle.std.proofs.Common.{[], ◌∷◌, ◌++◌, length, map, cond, get_or, append_assoc, arith, mul-le-mul, inl, inr}
use Rattle.std.specs.Prelude.{All, Option, Some, None, IfSome, nat_lt, decimal, codes}
use Rattle.std.specs.List.{list_all}
use Rattle.std.proofs.lemmas.Bool.{cases_Bool, cond-true, cond-false, ltb-true}
use Rattle.std.proofs.lemmas.List.Elements.{All-nil, All-cons, All-append}
use Rattle.pm_base.specs.Limits.{most_changes}
use Rattle.pm_market.specs.Lists.{Lists, nodes, parent, is_leaf, IsNode, IsLeaf, Lawful}
use Rattle.pm_market.specs.State.{State, start, newest_number_of, number, last_index, last_of, clearings, cleared_cut}
use Rattle.pm_market.specs.Moves.{Legal, step, LegalFrom, LegalJournal}
use Rattle.pm_market.specs.Bound.{bound, change_total}
use Rattle.pm_market.specs.Held.{holds_price, holding_after, line_of, lines_from, lines}
use Rattle.pm_market.specs.Sound.{Sound}
use Rattle.pm_market.specs.declared.moves.Move.{Move}
use Rattle.pm_market.specs.declared.moves.Move.TheVariants.{Change, Learn, Publish, Clear, Pass, Close}
use Rattle.pm_market.specs.declared.journal.Line.{Line}
use Rattle.pm_market.proofs.Tree.{leaf_node, leaf_of_itself}
use Rattle.pm_market.proofs.Cuts.{updated_same, newest_leaf, part_leaf}
use Rattle.pm_laws.specs.Potential.{potential}
use Rattle.pm_laws.proofs.Facts.{last_push, reached_within}
use Rattle.pm_laws.proofs.Bound.{counted_bound, newest_small, journal_bound}
use Rattle.pm_laws.proofs.Kept.{sound_start, sound_step}
use Rattle.pm_laws.proofs.Numbers.{cleared_is_part}
use Rattle.pm_plan.specs.Plans.{PlanData, all_changes}
use Rattle.pm_plan.specs.Kept.{IsPlan}
use Rattle.pm_plan.specs.Market.{plan_lists}
use Rattle.pm_plan.proofs.MarketLists.{lawful, bound-is, phases-is, is_leaf-is}
use Rattle.pm_offer.specs.Offers.{local_step_at}
use Rattle.pm_offer.proofs.Laws.{local_inside}
use Rattle.pm_offer.proofs.GroupNodes as group_nodes
use Rattle.pm_report.specs.Words.{text_line}
use Rattle.pm_report.specs.Trace.{IsLineOfRun, move_words, move_line, moves_line}
use Rattle.pm_report.proofs.LineWords.{IsWord, AreWords, decimal_word}
use Rattle.pm_report.proofs.Moves.{move_are_words}
use Rattle.pm_report.proofs.Traces.{same_one}
use Rattle.pm_tree.proofs.Named.{and_true}
use Rattle.pm_envelope.specs.Lines.{HasNoLineFeed}
use Rattle.pm_check.specs.Lines.{IsWholeLine}

-- ---- a line of words is a whole line

word_bytes : (word : List ℕ) → IsWord word → HasNoLineFeed word
word_bytes [] is = All-nil (λ (b : ℕ). b ≢ 10)
word_bytes (byte ∷ word) is =
    let parts = and_true (nat_lt 32 byte) (list_all (nat_lt 32) word) is in
    let above = ltb-true 32 byte parts.0 in
    All-cons (λ (b : ℕ). b ≢ 10) byte word (λ feed. absurd (omega (arith, feed, above))) (word_bytes word parts.1)

-- the line of one or more words is a whole line
pub whole_words : (words : List (List ℕ)) → AreWords words → IsWholeLine (text_line words)
whole_words [] are = absurd are
whole_words (word ∷ []) are = (word, (word_bytes word are, refl))
whole_words (word ∷ next ∷ more) are =
    let rest = whole_words (next ∷ more) are.1 in (
      word ++ 32 ∷ rest.0,
      (
        All-append (λ (b : ℕ). b ≢ 10) word (32 ∷ rest.0) (word_bytes word are.0)
            (All-cons (λ (b : ℕ). b ≢ 10) 32 rest.0 (λ feed. absurd (omega (arith, feed))) rest.1.0),
        ap (λ line. word ++ 32 ∷ line) rest.1.1 ∙ sym (append_assoc word (32 ∷ rest.0) (10 ∷ [])),
      ),
    )

-- no line of a move begins as the line with their number does
first_byte : (plan : PlanData) (m : Move) (held : Option (ℕ × ℕ)) → get_or (text_line (move_words plan m held)) 0 0 ≢ 109
first_byte plan (Change d n) held same = absurd (omega (arith, same))
first_byte plan (Learn x n) held same = absurd (omega (arith, same))
first_byte plan (Publish c n) held same = absurd (omega (arith, same))
first_byte plan (Clear j) held same = absurd (omega (arith, same))
first_byte plan (Pass x j) held same = absurd (omega (arith, same))
first_byte plan (Close p) held same = absurd (omega (arith, same))

-- no line of a move is a line with a number of moves
pub no_count : (plan : PlanData) (line : Line) (lines : List Line) → move_line plan line ≢ moves_line lines
no_count plan line lines same = first_byte plan line.what line.held (ap (λ bytes. get_or bytes 0 0) same)

-- ---- a line of a legal move is one of a run

-- the step and the number that are held
abbrev HeldFits : PlanData → Option (ℕ × ℕ) → Type 0
HeldFits plan held = IfSome held (λ h. h.0 < plan.basis.steps) × IfSome held (λ h. h.1 < 2 ^ 32)

clearings_counted : (lists : Lists) (s : State) → clearings s ≤ potential lists s
unfolding potential
clearings_counted lists s = omega arith

module _ (plan : PlanData) (is_plan : IsPlan plan) where
  abbrev lists : Lists
  lists = plan_lists plan

  law : Lawful lists
  law = lawful plan is_plan

  nodes_is : nodes lists ≡ length plan.nodes
  nodes_is = group_nodes.nodes_are plan is_plan

  -- no number of a run is above this one
  pub bound_small : bound lists + 1 < 2 ^ 32
  bound_small =
      let few = mul-le-mul {n₁ = all_changes plan.nodes} {m₁ = length plan.nodes + 15} {n₂ = most_changes} {m₂ = 271} is_plan.within.few_changes
      (omega (arith, is_plan.nodes.few)) in
      omega (arith, few, bound-is plan is_plan, is_plan.within.few_phases)

  changes_small : change_total lists ≤ bound lists
  changes_small =
      let once = mul-le-mul {n₁ = change_total lists} {m₁ = 1} {n₂ = change_total lists} {m₂ = nodes lists + 15} (omega arith) (omega arith) in
      omega (arith, once)

  module _ (s : State) (sound : Sound lists s) where
    number_small : (x n : ℕ) → IsNode lists x → n ≤ newest_number_of lists s x + 1 → n < 2 ^ 32
    number_small x n node le = omega (arith, le, newest_small lists law s sound x node, changes_small, bound_small)

    index_small : (j : ℕ) → j ≤ clearings s + 1 → j < 2 ^ 32
    index_small j le = omega (arith, le, clearings_counted lists s, counted_bound lists law s sound, bound_small)

    -- what the line of a pass says that a device then holds
    cut_small : (d j : ℕ) → IsLeaf lists d → j ≤ clearings s → cleared_cut s j d < 2 ^ 32
    cut_small d j leaf le =
        let node = leaf_node lists law d leaf in
        let part = cleared_is_part lists law s sound d j node le in
        number_small d (cleared_cut s j d) node
        (omega (
          arith,
          part.0 d (leaf_of_itself lists law d leaf),
          part_leaf lists s.published d (number lists s d (cleared_cut s j)) d
              leaf,
          part.1,
          sound.learnt_within d node,
        ))

    held_fit : (x j : ℕ) → Legal lists s (Pass x j) → IsLeaf lists x → (b : Bool) → let t : State = step lists s (Pass x j) in
        HeldFits plan (cond b (Some (local_step_at plan (cleared_cut t (last_index t x)) x, cleared_cut t (last_index t x) x)) None)
    held_fit x j legal leaf false = (tt, tt)
    held_fit x j legal leaf true =
        let t : State = step lists s (Pass x j) in
        let last_is : last_index t x ≡ j = ap last_of (updated_same s.passed x (s.passed x ++ j ∷ [])) ∙ last_push (s.passed x) j in (
          local_inside plan x (cleared_cut t (last_index t x)) is_plan,
          omega (arith, cut_small x j leaf (reached_within lists s sound (parent lists x) j legal.1).1, ap (λ (i : ℕ). cleared_cut s i x) last_is),
        )

    pass_fits : (x j : ℕ) → Legal lists s (Pass x j) → HeldFits plan (holding_after lists (local_step_at plan) s (Pass x j))
    pass_fits x j legal = elim (cases_Bool (is_leaf lists x)) [
      | inl leaf ↦ subst (HeldFits plan) (sym (cond-true (is_leaf lists x) _ None leaf))
          (held_fit x j legal leaf (holds_price lists (step lists s (Pass x j)) x))
      | inr inner ↦ subst (HeldFits plan) (sym (cond-false (is_leaf lists x) _ None inner)) (tt, tt)
    ]

    -- the line of a legal move
    pub line_is : (m : Move) → Legal lists s m → IsLineOfRun plan (line_of lists (local_step_at plan) s m)
    line_is (Change d n) legal =
        let node = leaf_node lists law d legal.0 in record {
          of_plan = record { nodes = omega (arith, node.1, nodes_is); step = tt };
          holder = λ none. refl;
          number_fits = number_small d n node (omega (arith, legal.2, newest_leaf lists s.counts s.published d legal.0));
          held_fits = tt;
        }
    line_is (Learn x n) legal = record {
      of_plan = record { nodes = (legal.0.0, omega (arith, legal.0.1, nodes_is)); step = tt };
      holder = λ none. refl;
      number_fits = number_small x n legal.0 (omega (arith, legal.2));
      held_fits = tt;
    }
    line_is (Publish c n) legal = record {
      of_plan = record { nodes = omega (arith, legal.0.1, nodes_is); step = tt };
      holder = λ none. refl;
      number_fits = number_small c n (legal.0.0, legal.0.1) (omega (arith, legal.3));
      held_fits = tt;
    }
    line_is (Clear j) legal = record {
      of_plan = record { nodes = tt; step = tt };
      holder = λ none. refl;
      number_fits = index_small j (omega (arith, legal.1));
      held_fits = tt;
    }
    line_is (Pass x j) legal = record {
      of_plan = record { nodes = (legal.0.0, omega (arith, legal.0.1, nodes_is)); step = (pass_fits x j legal).0 };
      holder = λ none. cond-false (is_leaf lists x) _ None (is_leaf-is plan x ∙ none);
      number_fits = index_small j (omega (arith, (reached_within lists s sound (parent lists x) j legal.1).1));
      held_fits = (pass_fits x j legal).1;
    }
    line_is (Close p) legal = record {
      of_plan = record { nodes = tt; step = tt };
      holder = λ none. refl;
      number_fits = omega (arith, legal.1, phases-is plan, is_plan.within.few_phases);
      held_fits = tt;
    }

    -- the same line is that of the same move
    pub same_next : (m n : Move) → Legal lists s m → Legal lists s n →
        move_line plan (line_of lists (local_step_at plan) s m) ≡ move_line plan (line_of lists (local_step_at plan) s n) → m ≡ n
    same_next m n m_legal n_legal same =
        ap (λ (line : Line). line.what)
        (same_one plan (line_of lists (local_step_at plan) s m) (line_of lists (local_step_at plan) s n) is_plan (line_is m m_legal) (line_is n n_legal) same)

    -- the line of one move that is legal in a sound state is a whole line
    pub whole_next : (m : Move) → Legal lists s m → IsWholeLine (move_line plan (line_of lists (local_step_at plan) s m))
    whole_next m legal = whole_words (move_words plan m (holding_after lists (local_step_at plan) s m))
        (move_are_words plan is_plan (line_of lists (local_step_at plan) s m) (line_is m legal))

  -- ---- the lines of a legal journal

  -- the lines of moves that are legal one after another from a sound state are lines of a run of the plan
  pub lines_are : (ms : List Move) (s : State) → Sound lists s → LegalFrom lists s ms →
      All (IsLineOfRun plan) (lines_from lists (local_step_at plan) s ms)
  lines_are [] s sound legal = All-nil (IsLineOfRun plan)
  lines_are (m ∷ ms) s sound legal =
      All-cons (IsLineOfRun plan) (line_of lists (local_step_at plan) s m) (lines_from lists (local_step_at plan) (step lists s m) ms)
      (line_is s sound m legal.0)
      (lines_are ms (step lists s m) (sound_step lists law s sound m legal.0) legal.1)

  -- the lines of moves that are legal one after another from a sound state are whole lines
  pub whole_from : (ms : List Move) (s : State) → Sound lists s → LegalFrom lists s ms →
      All IsWholeLine (map (move_line plan) (lines_from lists (local_step_at plan) s ms))
  whole_from [] s sound legal = All-nil IsWholeLine
  whole_from (m ∷ ms) s sound legal =
      All-cons IsWholeLine (move_line plan (line_of lists (local_step_at plan) s m))
      (map (move_line plan) (lines_from lists (local_step_at plan) (step lists s m) ms))
      (whole_next s sound m legal.0) (whole_from ms (step lists s m) (sound_step lists law s sound m legal.0) legal.1)

  -- the same lines are those of the same moves
  same_from : (a b : List Move) (s : State) → Sound lists s → LegalFrom lists s a → LegalFrom lists s b →
      map (move_line plan) (lines_from lists (local_step_at plan) s a) ≡ map (move_line plan) (lines_from lists (local_step_at plan) s b) → a ≡ b
  same_from [] [] s sound a_legal b_legal same = refl
  same_from [] (n ∷ b) s sound a_legal b_legal same = absurd (cc same)
  same_from (m ∷ a) [] s sound a_legal b_legal same = absurd (cc same)
  same_from (m ∷ a) (n ∷ b) s sound a_legal b_legal same =
      let first : move_line plan (line_of lists (local_step_at plan) s m) ≡ move_line plan (line_of lists (local_step_at plan) s n) = cc same in
      let later : map (move_line plan) (lines_from lists (local_step_at plan) (step lists s m) a) ≡ map (move_line plan)
      (lines_from lists (local_step_at plan) (step lists s n) b) = cc same in
      let here : m ≡ n = same_next s sound m n a_legal.0 b_legal.0 first in
      let more = same_from a b (step lists s m) (sound_step lists law s sound m a_legal.0) a_legal.1
      (subst (λ (k : Move). LegalFrom lists (step lists s k) b) (sym here) b_legal.1)
      (later ∙ ap (λ (k : Move). map (move_line plan) (lines_from lists (local_step_at plan) (step lists s k) b)) (sym here)) in
      (λ i. here i ∷ more i)

  -- two legal journals with the same lines have the same moves
  pub same_moves : (a b : List Move) → LegalJournal lists a → LegalJournal lists b →
      map (move_line plan) (lines lists (local_step_at plan) a) ≡ map (move_line plan) (lines lists (local_step_at plan) b) → a ≡ b
  same_moves a b a_legal b_legal same = same_from a b start (sound_start lists law) a_legal b_legal same

  -- as many lines as moves
  count_from : (ms : List Move) (s : State) → length (lines_from lists (local_step_at plan) s ms) ≡ length ms
  count_from [] s = refl
  count_from (m ∷ ms) s = ap suc (count_from ms (step lists s m))

  -- a journal has as many lines as moves
  pub count_lines : (journal : List Move) → length (lines lists (local_step_at plan) journal) ≡ length journal
  count_lines journal = count_from journal start

  -- the line with the number of moves of a legal journal is a whole line
  pub whole_count : (journal : List Move) → LegalJournal lists journal → IsWholeLine (moves_line (lines lists (local_step_at plan) journal))
  whole_count journal legal =
      let few : length (lines lists (local_step_at plan) journal) < 2 ^
      64 = omega (arith, count_lines journal, journal_bound lists law journal legal, bound_small) in
      let many = length (lines lists (local_step_at plan) journal) in
      whole_words (codes "moves" ∷ decimal many ∷ []) (refl, decimal_word many few)
