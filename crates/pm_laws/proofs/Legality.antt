-- The test of legality agrees with the definition.
use Rattle.std.proofs.Common.{◌++◌, ◌↔◌, ◌≡◌, ℕ, suc, ◌+◌, Bool, true, false, cond, not, eqb, ltb, leb, ◌&&◌, inl, inr, List, []}
use Rattle.std.proofs.Common.{◌∷◌, length, refl, sym, ◌∙◌, arith}
use Rattle.std.proofs.lemmas.Bool.{cases_Bool, eqb-true, eq-eqb, ltb-true, leb-true, lt-ltb, le-leb, and_parts, and_from, not-false, and_cases, not_from_false}
use Rattle.std.proofs.lemmas.Bool.{both_ways, cond-true, cond-false, false_from_ne_true}
use Rattle.pm_market.specs.Lists.{Lists, nodes, phases, parent, is_leaf, Lawful, end_count}
use Rattle.pm_market.specs.State.{start, State, all_to, newest_number_of, clearings}
use Rattle.pm_market.specs.Moves.{after_from, after, LegalJournal, NodeLegal, Idle, Legal, step, LegalFrom}
use Rattle.pm_market.specs.Sound.{Sound}
use Rattle.pm_market.specs.Legality.{learn_is_legal, publish_is_legal, clear_is_legal, pass_is_legal, is_idle_at, is_idle, change_is_legal, are_made}
use Rattle.pm_market.specs.Legality.{close_is_legal, is_legal, are_legal, first_illegal}
use Rattle.pm_market.specs.declared.moves.Move.{Move}
use Rattle.pm_market.specs.declared.moves.Move.TheVariants.{Change, Learn, Publish, Clear, Pass, Close}
use Rattle.pm_market.proofs.Tree.{leaf_node}
use Rattle.pm_market.proofs.Cuts.{all_to_at, all_to_from}
use Rattle.pm_laws.proofs.Facts.{reached_within}
use Rattle.pm_laws.proofs.Kept.{sound_start, sound_step}
use Rattle.pm_market.proofs.Cuts.{all_to_fails}
use Rattle.pm_market.proofs.Legality.{learn_from, learn_at, publish_from, publish_at, clear_from, clear_at, pass_from, pass_at, idle_parts, at_parts}

-- in a sound state
pub idle_from : (lists : Lists) (s : State) → Sound lists s → is_idle lists s ≡ true → Idle lists s
idle_from lists s sound h (Change d n) legal = legal
idle_from lists s sound h (Learn x n) legal =
    let at = at_parts lists s x ((idle_parts lists s h).0 x legal.0) in
    both_ways (learn_is_legal lists s x (newest_number_of lists s x)) at.0
    (learn_at lists s x (newest_number_of lists s x) (legal.0, omega (arith, legal.1, legal.2), omega arith))
idle_from lists s sound h (Publish c n) legal =
    let at = at_parts lists s c ((idle_parts lists s h).0 c (legal.0.0, legal.0.1)) in
    both_ways (publish_is_legal lists s c (newest_number_of lists s c + 1)) at.1
    (publish_at lists s c (newest_number_of lists s c + 1) (legal.0, legal.1, legal.2, refl))
idle_from lists s sound h (Clear j) legal =
    both_ways (clear_is_legal lists s (clearings s + 1)) (idle_parts lists s h).1 (clear_at lists s (clearings s + 1) (legal.0, refl))
idle_from lists s sound h (Pass x j) legal =
    let at = at_parts lists s x ((idle_parts lists s h).0 x legal.0) in
    let within = reached_within lists s sound (parent lists x) j legal.1 in
    both_ways (pass_is_legal lists s x j) (at.2 j within.0 within.1) (pass_at lists s x j legal)
idle_from lists s sound h (Close p) legal = legal

-- an idle state, sound or not, passes the test for one
pub idle_to : (lists : Lists) (s : State) → Idle lists s → is_idle lists s ≡ true
unfolding is_idle is_idle_at
idle_to lists s idle =
    and_from _ _ (all_to_from (nodes lists) _ (λ x one le.
    and_from _ _ (and_from _ _
    (not_from_false _ (false_from_ne_true _ (λ e. idle (Learn x (newest_number_of lists s x)) (learn_from lists s x (newest_number_of lists s x) e))))
    (not_from_false _
    (false_from_ne_true _ (λ e. idle (Publish x (newest_number_of lists s x + 1)) (publish_from lists s x (newest_number_of lists s x + 1) e)))))
    (all_to_from (clearings s) _ (λ j j_one j_le. not_from_false _ (false_from_ne_true _ (λ e. idle (Pass x j) (pass_from lists s x j e)))))))
    (not_from_false _ (false_from_ne_true _ (λ e. idle (Clear (clearings s + 1)) (clear_from lists s (clearings s + 1) e))))

-- a move that passes the test of legality in a sound state is legal
pub legal_from : (lists : Lists) → Lawful lists → (s : State) → Sound lists s → (m : Move) → is_legal lists s m ≡ true → Legal lists s m
unfolding is_legal change_is_legal close_is_legal are_made
legal_from lists law s sound (Change d n) h =
    let a = and_parts (is_leaf lists d && ltb s.closed (phases lists) && eqb n (s.counts d + 1)) (leb n (end_count lists (s.closed + 1) d)) h in
    let b = and_parts (is_leaf lists d && ltb s.closed (phases lists)) (eqb n (s.counts d + 1)) a.0 in
    let c = and_parts (is_leaf lists d) (ltb s.closed (phases lists)) b.0 in
    (c.0, ltb-true s.closed (phases lists) c.1, eqb-true n (s.counts d + 1) b.1, leb-true n (end_count lists (s.closed + 1) d) a.1)
legal_from lists law s sound (Learn x n) h = learn_from lists s x n h
legal_from lists law s sound (Publish c n) h = publish_from lists s c n h
legal_from lists law s sound (Clear j) h = clear_from lists s j h
legal_from lists law s sound (Pass x j) h = pass_from lists s x j h
legal_from lists law s sound (Close p) h =
    let same : ℕ → Bool = λ d. cond (is_leaf lists d) (eqb (s.counts d) (end_count lists p d)) true in
    let a = and_parts (eqb p (s.closed + 1) && leb p (phases lists) && all_to (nodes lists) same) (is_idle lists s) h in
    let b = and_parts (eqb p (s.closed + 1) && leb p (phases lists)) (all_to (nodes lists) same) a.0 in
    let c = and_parts (eqb p (s.closed + 1)) (leb p (phases lists)) b.0 in (
      eqb-true p (s.closed + 1) c.0,
      leb-true p (phases lists) c.1,
      λ d leaf. let node = leaf_node lists law d leaf in eqb-true (s.counts d) (end_count lists p d)
          (sym (cond-true (is_leaf lists d) (eqb (s.counts d) (end_count lists p d)) true leaf) ∙ all_to_at (nodes lists) same b.1 d node.0 node.1),
      idle_from lists s sound a.1,
    )

-- a legal move passes the test of legality, in a sound state or not
pub legal_to : (lists : Lists) → (s : State) → (m : Move) → Legal lists s m → is_legal lists s m ≡ true
unfolding is_legal change_is_legal close_is_legal are_made
legal_to lists s (Change d n) h = and_from _ _
    (and_from _ _ (and_from _ _ h.0 (lt-ltb s.closed (phases lists) h.1)) (eq-eqb n (s.counts d + 1) h.2)) (le-leb n (end_count lists (s.closed + 1) d) h.3)
legal_to lists s (Learn x n) h = learn_at lists s x n h
legal_to lists s (Publish c n) h = publish_at lists s c n h
legal_to lists s (Clear j) h = clear_at lists s j h
legal_to lists s (Pass x j) h = pass_at lists s x j h
legal_to lists s (Close p) h =
    and_from _ _ (and_from _ _ (and_from _ _ (eq-eqb p (s.closed + 1) h.0) (le-leb p (phases lists) h.1))
    (all_to_from (nodes lists) _ (λ d one le. elim (cases_Bool (is_leaf lists d)) [
      | inl e ↦ cond-true (is_leaf lists d) (eqb (s.counts d) (end_count lists p d)) true e ∙ eq-eqb (s.counts d) (end_count lists p d) (h.2 d e)
      | inr e ↦ cond-false (is_leaf lists d) (eqb (s.counts d) (end_count lists p d)) true e
    ]))) (idle_to lists s h.3)

-- moves from a sound state on are all legal where the place of the first illegal one is past their end
pub journal_from : (lists : Lists) → Lawful lists → (ms : List Move) (s : State) → Sound lists s →
    first_illegal lists s ms ≡ length ms → LegalFrom lists s ms
unfolding first_illegal
journal_from lists law [] s sound h = tt
journal_from lists law (m ∷ ms) s sound h =
    elim (cases_Bool (is_legal lists s m)) [
      | inl e ↦
          let legal = legal_from lists law s sound m e in
          let rest : first_illegal lists (step lists s m) ms ≡ length ms =
          omega (arith, h, cond-true (is_legal lists s m) (suc (first_illegal lists (step lists s m) ms)) 0 e) in
          (legal, journal_from lists law ms (step lists s m) (sound_step lists law s sound m legal) rest)
      | inr e ↦ absurd (omega (arith, h, cond-false (is_legal lists s m) (suc (first_illegal lists (step lists s m) ms)) 0 e))
    ]

-- moves with one that is not legal behind them are all legal where that one's place is the first that is not legal
pub illegal_from : (lists : Lists) → Lawful lists → (before : List Move) (s : State) → Sound lists s → (m : Move) (rest : List Move) →
    first_illegal lists s (before ++ m ∷ rest) ≡ length before →
    LegalFrom lists s before × (Legal lists (after_from lists s before) m → ⊥)
unfolding first_illegal
illegal_from lists law [] s sound m rest h =
    elim (cases_Bool (is_legal lists s m)) [
      | inl e ↦ absurd (omega (arith, h, cond-true (is_legal lists s m) (suc (first_illegal lists (step lists s m) rest)) 0 e))
      | inr e ↦ (tt, λ legal. both_ways (is_legal lists s m) e (legal_to lists s m legal))
    ]
illegal_from lists law (b ∷ before) s sound m rest h =
    let place = first_illegal lists (step lists s b) (before ++ m ∷ rest) in
    elim (cases_Bool (is_legal lists s b)) [
      | inl e ↦
          let legal = legal_from lists law s sound b e in
          let same : place ≡ length before = omega (arith, h, cond-true (is_legal lists s b) (suc place) 0 e) in
          let more = illegal_from lists law before (step lists s b) (sound_step lists law s sound b legal) m rest same in
          ((legal, more.0), more.1)
      | inr e ↦ absurd (omega (arith, h, cond-false (is_legal lists s b) (suc place) 0 e))
    ]

-- the place of a move that is not legal behind legal ones is the first that is not legal
pub illegal_to : (lists : Lists) → Lawful lists → (before : List Move) (s : State) → Sound lists s → (m : Move) (rest : List Move) →
    LegalFrom lists s before → (Legal lists (after_from lists s before) m → ⊥) →
    first_illegal lists s (before ++ m ∷ rest) ≡ length before
unfolding first_illegal
illegal_to lists law [] s sound m rest legal illegal =
    cond-false (is_legal lists s m) (suc (first_illegal lists (step lists s m) rest)) 0
    (false_from_ne_true (is_legal lists s m) (λ e. illegal (legal_from lists law s sound m e)))
illegal_to lists law (b ∷ before) s sound m rest legal illegal =
    let place = first_illegal lists (step lists s b) (before ++ m ∷ rest) in
    let more : place ≡ length before =
    illegal_to lists law before (step lists s b) (sound_step lists law s sound b legal.0) m rest legal.1 illegal in
    omega (arith, more, cond-true (is_legal lists s b) (suc place) 0 (legal_to lists s b legal.0))

-- a place of a list of moves is the first that is not legal exactly where those before it are a legal journal and its move is not legal
pub illegal_tested : (lists : Lists) (before : List Move) (m : Move) (rest : List Move) → Lawful lists →
    (first_illegal lists start (before ++ m ∷ rest) ≡ length before)
    ↔ (LegalJournal lists before × (Legal lists (after lists before) m → ⊥))
illegal_tested lists before m rest law = (
  illegal_from lists law before start (sound_start lists law) m rest,
  λ parts. illegal_to lists law before start (sound_start lists law) m rest parts.0 parts.1,
)

-- where it is not idle there is a move

node_move_at : (lists : Lists) (s : State) (x : ℕ) → is_idle_at lists s x ≡ false → (m : Move) × NodeLegal lists s m
unfolding is_idle_at
node_move_at lists s x h =
    elim (and_cases (not (learn_is_legal lists s x (newest_number_of lists s x)) && not (publish_is_legal lists s x (newest_number_of lists s x + 1)))
    (all_to (clearings s) (λ j. not (pass_is_legal lists s x j))) h) [
      | inl a ↦ elim (and_cases (not (learn_is_legal lists s x (newest_number_of lists s x)))
          (not (publish_is_legal lists s x (newest_number_of lists s x + 1))) a) [
            | inl e ↦ (
              Learn x (newest_number_of lists s x),
              learn_from lists s x (newest_number_of lists s x)
                  (not-false (learn_is_legal lists s x (newest_number_of lists s x)) e),
            )
            | inr e ↦ (
              Publish x (newest_number_of lists s x + 1),
              publish_from lists s x (newest_number_of lists s x + 1) (not-false (publish_is_legal lists s x (newest_number_of lists s x + 1)) e),
            )
          ]
      | inr a ↦ let r = all_to_fails (clearings s) (λ j. not (pass_is_legal lists s x j)) a in
          (Pass x r.0, pass_from lists s x r.0 (not-false (pass_is_legal lists s x r.0) r.3))
    ]

-- a state that fails the test of idleness, sound or not, has a legal node move
pub not_idle_move : (lists : Lists) (s : State) → is_idle lists s ≡ false → (m : Move) × NodeLegal lists s m
unfolding is_idle
not_idle_move lists s h =
    elim (and_cases (all_to (nodes lists) (is_idle_at lists s)) (not (clear_is_legal lists s (clearings s + 1))) h) [
      | inl a ↦ let r = all_to_fails (nodes lists) (is_idle_at lists s) a in
          node_move_at lists s r.0 r.3
      | inr a ↦ (Clear (clearings s + 1), clear_from lists s (clearings s + 1) (not-false (clear_is_legal lists s (clearings s + 1)) a))
    ]

-- in a sound state a move passes the test of legality exactly where it is legal
pub legal_tested : (lists : Lists) (s : State) (m : Move) → Lawful lists → Sound lists s → (is_legal lists s m ≡ true) ↔ Legal lists s m
legal_tested lists s m law sound = (legal_from lists law s sound m, legal_to lists s m)

-- a sound state passes the test of idleness exactly where it is idle
pub idle_tested : (lists : Lists) (s : State) → Sound lists s → (is_idle lists s ≡ true) ↔ Idle lists s
idle_tested lists s sound = (idle_from lists s sound, idle_to lists s)

are_legal_from : (lists : Lists) → Lawful lists → (ms : List Move) (s : State) → Sound lists s → are_legal lists s ms ≡ true → LegalFrom lists s ms
unfolding are_legal
are_legal_from lists law [] s sound h = tt
are_legal_from lists law (m ∷ ms) s sound h =
    let p = and_parts (is_legal lists s m) (are_legal lists (step lists s m) ms) h in
    let legal = legal_from lists law s sound m p.0 in
    (legal, are_legal_from lists law ms (step lists s m) (sound_step lists law s sound m legal) p.1)

are_legal_to : (lists : Lists) (ms : List Move) (s : State) → LegalFrom lists s ms → are_legal lists s ms ≡ true
unfolding are_legal
are_legal_to lists [] s h = refl
are_legal_to lists (m ∷ ms) s h = and_from _ _ (legal_to lists s m h.0) (are_legal_to lists ms (step lists s m) h.1)

-- the test of a journal, which is a proposition as it stands
pub journal_tested : (lists : Lists) (journal : List Move) → Lawful lists → (are_legal lists start journal ≡ true) ↔ LegalJournal lists journal
journal_tested lists journal law = (are_legal_from lists law journal start (sound_start lists law), are_legal_to lists journal start)

are_legal_push_from : (lists : Lists) (ms : List Move) (s : State) (m : Move) → are_legal lists s ms ≡ true →
    is_legal lists (after_from lists s ms) m ≡ true → are_legal lists s (ms ++ m ∷ []) ≡ true
unfolding are_legal
are_legal_push_from lists [] s m h e = and_from _ _ e refl
are_legal_push_from lists (k ∷ ms) s m h e = let p =
    and_parts (is_legal lists s k) (are_legal lists (step lists s k) ms) h in and_from _ _ p.0 (are_legal_push_from lists ms (step lists s k) m p.1 e)

-- a legal move joins a legal journal
pub are_legal_push : (lists : Lists) (journal : List Move) (m : Move) → are_legal lists start journal ≡ true →
    Legal lists (after lists journal) m → are_legal lists start (journal ++ m ∷ []) ≡ true
are_legal_push lists journal m h legal = are_legal_push_from lists journal start m h (legal_to lists (after lists journal) m legal)

first_illegal_to : (lists : Lists) (ms : List Move) (s : State) → LegalFrom lists s ms → first_illegal lists s ms ≡ length ms
unfolding first_illegal
first_illegal_to lists [] s h = refl
first_illegal_to lists (m ∷ ms) s h =
    omega (
      arith,
      cond-true (is_legal lists s m) (suc (first_illegal lists (step lists s m) ms)) 0 (legal_to lists s m h.0),
      first_illegal_to lists ms (step lists s m) h.1,
    )

-- a journal is legal where the first place of an illegal move is past its end
pub first_tested : (lists : Lists) (journal : List Move) → Lawful lists → (first_illegal lists start journal ≡ length journal)
    ↔ LegalJournal lists journal
first_tested lists journal law = (journal_from lists law journal start (sound_start lists law), first_illegal_to lists journal start)

-- what the tests of legality and of idleness decide
pub ruleset legality_tests = (legal_tested, idle_tested, journal_tested, first_tested, illegal_tested, are_legal_push, not_idle_move)
