-- In a state at rest the last clearing is current, and so in an idle one.
use Rattle.std.proofs.Common.{◌≡◌, ℕ, zero, suc, ◌+◌, ◌-◌, ◌<◌, ◌≤◌, true, false, not, inl, inr, length, refl, sym, ◌∙◌, ap}
use Rattle.std.proofs.Common.{subst, arith}
use Rattle.std.proofs.lemmas.Bool.{cases_eq, cases_lt, cases_Bool, cond-true, cond-false, both_ways}
use Rattle.std.specs.List.{Contains}
use Rattle.pm_base.specs.Limits.{window_size}
use Rattle.pm_market.specs.Lists.{Lists, parent, is_leaf, is_member, IsNode, IsLeaf, IsInner, IsConcentrator, IsLeafOf, Lawful}
use Rattle.pm_market.specs.State.{State, is_same_on, SameOn, cut_at, greatest_number, newest_number_of}
use Rattle.pm_market.specs.State.{part, knowledge, number, last_index, clearings, cleared_cut, addresses}
use Rattle.pm_market.specs.State.{addresses_of, no_changes}
use Rattle.pm_base.specs.Cuts.{Cut}
use Rattle.pm_market.specs.Moves.{Reached, Idle}
use Rattle.pm_market.specs.Sound.{Sound}
use Rattle.pm_market.specs.declared.moves.Move.TheVariants.{Learn, Publish, Clear, Pass}
use Rattle.pm_market.proofs.Tree.{leaf_node, leaf_of_itself, leaf_of_parent}
use Rattle.pm_market.proofs.Cuts.{not_same, same_from, is_same_from, entry_zero, newest_leaf, newest_inner, part_leaf, part_inner, known_at, greatest_from}
use Rattle.pm_laws.specs.Rest.{NothingUnanswered, Rests}
use Rattle.pm_laws.proofs.Facts.{last_cases, last_within, window_of}

-- after change 0, which is none, no device is a member
pub in_zero : (lists : Lists) (d : ℕ) → is_member lists d 0 ≡ false
unfolding is_member
in_zero lists d = refl

-- a clearing addresses a device exactly where it is a member at the cut's number
pub addresses_leaf : (lists : Lists) (cut : Cut) (x : ℕ) → IsLeaf lists x → addresses_of lists cut x ≡ is_member lists x (cut x)
unfolding addresses_of
addresses_leaf lists cut x leaf = cond-true (is_leaf lists x) (is_member lists x (cut x)) (not (is_same_on lists x cut no_changes)) leaf

-- a clearing addresses an inner node exactly where its cut is not all zeros on the node's leaves
pub addresses_inner : (lists : Lists) (cut : Cut) (x : ℕ) → IsInner lists x → addresses_of lists cut x ≡ not (is_same_on lists x cut no_changes)
unfolding addresses_of
addresses_inner lists cut x inner = cond-false (is_leaf lists x) (is_member lists x (cut x)) (not (is_same_on lists x cut no_changes)) inner

-- a cut that is all zeros on the leaves of a node does not address it
pub zeros_address_none : (lists : Lists) → Lawful lists → (cut : Cut) (x : ℕ) → SameOn lists x cut no_changes →
    addresses_of lists cut x ≡ true → ⊥
zeros_address_none lists law cut x same h =
    elim (cases_Bool (is_leaf lists x)) [
      | inl e ↦ both_ways (is_member lists x (cut x)) (ap (is_member lists x) (same x (leaf_of_itself lists law x e))
          ∙ in_zero lists x) (sym (addresses_leaf lists cut x e) ∙ h)
      | inr e ↦ both_ways (not (is_same_on lists x cut no_changes)) (ap not (is_same_from lists x cut no_changes same))
          (sym (addresses_inner lists cut x e) ∙ h)
    ]

-- a concentrator that it does not address has all zeros
not_addressed : (lists : Lists) → Lawful lists → (cut : Cut) (x : ℕ) → IsInner lists x → addresses_of lists cut x ≡ false →
    SameOn lists x cut no_changes
not_addressed lists law cut x inner h =
    elim (cases_Bool (is_same_on lists x cut no_changes)) [
      | inl e ↦ same_from lists law x cut no_changes e
      | inr e ↦ absurd (both_ways (addresses_of lists cut x) h (addresses_inner lists cut x inner ∙ ap not e))
    ]

addresses_up : (lists : Lists) → Lawful lists → (cut : Cut) (x : ℕ) → IsNode lists x → addresses_of lists cut x ≡ true →
    addresses_of lists cut (parent lists x) ≡ true
addresses_up lists law cut x node h =
    elim (cases_Bool (addresses_of lists cut (parent lists x))) [
      | inl e ↦ e
      | inr e ↦
          let same = not_addressed lists law cut (parent lists x) (law.inner x node) e in
          absurd (zeros_address_none lists law cut x (λ d leaf. same d (leaf_of_parent lists law x d leaf)) h)
    ]

-- a clearing that addresses a node has an index above 0
pub addressed_index : (lists : Lists) → Lawful lists → (s : State) (j x : ℕ) → addresses lists s j x ≡ true → 1 ≤ j
addressed_index lists law s j x h =
    elim (cases_eq j 0) [
      | inl e ↦ absurd (zeros_address_none lists law (cleared_cut s j) x (λ d leaf. ap (λ (k : ℕ). cleared_cut s k d) e
          ∙ ap (λ (a : Cut). a d) (entry_zero (s.published 0))) h)
      | inr n ↦ omega arith
    ]

-- what rest says of each kind of move

learnt_at_rest : (lists : Lists) (s : State) → Sound lists s → Rests lists s → (x : ℕ) → IsNode lists x → s.learnt x ≡ newest_number_of lists s x
learnt_at_rest lists s sound rest x node =
    elim (cases_lt (s.learnt x) (newest_number_of lists s x)) [
      | inl lt ↦ absurd (rest.learn x (newest_number_of lists s x) (node, lt, omega arith))
      | inr ge ↦ omega (arith, sound.learnt_within x node)
    ]

known_at_rest : (lists : Lists) → Lawful lists → (s : State) → Rests lists s → (c : ℕ) → IsConcentrator lists c →
    newest_number_of lists s c - number lists s c (cleared_cut s (last_index s c)) < window_size →
    SameOn lists c (knowledge lists s c) (part lists s c (newest_number_of lists s c))
known_at_rest lists law s rest c conc room =
    elim (cases_Bool (is_same_on lists c (knowledge lists s c) (part lists s c (newest_number_of lists s c)))) [
      | inl e ↦ same_from lists law c (knowledge lists s c) (part lists s c (newest_number_of lists s c)) e
      | inr e ↦ absurd (rest.publish c (newest_number_of lists s c + 1) (conc, e, room, refl))
    ]

cleared_at_rest : (lists : Lists) → Lawful lists → (s : State) → Rests lists s → SameOn lists 0 (knowledge lists s 0) (cleared_cut s (clearings s))
cleared_at_rest lists law s rest =
    elim (cases_Bool (is_same_on lists 0 (knowledge lists s 0) (cleared_cut s (clearings s)))) [
      | inl e ↦ same_from lists law 0 (knowledge lists s 0) (cleared_cut s (clearings s)) e
      | inr e ↦ absurd (rest.clear (clearings s + 1) (e, refl))
    ]

passed_at_rest : (lists : Lists) (s : State) → Sound lists s → Rests lists s → (x : ℕ) → IsNode lists x →
    NothingUnanswered lists s (parent lists x) → Reached s (parent lists x) (clearings s) → addresses lists s (clearings s) x ≡ true →
    last_index s x ≡ clearings s
passed_at_rest lists s sound rest x node answered came addressed =
    elim (cases_lt (last_index s x) (clearings s)) [
      | inl lt ↦ absurd (rest.pass x answered (node, came, lt, addressed))
      | inr ge ↦ omega (arith, last_within lists s sound x)
    ]

-- the claim at a node: the last clearing has its newest number, and was passed to it where it addresses it
record Current (lists : Lists) (s : State) (x : ℕ) : Type 0 where
  newest : SameOn lists x (cleared_cut s (clearings s)) (part lists s x (newest_number_of lists s x))
  passed : addresses lists s (clearings s) x ≡ true → last_index s x ≡ clearings s

-- nothing of a concentrator is unanswered then
current_answered : (lists : Lists) → Lawful lists → (s : State) → Sound lists s → (c : ℕ) → IsConcentrator lists c →
    Current lists s c → newest_number_of lists s c - number lists s c (cleared_cut s (last_index s c)) ≡ 0
current_answered lists law s sound c conc current =
    let len : ℕ = length (s.published c) in
    let top : part lists s c (newest_number_of lists s c) ≡ cut_at (s.published c) len =
    part_inner lists s.published c (newest_number_of lists s c) conc.2 ∙ ap (cut_at (s.published c)) (newest_inner lists s.counts s.published c conc.2) in
    elim (cases_Bool (addresses lists s (clearings s) c)) [
      | inl e ↦
          let at : last_index s c ≡ clearings s = current.passed e in
          let same : SameOn lists c (cut_at (s.published c) len) (cleared_cut s (clearings s)) =
          λ d leaf. sym (current.newest d leaf ∙ ap (λ (a : Cut). a d) top) in
          let most : len ≤ greatest_number lists (s.published c) c (cleared_cut s (clearings s)) len =
          greatest_from lists (s.published c) c (cleared_cut s (clearings s)) len len (omega arith) same in
          omega (
            arith,
            window_of lists s c (cleared_cut s (last_index s c)) conc.2,
            most,
            ap (λ (j : ℕ). greatest_number lists (s.published c) c (cleared_cut s j) len) at,
          )
      | inr e ↦
          let none = not_addressed lists law (cleared_cut s (clearings s)) c conc.2 e in
          elim (cases_eq len 0) [
            | inl empty ↦ omega (arith, window_of lists s c (cleared_cut s (last_index s c)) conc.2)
            | inr n ↦
                let rise = sound.published_rise c 0 len conc.2 (omega arith) (omega arith) in
                absurd (not_same lists c (cut_at (s.published c) 0) (cut_at (s.published c) len) rise.not_same (λ d leaf.
                ap (λ (a : Cut). a d) (entry_zero (s.published c)) ∙ sym (none d leaf) ∙ current.newest d leaf ∙ ap (λ (a : Cut). a d) top))
          ]
    ]

current_in : (lists : Lists) → Lawful lists → (s : State) → Sound lists s → Rests lists s → (bound x : ℕ) → x ≤ bound →
    IsNode lists x → Current lists s x
current_in lists law s sound rest zero x h node = absurd (omega arith)
current_in lists law s sound rest (suc bound) x h node =
    let learnt_is : s.learnt x ≡ newest_number_of lists s x = learnt_at_rest lists s sound rest x node in
    let at_parent : (d : ℕ) → IsLeafOf lists x d → knowledge lists s (parent lists x) d ≡ part lists s x (newest_number_of lists s x) d =
    λ d leaf. known_at lists law s.published s.learnt x d node.0 leaf ∙ ap (λ (k : ℕ). part lists s x k d) learnt_is in
    elim (cases_eq (parent lists x) 0) [
      | inl e ↦ record {
        newest = λ d leaf.
            sym (cleared_at_rest lists law s rest d (subst (λ (z : ℕ). IsLeafOf lists z d) e (leaf_of_parent lists law x d leaf)))
            ∙ ap (λ (z : ℕ). knowledge lists s z d) (sym e) ∙ at_parent d leaf;
        passed = λ addressed. passed_at_rest lists s sound rest x node (λ ne. absurd (ne e)) (inl (
          e,
          addressed_index lists law s
              (clearings s) x addressed,
          omega arith,
        )) addressed;
      }
      | inr n ↦
          let c : ℕ = parent lists x in
          let c_conc : IsConcentrator lists c = (omega arith, omega (arith, law.earlier x node, node.1), law.inner x node) in
          let above : Current lists s c = current_in lists law s sound rest bound c (omega (arith, law.earlier x node)) (c_conc.0, c_conc.1) in
          let room = current_answered lists law s sound c c_conc above in
          let heard = known_at_rest lists law s rest c c_conc (omega arith) in
          record {
            newest = λ d leaf.
                above.newest d (leaf_of_parent lists law x d leaf) ∙ sym (heard d (leaf_of_parent lists law x d leaf)) ∙ at_parent d leaf;
            passed = λ addressed.
                let last_is : last_index s c ≡ clearings s = above.passed (addresses_up lists law (cleared_cut s (clearings s)) x node addressed) in
                let one : 1 ≤ clearings s = addressed_index lists law s (clearings s) x addressed in
                let came : Contains (s.passed c) (clearings s) = elim (last_cases (s.passed c)) [
                  | inl w ↦ absurd (omega (arith, w.1))
                  | inr w ↦ subst (λ (j : ℕ). Contains (s.passed c) j) last_is w
                ] in
                passed_at_rest lists s sound rest x node (λ ne. room) (inr came) addressed;
          }
    ]

current : (lists : Lists) → Lawful lists → (s : State) → Sound lists s → Rests lists s → (x : ℕ) → IsNode lists x → Current lists s x
current lists law s sound rest x node = current_in lists law s sound rest x x (omega arith) node

-- at rest the last cleared cut is the counts
pub rest_counts : (lists : Lists) → Lawful lists → (s : State) → Sound lists s → Rests lists s → (d : ℕ) → IsLeaf lists d →
    cleared_cut s (clearings s) d ≡ s.counts d
rest_counts lists law s sound rest d leaf =
    (current lists law s sound rest d (leaf_node lists law d leaf)).newest d (leaf_of_itself lists law d leaf)
    ∙ part_leaf lists s.published d (newest_number_of lists s d) d leaf
    ∙ newest_leaf lists s.counts s.published d leaf

-- at rest each device that is a member was passed the last clearing
pub rest_passed : (lists : Lists) → Lawful lists → (s : State) → Sound lists s → Rests lists s → (d : ℕ) → IsLeaf lists d →
    is_member lists d (s.counts d) ≡ true →
    (1 ≤ clearings s) × (last_index s d ≡ clearings s)
rest_passed lists law s sound rest d leaf at =
    let addressed : addresses lists s (clearings s) d ≡ true =
    addresses_leaf lists (cleared_cut s (clearings s)) d leaf ∙ ap (is_member lists d) (rest_counts lists law s sound rest d leaf) ∙ at in
    (addressed_index lists law s (clearings s) d addressed, (current lists law s sound rest d (leaf_node lists law d leaf)).passed addressed)

-- at rest no number of a concentrator is unanswered
pub rest_window : (lists : Lists) → Lawful lists → (s : State) → Sound lists s → Rests lists s → (c : ℕ) → IsConcentrator lists c →
    newest_number_of lists s c - number lists s c (cleared_cut s (last_index s c)) ≡ 0
rest_window lists law s sound rest c conc = current_answered lists law s sound c conc (current lists law s sound rest c (conc.0, conc.1))

-- an idle state is at rest
pub idle_rests : (lists : Lists) (s : State) → Idle lists s → Rests lists s
idle_rests lists s idle = record {
  learn = λ x n. idle (Learn x n);
  publish = λ c n. idle (Publish c n);
  clear = λ j. idle (Clear j);
  pass = λ x answered. idle (Pass x (clearings s));
}

-- in an idle state the last cleared cut is the counts
pub quiet_counts : (lists : Lists) → Lawful lists → (s : State) → Sound lists s → Idle lists s → (d : ℕ) → IsLeaf lists d →
    cleared_cut s (clearings s) d ≡ s.counts d
quiet_counts lists law s sound idle = rest_counts lists law s sound (idle_rests lists s idle)

-- each device that is a member was passed the last clearing
pub quiet_passed : (lists : Lists) → Lawful lists → (s : State) → Sound lists s → Idle lists s → (d : ℕ) → IsLeaf lists d →
    is_member lists d (s.counts d) ≡ true → (1 ≤ clearings s) × (last_index s d ≡ clearings s)
quiet_passed lists law s sound idle = rest_passed lists law s sound (idle_rests lists s idle)

-- and no number of a concentrator is unanswered
pub quiet_window : (lists : Lists) → Lawful lists → (s : State) → Sound lists s → Idle lists s → (c : ℕ) → IsConcentrator lists c →
    newest_number_of lists s c - number lists s c (cleared_cut s (last_index s c)) ≡ 0
quiet_window lists law s sound idle = rest_window lists law s sound (idle_rests lists s idle)
