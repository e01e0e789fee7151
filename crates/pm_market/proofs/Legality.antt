-- The tests of the moves agree with what is legal.
use Rattle.std.proofs.Common.{◌≡◌, ℕ, zero, suc, ◌+◌, ◌-◌, ◌<◌, ◌≤◌, true, false, not, eqb, ltb, leb, ◌&&◌, inl, inr, List, []}
use Rattle.std.proofs.Common.{◌∷◌, length, get_or, sym, ◌∙◌, ap, arith}
use Rattle.std.specs.List.{Contains}
use Rattle.std.proofs.lemmas.Bool.{cases_lt, eqb-true, eq-eqb, ltb-true, leb-true, lt-ltb, le-leb, and_parts, and_from, or_cases, or_left, or_right, not-true}
use Rattle.std.proofs.lemmas.Bool.{not_from_false, both_ways}
use Rattle.pm_base.specs.Limits.{window_size}
use Rattle.pm_market.specs.Lists.{Lists, nodes, phases, parent, is_leaf, IsNode, end_count}
use Rattle.pm_market.specs.State.{State, all_to, is_same_on, knowledge, newest_number_of, part, number, last_index, clearings, cleared_cut, addresses}
use Rattle.pm_market.specs.Moves.{Reached, NodeLegal}
use Rattle.pm_market.specs.Legality.{is_one_of, is_node, has_reached, learn_is_legal, publish_is_legal, clear_is_legal, pass_is_legal, is_idle_at, is_idle}
use Rattle.pm_market.specs.Legality.{change_is_legal, is_legal}
use Rattle.pm_market.specs.declared.moves.Move.{Move}
use Rattle.pm_market.specs.declared.moves.Move.TheVariants.{Change, Learn, Publish, Clear, Pass}
use Rattle.pm_market.proofs.Tree.{leaf_past}
use Rattle.pm_market.proofs.Cuts.{all_to_at}

-- an index that passes the test is in the list
pub is_one_of_from : (xs : List ℕ) (j : ℕ) → is_one_of xs j ≡ true → Contains xs j
unfolding is_one_of
is_one_of_from [] j h = absurd (Rattle.std.proofs.lemmas.Bool.false≢true h)
is_one_of_from (x ∷ xs) j h =
    elim (or_cases (eqb x j) (is_one_of xs j) h) [
      | inl e ↦ (0, omega arith, eqb-true x j e)
      | inr e ↦ let r = is_one_of_from xs j e in (suc r.0, omega (arith, r.1), r.2)
    ]

-- an index that stands at some place of a list passes the test of being in it
pub is_one_of_at : (xs : List ℕ) (j k : ℕ) → k < length xs → get_or xs k j ≡ j → is_one_of xs j ≡ true
unfolding is_one_of
is_one_of_at [] j k lt e = absurd (omega arith)
is_one_of_at (x ∷ xs) j zero lt e = or_left (eqb x j) (is_one_of xs j) (eq-eqb x j e)
is_one_of_at (x ∷ xs) j (suc k) lt e = or_right (eqb x j) (is_one_of xs j) (is_one_of_at xs j k (omega arith) e)

-- a number that passes the test is that of a device or a concentrator
pub is_node_from : (lists : Lists) (x : ℕ) → is_node lists x ≡ true → IsNode lists x
is_node_from lists x h = let p = and_parts (leb 1 x) (leb x (nodes lists)) h in (leb-true 1 x p.0, leb-true x (nodes lists) p.1)

-- the number of a device or a concentrator passes the test
pub is_node_at : (lists : Lists) (x : ℕ) → IsNode lists x → is_node lists x ≡ true
is_node_at lists x node = and_from _ _ (le-leb 1 x node.0) (le-leb x (nodes lists) node.1)

-- a clearing that passes the test of having reached a node reached it
pub reached_from : (s : State) (y j : ℕ) → has_reached s y j ≡ true → Reached s y j
reached_from s y j h =
    elim (or_cases (eqb y 0 && leb 1 j && leb j (clearings s)) (is_one_of (s.passed y) j) h) [
      | inl e ↦
          let p = and_parts (eqb y 0 && leb 1 j) (leb j (clearings s)) e in
          let q = and_parts (eqb y 0) (leb 1 j) p.0 in
          inl (eqb-true y 0 q.0, leb-true 1 j q.1, leb-true j (clearings s) p.1)
      | inr e ↦ inr (is_one_of_from (s.passed y) j e)
    ]

-- a clearing that reached a node passes the test of having reached it
pub reached_at : (s : State) (y j : ℕ) → Reached s y j → has_reached s y j ≡ true
reached_at s y j (inl w) = or_left _ _ (and_from _ _ (and_from _ _ (eq-eqb y 0 w.0) (le-leb 1 j w.1)) (le-leb j (clearings s) w.2))
reached_at s y j (inr c) = or_right _ _ (is_one_of_at (s.passed y) j c.0 c.1 c.2)

-- each kind of move

-- a Learn that passes its test is legal
pub learn_from : (lists : Lists) (s : State) (x n : ℕ) → learn_is_legal lists s x n ≡ true → NodeLegal lists s (Learn x n)
unfolding learn_is_legal
learn_from lists s x n h =
    let p = and_parts (is_node lists x && ltb (s.learnt x) n) (leb n (newest_number_of lists s x)) h in
    let q = and_parts (is_node lists x) (ltb (s.learnt x) n) p.0 in
    (is_node_from lists x q.0, ltb-true (s.learnt x) n q.1, leb-true n (newest_number_of lists s x) p.1)

-- a legal Learn passes its test
pub learn_at : (lists : Lists) (s : State) (x n : ℕ) → NodeLegal lists s (Learn x n) → learn_is_legal lists s x n ≡ true
unfolding learn_is_legal
learn_at lists s x n h = and_from _ _ (and_from _ _ (is_node_at lists x h.0) (lt-ltb (s.learnt x) n h.1)) (le-leb n (newest_number_of lists s x) h.2)

-- a Publish that passes its test is legal
pub publish_from : (lists : Lists) (s : State) (c n : ℕ) → publish_is_legal lists s c n ≡ true → NodeLegal lists s (Publish c n)
unfolding publish_is_legal
publish_from lists s c n h =
    let a = and_parts
    (is_node lists c && not (is_leaf lists c) && not (is_same_on lists c (knowledge lists s c) (part lists s c (newest_number_of lists s c))) && ltb
    (newest_number_of lists s c - number lists s c (cleared_cut s (last_index s c))) window_size) (eqb n (newest_number_of lists s c + 1)) h in
    let b = and_parts (is_node lists c && not (is_leaf lists c) && not (is_same_on lists c (knowledge lists s c) (part lists s c (newest_number_of lists s c))))
    (ltb (newest_number_of lists s c - number lists s c (cleared_cut s (last_index s c))) window_size) a.0 in
    let d = and_parts (is_node lists c && not (is_leaf lists c))
    (not (is_same_on lists c (knowledge lists s c) (part lists s c (newest_number_of lists s c)))) b.0 in
    let e = and_parts (is_node lists c) (not (is_leaf lists c)) d.0 in
    let node = is_node_from lists c e.0 in (
      (node.0, node.1, not-true (is_leaf lists c) e.1),
      not-true (is_same_on lists c (knowledge lists s c) (part lists s c (newest_number_of lists s c))) d.1,
      ltb-true
          (newest_number_of lists s c - number lists s c (cleared_cut s (last_index s c))) window_size b.1,
      eqb-true n (newest_number_of lists s c + 1) a.1,
    )

-- a legal Publish passes its test
pub publish_at : (lists : Lists) (s : State) (c n : ℕ) → NodeLegal lists s (Publish c n) → publish_is_legal lists s c n ≡ true
unfolding publish_is_legal
publish_at lists s c n h =
    and_from _ _ (and_from _ _ (and_from _ _ (and_from _ _ (is_node_at lists c (h.0.0, h.0.1)) (not_from_false (is_leaf lists c) h.0.2))
    (not_from_false (is_same_on lists c (knowledge lists s c) (part lists s c (newest_number_of lists s c))) h.1))
    (lt-ltb (newest_number_of lists s c - number lists s c (cleared_cut s (last_index s c))) window_size h.2)) (eq-eqb n (newest_number_of lists s c + 1) h.3)

-- a Clear that passes its test is legal
pub clear_from : (lists : Lists) (s : State) (j : ℕ) → clear_is_legal lists s j ≡ true → NodeLegal lists s (Clear j)
unfolding clear_is_legal
clear_from lists s j h =
    let p = and_parts (not (is_same_on lists 0 (knowledge lists s 0) (cleared_cut s (clearings s)))) (eqb j (clearings s + 1)) h in
    (not-true (is_same_on lists 0 (knowledge lists s 0) (cleared_cut s (clearings s))) p.0, eqb-true j (clearings s + 1) p.1)

-- a legal Clear passes its test
pub clear_at : (lists : Lists) (s : State) (j : ℕ) → NodeLegal lists s (Clear j) → clear_is_legal lists s j ≡ true
unfolding clear_is_legal
clear_at lists s j h = and_from _ _ (not_from_false (is_same_on lists 0 (knowledge lists s 0) (cleared_cut s (clearings s))) h.0)
    (eq-eqb j (clearings s + 1) h.1)

-- a Pass that passes its test is legal
pub pass_from : (lists : Lists) (s : State) (x j : ℕ) → pass_is_legal lists s x j ≡ true → NodeLegal lists s (Pass x j)
unfolding pass_is_legal
pass_from lists s x j h =
    let a = and_parts (is_node lists x && has_reached s (parent lists x) j && ltb (last_index s x) j) (addresses lists s j x) h in
    let b = and_parts (is_node lists x && has_reached s (parent lists x) j) (ltb (last_index s x) j) a.0 in
    let d = and_parts (is_node lists x) (has_reached s (parent lists x) j) b.0 in
    (is_node_from lists x d.0, reached_from s (parent lists x) j d.1, ltb-true (last_index s x) j b.1, a.1)

-- a legal Pass passes its test
pub pass_at : (lists : Lists) (s : State) (x j : ℕ) → NodeLegal lists s (Pass x j) → pass_is_legal lists s x j ≡ true
unfolding pass_is_legal
pass_at lists s x j h = and_from _ _
    (and_from _ _ (and_from _ _ (is_node_at lists x h.0) (reached_at s (parent lists x) j h.1)) (lt-ltb (last_index s x) j h.2)) h.3

-- in a state that passes the test of idleness each node passes its own, and the next Clear fails its test
pub idle_parts : (lists : Lists) (s : State) → is_idle lists s ≡ true → ((x : ℕ) → IsNode lists x → is_idle_at lists s x ≡ true)
    × (clear_is_legal lists s (clearings s + 1) ≡ false)
unfolding is_idle
idle_parts lists s h =
    let p = and_parts (all_to (nodes lists) (is_idle_at lists s)) (not (clear_is_legal lists s (clearings s + 1))) h in (
      λ x node. all_to_at (nodes lists) (is_idle_at lists s) p.0 x node.0 node.1,
      not-true (clear_is_legal lists s (clearings s + 1)) p.1,
    )

-- at a node that tests idle the Learn of its newest, its next Publish and each clearing's Pass fail their tests
pub at_parts : (lists : Lists) (s : State) (x : ℕ) → is_idle_at lists s x ≡ true →
    (learn_is_legal lists s x (newest_number_of lists s x) ≡ false) × (publish_is_legal lists s x (newest_number_of lists s x + 1) ≡ false)
    × ((j : ℕ) → 1 ≤ j → j ≤ clearings s → pass_is_legal lists s x j ≡ false)
unfolding is_idle_at
at_parts lists s x h =
    let a = and_parts (not (learn_is_legal lists s x (newest_number_of lists s x)) && not (publish_is_legal lists s x (newest_number_of lists s x + 1)))
    (all_to (clearings s) (λ j. not (pass_is_legal lists s x j))) h in
    let b = and_parts (not (learn_is_legal lists s x (newest_number_of lists s x))) (not (publish_is_legal lists s x (newest_number_of lists s x + 1))) a.0 in (
      not-true (learn_is_legal lists s x (newest_number_of lists s x)) b.0,
      not-true (publish_is_legal lists s x (newest_number_of lists s x + 1)) b.1,
      λ j one le. not-true (pass_is_legal lists s x j) (all_to_at (clearings s) (λ j. not (pass_is_legal lists s x j)) a.1 j one le),
    )

-- a Change that passes its test is the next one of a device and belongs to the open phase
pub change_from : (lists : Lists) (s : State) (d n : ℕ) → change_is_legal lists s d n ≡ true → (is_leaf lists d ≡ true)
    × (s.closed < phases lists) × (n ≡ s.counts d + 1) × (n ≤ end_count lists (s.closed + 1) d)
unfolding change_is_legal
change_from lists s d n h =
    let a = and_parts (is_leaf lists d && ltb s.closed (phases lists) && eqb n (s.counts d + 1)) (leb n (end_count lists (s.closed + 1) d)) h in
    let b = and_parts (is_leaf lists d && ltb s.closed (phases lists)) (eqb n (s.counts d + 1)) a.0 in
    let c = and_parts (is_leaf lists d) (ltb s.closed (phases lists)) b.0 in
    (c.0, ltb-true s.closed (phases lists) c.1, eqb-true n (s.counts d + 1) b.1, leb-true n (end_count lists (s.closed + 1) d) a.1)

-- a legal move of each kind
pub legal_change : (lists : Lists) (s : State) (m : Move) (d n : ℕ) → m ≡ Change d n → is_legal lists s m ≡ true →
    change_is_legal lists s d n ≡ true
unfolding is_legal
legal_change lists s m d n e h = sym (ap (is_legal lists s) e) ∙ h

-- a move that is a Learn and passes the test of moves passes the test of a Learn
pub legal_learn : (lists : Lists) (s : State) (m : Move) (x n : ℕ) → m ≡ Learn x n → is_legal lists s m ≡ true → learn_is_legal lists s x n ≡ true
unfolding is_legal
legal_learn lists s m x n e h = sym (ap (is_legal lists s) e) ∙ h

-- a move that is a Publish and passes the test of moves passes the test of a Publish
pub legal_publish : (lists : Lists) (s : State) (m : Move) (c n : ℕ) → m ≡ Publish c n → is_legal lists s m ≡ true →
    publish_is_legal lists s c n ≡ true
unfolding is_legal
legal_publish lists s m c n e h = sym (ap (is_legal lists s) e) ∙ h

-- a move that is a Pass and passes the test of moves passes the test of a Pass
pub legal_pass : (lists : Lists) (s : State) (m : Move) (x j : ℕ) → m ≡ Pass x j → is_legal lists s m ≡ true → pass_is_legal lists s x j ≡ true
unfolding is_legal
legal_pass lists s m x j e h = sym (ap (is_legal lists s) e) ∙ h

-- a device is one of the nodes
pub leaf_within : (lists : Lists) (d : ℕ) → length lists.leaves ≡ length lists.parents → is_leaf lists d ≡ true → d ≤ nodes lists
leaf_within lists d same leaf =
    elim (cases_lt (nodes lists) d) [
      | inl past ↦ absurd (both_ways (is_leaf lists d) (leaf_past lists d (omega (arith, same))) leaf)
      | inr within ↦ within
    ]
