-- What is due to each node, before and after a move.
use Rattle.std.proofs.Common.{◌≡◌, ◌≢◌, ℕ, zero, suc, ◌+◌, ◌<◌, ◌≤◌, Bool, true, false, not, eqb, leb, ltb, ◌&&◌}
use Rattle.std.proofs.Common.{◌⊎◌, inl, inr, List, [], ◌∷◌, ◌++◌, length, get_or, refl, sym, ◌∙◌, ap, subst, arith}
use Rattle.std.proofs.lemmas.Bool.{cases_eq, cases_lt, cases_Bool, cond-true, cond-false, eqb-true, eq-eqb, ltb-true, lt-ltb, and_parts, and_from, or_cases}
use Rattle.std.proofs.lemmas.Bool.{or_left, or_right, leb-true, le-leb, not-true, not_from_false, both_ways, false_from_ne_true}
use Rattle.pm_base.specs.Cuts.{Cut}
use Rattle.pm_market.specs.Lists.{Lists, nodes, parent, IsNode}
use Rattle.pm_market.specs.State.{State, update, all_to, cut_at, last_index, clearings, cleared_cut, addresses, addresses_of}
use Rattle.pm_market.specs.Legality.{is_one_of, is_node, has_reached, pass_is_legal}
use Rattle.pm_market.specs.Due.{KnowsDue, AreParents, due_after}
use Rattle.pm_market.proofs.Cuts.{pushed_same, pushed_other, pushed_cut_at_kept, pushed_length_same, cut_at_new, all_to_at, all_to_from}
use Rattle.pm_market.proofs.Legality.{reached_from, reached_at, is_one_of_at, is_node_from, is_node_at, pass_from, pass_at}
use Rattle.pm_market.proofs.Loops.{same_tests}

-- an index joins a list of indices

one_of_push : (xs : List ℕ) (i j : ℕ) → is_one_of (xs ++ i ∷ []) j ≡ true → (is_one_of xs j ≡ true) ⊎ (i ≡ j)
unfolding is_one_of
one_of_push [] i j h =
    elim (or_cases (eqb i j) (is_one_of [] j) h) [
      | inl e ↦ inr (eqb-true i j e)
      | inr e ↦ inl e
    ]
one_of_push (x ∷ xs) i j h =
    elim (or_cases (eqb x j) (is_one_of (xs ++ i ∷ []) j) h) [
      | inl e ↦ inl (or_left (eqb x j) (is_one_of xs j) e)
      | inr e ↦ elim (one_of_push xs i j e) [
        | inl old ↦ inl (or_right (eqb x j) (is_one_of xs j) old)
        | inr new ↦ inr new
      ]
    ]

one_of_old : (xs : List ℕ) (i j : ℕ) → is_one_of xs j ≡ true → is_one_of (xs ++ i ∷ []) j ≡ true
unfolding is_one_of
one_of_old [] i j h = absurd (Rattle.std.proofs.lemmas.Bool.false≢true h)
one_of_old (x ∷ xs) i j h =
    elim (or_cases (eqb x j) (is_one_of xs j) h) [
      | inl e ↦ or_left (eqb x j) (is_one_of (xs ++ i ∷ []) j) e
      | inr e ↦ or_right (eqb x j) (is_one_of (xs ++ i ∷ []) j) (one_of_old xs i j e)
    ]

not_one_of : (j : ℕ) → is_one_of [] j ≡ true → ⊥
unfolding is_one_of
not_one_of j h = Rattle.std.proofs.lemmas.Bool.false≢true h

one_of_last : (xs : List ℕ) (i : ℕ) → is_one_of (xs ++ i ∷ []) i ≡ true
unfolding is_one_of
one_of_last [] i = or_left (eqb i i) (is_one_of [] i) (eq-eqb i i refl)
one_of_last (x ∷ xs) i = or_right (eqb x i) (is_one_of (xs ++ i ∷ []) i) (one_of_last xs i)

-- the greatest index once a clearing reached a node

after_cases : (lists : Lists) (due : ℕ → ℕ) (y j : ℕ) (cut : Cut) (x : ℕ) →
    ((due_after lists due y j cut x ≡ j) × (parent lists x ≡ y) × (addresses_of lists cut x ≡ true)) ⊎ (due_after lists due y j cut x ≡ due x)
after_cases lists due y j cut x =
    elim (cases_Bool (ltb (due x) j && eqb (parent lists x) y && addresses_of lists cut x)) [
      | inl e ↦
          let p = and_parts (ltb (due x) j && eqb (parent lists x) y) (addresses_of lists cut x) e in
          let q = and_parts (ltb (due x) j) (eqb (parent lists x) y) p.0 in
          inl (cond-true _ j (due x) e, eqb-true (parent lists x) y q.1, p.1)
      | inr e ↦ inr (cond-false _ j (due x) e)
    ]

after_le : (lists : Lists) (due : ℕ → ℕ) (y j : ℕ) (cut : Cut) (x : ℕ) → due x ≤ due_after lists due y j cut x
after_le lists due y j cut x =
    elim (cases_Bool (ltb (due x) j && eqb (parent lists x) y && addresses_of lists cut x)) [
      | inl e ↦
          let p = and_parts (ltb (due x) j && eqb (parent lists x) y) (addresses_of lists cut x) e in
          let q = and_parts (ltb (due x) j) (eqb (parent lists x) y) p.0 in
          omega (arith, cond-true _ j (due x) e, ltb-true (due x) j q.0)
      | inr e ↦ omega (arith, cond-false _ j (due x) e)
    ]

after_at : (lists : Lists) (due : ℕ → ℕ) (y j : ℕ) (cut : Cut) (x : ℕ) → parent lists x ≡ y → addresses_of lists cut x ≡ true →
    j ≤ due_after lists due y j cut x
after_at lists due y j cut x child addressed =
    elim (cases_lt (due x) j) [
      | inl lt ↦ omega (arith, cond-true _ j (due x) (and_from _ _ (and_from _ _ (lt-ltb (due x) j lt) (eq-eqb (parent lists x) y child)) addressed))
      | inr ge ↦ omega (arith, ge, after_le lists due y j cut x)
    ]

-- of the nodes alone is it said
pub knows_same : (lists : Lists) (s : State) (due due' : ℕ → ℕ) → ((x : ℕ) → x ≤ nodes lists → due' x ≡ due x) →
    KnowsDue lists s due → KnowsDue lists s due'
knows_same lists s due due' same knows = record {
  passed_made = knows.passed_made;
  reached = λ x node one. subst (λ (j : ℕ). has_reached s (parent lists x) j ≡ true) (sym (same x node.1))
      (knows.reached x node (omega (arith, one, same x node.1)));
  addressed = λ x node one. subst (λ (j : ℕ). addresses lists s j x ≡ true) (sym (same x node.1))
      (knows.addressed x node (omega (arith, one, same x node.1)));
  greatest = λ x j node reached addressed. omega (arith, knows.greatest x j node reached addressed, same x node.1);
}

-- what reached a node was made
pub reached_made : (lists : Lists) (s : State) (due : ℕ → ℕ) → KnowsDue lists s due → (y j : ℕ) → has_reached s y j ≡ true → j ≤ clearings s
reached_made lists s due knows y j h =
    elim (reached_from s y j h) [
      | inl top ↦ top.2
      | inr among ↦ knows.passed_made y j (is_one_of_at (s.passed y) j among.0 among.1 among.2)
    ]

-- the auctioneer clears
module _ (lists : Lists) (s : State) (due : ℕ → ℕ) (cut : Cut) (knows : KnowsDue lists s due) where
  abbrev cleared_next : State
  cleared_next = record s { published = update s.published 0 (s.published 0 ++ cut ∷ []) }

  abbrev next_index : ℕ
  next_index = clearings s + 1

  one_more : clearings cleared_next ≡ clearings s + 1
  one_more = pushed_length_same s.published 0 cut

  address_kept : (x j : ℕ) → j ≤ clearings s → addresses lists cleared_next j x ≡ addresses lists s j x
  address_kept x j old = ap (λ (a : Cut). addresses_of lists a x) (pushed_cut_at_kept s.published 0 cut 0 j (λ e. old))

  address_new : (x j : ℕ) → j ≡ clearings s + 1 → addresses lists cleared_next j x ≡ addresses_of lists cut x
  address_new x j e =
      ap (λ (a : Cut). addresses_of lists a x) (ap (λ (l : List Cut). cut_at l j) (pushed_same s.published 0 cut) ∙ cut_at_new (s.published 0) cut j e)

  reach_kept : (y j : ℕ) → has_reached s y j ≡ true → has_reached cleared_next y j ≡ true
  reach_kept y j h =
      reached_at cleared_next y j (elim (reached_from s y j h) [
        | inl top ↦ inl (top.0, top.1, omega (arith, top.2, one_more))
        | inr among ↦ inr among
      ])

  old_within : (x j : ℕ) → IsNode lists x → j ≤ clearings s → has_reached s (parent lists x) j ≡ true →
      addresses lists cleared_next j x ≡ true → j ≤ due_after lists due 0 next_index cut x
  old_within x j node old reached addressed =
      omega (arith, knows.greatest x j node reached (sym (address_kept x j old) ∙ addressed), after_le lists due 0 next_index cut x)

  greatest_cleared : (x j : ℕ) → IsNode lists x → has_reached cleared_next (parent lists x) j ≡ true →
      addresses lists cleared_next j x ≡ true → j ≤ due_after lists due 0 next_index cut x
  greatest_cleared x j node reached addressed =
      elim (reached_from cleared_next (parent lists x) j reached) [
        | inl top ↦ elim (cases_lt (clearings s) j) [
          | inl above ↦
              let here : j ≡ clearings s + 1 = omega (arith, top.2, one_more, above) in
              omega (arith, here, after_at lists due 0 next_index cut x top.0 (sym (address_new x j here) ∙ addressed))
          | inr old ↦ old_within x j node old (reached_at s (parent lists x) j (inl (top.0, top.1, old))) addressed
        ]
        | inr among ↦
            old_within x j node (knows.passed_made (parent lists x) j
            (is_one_of_at (s.passed (parent lists x)) j among.0 among.1 among.2)) (reached_at s (parent lists x) j (inr among)) addressed
      ]

  -- once the auctioneer clears a cut, what is due is what `due_after` says for the next index at node 0
  pub knows_cleared : KnowsDue lists (record s { published = update s.published 0 (s.published 0 ++ cut ∷ []) })
      (due_after lists due 0 (clearings s + 1) cut)
  knows_cleared = record {
    passed_made = λ x j among. omega (arith, knows.passed_made x j among, one_more);
    reached = λ x node one. elim (after_cases lists due 0 next_index cut x) [
      | inl new ↦ subst (λ (j : ℕ). has_reached cleared_next (parent lists x) j ≡ true) (sym new.0)
          (reached_at cleared_next (parent lists x) next_index (inl (new.1, omega arith, omega (arith, one_more))))
      | inr old ↦ subst (λ (j : ℕ). has_reached cleared_next (parent lists x) j ≡ true) (sym old)
          (reach_kept (parent lists x) (due x) (knows.reached x node (omega (arith, one, old))))
    ];
    addressed = λ x node one. elim (after_cases lists due 0 next_index cut x) [
      | inl new ↦ subst (λ (j : ℕ). addresses lists cleared_next j x ≡ true) (sym new.0) (address_new x next_index refl ∙ new.2)
      | inr old ↦
          let some : 1 ≤ due x = omega (arith, one, old) in
          let made : due x ≤ clearings s = reached_made lists s due knows (parent lists x) (due x) (knows.reached x node some) in
          subst (λ (j : ℕ). addresses lists cleared_next j x ≡ true) (sym old) (address_kept x (due x) made ∙ knows.addressed x node some)
    ];
    greatest = greatest_cleared;
  }

-- a clearing is passed to a node
module _ (lists : Lists) (s : State) (due : ℕ → ℕ) (y i : ℕ) (made : i ≤ clearings s) (knows : KnowsDue lists s due) where
  abbrev passed_next : State
  passed_next = record s { passed = update s.passed y (s.passed y ++ i ∷ []) }

  one_of_cases : (z j : ℕ) → is_one_of (passed_next.passed z) j ≡ true → (is_one_of (s.passed z) j ≡ true) ⊎ ((z ≡ y) × (j ≡ i))
  one_of_cases z j h =
      elim (cases_eq z y) [
        | inl same ↦ elim (one_of_push (s.passed y) i j
            (sym (ap (λ (l : List ℕ). is_one_of l j) (ap passed_next.passed same ∙ pushed_same s.passed y i)) ∙ h)) [
              | inl old ↦ inl (ap (λ (w : ℕ). is_one_of (s.passed w) j) same ∙ old)
              | inr new ↦ inr (same, sym new)
            ]
        | inr other ↦ inl (sym (ap (λ (l : List ℕ). is_one_of l j) (pushed_other s.passed y i z other)) ∙ h)
      ]

  reach_cases : (z j : ℕ) → has_reached passed_next z j ≡ true → (has_reached s z j ≡ true) ⊎ ((z ≡ y) × (j ≡ i))
  reach_cases z j h =
      elim (or_cases (eqb z 0 && leb 1 j && leb j (clearings s)) (is_one_of (passed_next.passed z) j) h) [
        | inl top ↦ inl (or_left _ _ top)
        | inr among ↦ elim (one_of_cases z j among) [
          | inl old ↦ inl (or_right _ _ old)
          | inr new ↦ inr new
        ]
      ]

  one_of_still : (z j : ℕ) → is_one_of (s.passed z) j ≡ true → is_one_of (passed_next.passed z) j ≡ true
  one_of_still z j h =
      elim (cases_eq z y) [
        | inl same ↦ ap (λ (l : List ℕ). is_one_of l j) (ap passed_next.passed same ∙ pushed_same s.passed y i)
            ∙ one_of_old (s.passed y) i j (sym (ap (λ (w : ℕ). is_one_of (s.passed w) j) same) ∙ h)
        | inr other ↦ ap (λ (l : List ℕ). is_one_of l j) (pushed_other s.passed y i z other) ∙ h
      ]

  reach_still : (z j : ℕ) → has_reached s z j ≡ true → has_reached passed_next z j ≡ true
  reach_still z j h =
      elim (or_cases (eqb z 0 && leb 1 j && leb j (clearings s)) (is_one_of (s.passed z) j) h) [
        | inl top ↦ or_left _ _ top
        | inr among ↦ or_right _ _ (one_of_still z j among)
      ]

  reach_here : (z j : ℕ) → z ≡ y → j ≡ i → has_reached passed_next z j ≡ true
  reach_here z j same here =
      or_right _ _ (ap (is_one_of (passed_next.passed z)) here
      ∙ ap (λ (l : List ℕ). is_one_of l i) (ap passed_next.passed same ∙ pushed_same s.passed y i) ∙ one_of_last (s.passed y) i)

  made_next : (x j : ℕ) → is_one_of (passed_next.passed x) j ≡ true → j ≤ clearings s
  made_next x j among =
      elim (one_of_cases x j among) [
        | inl old ↦ knows.passed_made x j old
        | inr new ↦ omega (arith, new.1, made)
      ]

  -- once a clearing that was made is passed to y, what is due is what `due_after` says for it at y
  pub knows_passed : KnowsDue lists (record s { passed = update s.passed y (s.passed y ++ i ∷ []) }) (due_after lists due y i (cleared_cut s i))
  knows_passed = record {
    passed_made = made_next;
    reached = λ x node one. elim (after_cases lists due y i (cleared_cut s i) x) [
      | inl new ↦ reach_here (parent lists x) (due_after lists due y i (cleared_cut s i) x) new.1 new.0
      | inr old ↦ subst (λ (j : ℕ). has_reached passed_next (parent lists x) j ≡ true) (sym old)
          (reach_still (parent lists x) (due x) (knows.reached x node (omega (arith, one, old))))
    ];
    addressed = λ x node one. elim (after_cases lists due y i (cleared_cut s i) x) [
      | inl new ↦ subst (λ (j : ℕ). addresses lists s j x ≡ true) (sym new.0) new.2
      | inr old ↦ subst (λ (j : ℕ). addresses lists s j x ≡ true) (sym old) (knows.addressed x node (omega (arith, one, old)))
    ];
    greatest = λ x j node reached addressed. elim (reach_cases (parent lists x) j reached) [
      | inl old ↦ omega (arith, knows.greatest x j node old addressed, after_le lists due y i (cleared_cut s i) x)
      | inr new ↦
          omega (arith, new.1, after_at lists due y i (cleared_cut s i) x new.0 (sym (ap (λ (k : ℕ). addresses lists s k x) new.1) ∙ addressed))
    ];
  }

  -- nothing is due by a pass to a node without children
  pub knows_passed_last : ((x : ℕ) → IsNode lists x → parent lists x ≢ y) →
      KnowsDue lists (record s { passed = update s.passed y (s.passed y ++ i ∷ []) }) due
  knows_passed_last childless = record {
    passed_made = made_next;
    reached = λ x node one. reach_still (parent lists x) (due x) (knows.reached x node one);
    addressed = knows.addressed;
    greatest = λ x j node reached addressed. elim (reach_cases (parent lists x) j reached) [
      | inl old ↦ knows.greatest x j node old addressed
      | inr new ↦ absurd (childless x node new.0)
    ];
  }

-- where nothing later than the last price is due, no pass is legal
pub none_passes : (lists : Lists) (s : State) (due : ℕ → ℕ) → KnowsDue lists s due → (x j : ℕ) → due x ≤ last_index s x →
    pass_is_legal lists s x j ≡ false
none_passes lists s due knows x j old =
    false_from_ne_true (pass_is_legal lists s x j) (λ e.
    let legal = pass_from lists s x j e in
    absurd (omega (arith, old, legal.2, knows.greatest x j legal.0 (reached_at s (parent lists x) j legal.1) legal.3)))

-- what is due and later than the last price may be passed
pub due_passes : (lists : Lists) (s : State) (due : ℕ → ℕ) → KnowsDue lists s due → (x : ℕ) → IsNode lists x → last_index s x < due x →
    (due x ≤ clearings s) × (pass_is_legal lists s x (due x) ≡ true)
due_passes lists s due knows x node later =
    let some : 1 ≤ due x = omega (arith, later) in
    let reached = knows.reached x node some in (
      reached_made lists s due knows (parent lists x) (due x) reached,
      pass_at lists s x (due x) (node, reached_from s (parent lists x) (due x) reached, later, knows.addressed x node some),
    )

-- no pass is legal to what is no node
pub no_pass_outside : (lists : Lists) (s : State) (x : ℕ) → is_node lists x ≡ false →
    all_to (clearings s) (λ j. not (pass_is_legal lists s x j)) ≡ true
no_pass_outside lists s x none =
    all_to_from (clearings s) (λ j. not (pass_is_legal lists s x j)) (λ j one le. ap not (false_from_ne_true (pass_is_legal lists s x j) (λ legal.
    both_ways (is_node lists x) none (is_node_at lists x (pass_from lists s x j legal).0))))

-- whether no pass to a node is legal
pub no_pass_is : (lists : Lists) (s : State) (due : ℕ → ℕ) → KnowsDue lists s due → (x : ℕ) → is_node lists x ≡ true →
    leb (due x) (last_index s x) ≡ all_to (clearings s) (λ j. not (pass_is_legal lists s x j))
no_pass_is lists s due knows x node =
    let none : ℕ → Bool = λ j. not (pass_is_legal lists s x j) in
    same_tests (leb (due x) (last_index s x)) (all_to (clearings s) none)
    (λ e. all_to_from (clearings s) none (λ j one le. ap not (none_passes lists s due knows x j (leb-true (due x) (last_index s x) e))))
    (λ e. elim (cases_lt (last_index s x) (due x)) [
      | inr old ↦ le-leb (due x) (last_index s x) old
      | inl later ↦
          let legal = due_passes lists s due knows x (is_node_from lists x node) later in
          absurd (both_ways (pass_is_legal lists s x (due x)) (not-true _ (all_to_at (clearings s) none e (due x) (omega (arith, later)) legal.0)) legal.1)
    ])

-- the start, where nothing is due
pub knows_start : (lists : Lists) (s : State) (due : ℕ → ℕ) → s.published 0 ≡ [] → ((x : ℕ) → s.passed x ≡ []) →
    ((x : ℕ) → due x ≡ 0) → KnowsDue lists s due
knows_start lists s due none_cleared none_passed none_due =
    let none_among : (x j : ℕ) → is_one_of (s.passed x) j ≡ true → ⊥ =
    λ x j among. not_one_of j (sym (ap (λ (l : List ℕ). is_one_of l j) (none_passed x)) ∙ among) in
    let none_made : clearings s ≡ 0 = ap length none_cleared in record {
      passed_made = λ x j among. absurd (none_among x j among);
      reached = λ x node one. absurd (omega (arith, one, none_due x));
      addressed = λ x node one. absurd (omega (arith, one, none_due x));
      greatest = λ x j node reached addressed. elim (reached_from s (parent lists x) j reached) [
        | inl top ↦ absurd (omega (arith, top.1, top.2, none_made))
        | inr among ↦ absurd (none_among (parent lists x) j (is_one_of_at (s.passed (parent lists x)) j among.0 among.1 among.2))
      ];
    }

-- what is not marked is no parent
pub childless_from : (lists : Lists) (marks : List Bool) (y : ℕ) → AreParents lists.parents marks → get_or marks y true ≡ false →
    (x : ℕ) → IsNode lists x → parent lists x ≢ y
unfolding parent
childless_from lists marks y marked none zero node e = absurd (omega (arith, node.0))
childless_from lists marks y marked none (suc at) node e =
    both_ways (get_or marks y true) none (ap (λ (z : ℕ). get_or marks z true) (sym e) ∙ marked at (omega (arith, node.1)))
