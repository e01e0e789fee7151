-- A node is passed, one after the other, the clearings up to one index that pass a test and are later than its last one.
use Rattle.std.proofs.Common.{◌≡◌, ◌∙◌, sym, ap, subst, ℕ, zero, suc, ◌<◌, ◌≤◌, Bool, true, ltb, ◌&&◌, ◌⊎◌, inl, inr}
use Rattle.std.proofs.Common.{List, [], ◌∷◌, ◌++◌, refl, arith}
use Rattle.std.proofs.lemmas.Bool.{cases_eq, cases_Bool, and_parts, and_from, ltb-true, lt-ltb, both_ways}
use Rattle.std.specs.List.{Contains}
use Rattle.pm_market.specs.Lists.{Lists, parent, IsNode, Lawful}
use Rattle.pm_market.specs.State.{State, update, last_of, last_index, addresses}
use Rattle.pm_market.specs.Moves.{step, Legal, LegalFrom, after_from, Reached}
use Rattle.pm_market.specs.Sound.{Sound}
use Rattle.pm_market.specs.declared.moves.Move.{Move}
use Rattle.pm_market.specs.declared.moves.Move.TheVariants.{Pass}
use Rattle.pm_market.proofs.Cuts.{updated_same, updated_other}
use Rattle.pm_laws.specs.Due.{is_due}
use Rattle.pm_laws.proofs.Facts.{contains_within, contains_push, contains_more, contains_last, last_push, last_cases}
use Rattle.pm_laws.proofs.Kept.{sound_after_from}
use Rattle.pm_laws.proofs.Order.{after_append, legal_append}
use Rattle.pm_laws.proofs.MoveLaws.{due_parts, due_from}

-- the moves that pass to x each clearing up to k that passes the test and is later than the last one passed to x
pub record Caught (lists : Lists) (s : State) (x : ℕ) (test : ℕ → Bool) (k : ℕ) : Type 0 where
  -- which indices were passed to each node then
  pub passed : ℕ → List ℕ
  -- the moves, which are legal
  pub moves : List Move
  pub legal : LegalFrom lists s moves
  -- they lead to the state with just these passed
  pub ends : after_from lists s moves ≡ record s { passed = passed }
  -- to the other nodes nothing more was passed
  pub others : (y : ℕ) → (y ≡ x → ⊥) → passed y ≡ s.passed y
  -- what was passed to x still is, and what is new is later than its last one and at most k
  pub old : (i : ℕ) → Contains (s.passed x) i → Contains (passed x) i
  pub new : (i : ℕ) → Contains (passed x) i → Contains (s.passed x) i ⊎ ((last_index s x < i) × (i ≤ k))
  -- each index that passes the test was passed, and the last one is at most k or the old one
  pub all : (i : ℕ) → test i ≡ true → last_index s x < i → i ≤ k → Contains (passed x) i
  pub top : (last_of (passed x) ≤ k) ⊎ (last_of (passed x) ≡ last_index s x)
  -- where k is not later than the last one nothing moves
  pub none : k ≤ last_index s x → passed ≡ s.passed

module _ (lists : Lists) (s : State) (x : ℕ) (node : IsNode lists x) (test : ℕ → Bool)
    (fits : (i : ℕ) → test i ≡ true → is_due lists s x i ≡ true) (earlier : parent lists x < x) where
  -- a node catches up with the clearings that are due to it
  pub catching : (k : ℕ) → Caught lists s x test k
  catching zero = record {
    passed = s.passed;
    moves = [];
    legal = tt;
    ends = refl;
    others = λ y ne. refl;
    old = λ i c. c;
    new = λ i c. inl c;
    all = λ i e lt le. absurd (omega arith);
    top = inr refl;
    none = λ le. refl;
  }
  catching (suc k) =
      let before = catching k in
      elim (cases_Bool (test (suc k) && ltb (last_index s x) (suc k))) [
        | inl e ↦
            let parts = and_parts (test (suc k)) (ltb (last_index s x) (suc k)) e in
            let lt : last_index s x < suc k = ltb-true (last_index s x) (suc k) parts.1 in
            let here : State = record s { passed = before.passed } in
            let m : Move = Pass x (suc k) in
            let due = due_parts lists s x (suc k) (fits (suc k) parts.0) in
            let came : Reached here (parent lists x) (suc k) = elim due.0 [
              | inl root ↦ inl root
              | inr among ↦ inr (subst (λ (l : List ℕ). Contains l (suc k)) (sym (before.others (parent lists x) (λ e. omega (arith, earlier, e)))) among)
            ] in
            let below : last_of (before.passed x) < suc k = elim before.top [
              | inl w ↦ omega arith
              | inr w ↦ omega (arith, w, lt)
            ] in
            let legal : Legal lists here m = (node, came, below, due.1) in
            let more : ℕ → List ℕ = update before.passed x (before.passed x ++ suc k ∷ []) in
            let same : more x ≡ before.passed x ++ suc k ∷ [] = updated_same before.passed x (before.passed x ++ suc k ∷ []) in
            let P : State → Type 0 = λ t. LegalFrom lists t (m ∷ []) in
            record {
              passed = more;
              moves = before.moves ++ m ∷ [];
              legal = legal_append lists before.moves (m ∷ []) s before.legal (subst P (sym before.ends) (legal, tt));
              ends = after_append lists before.moves (m ∷ []) s ∙ ap (λ (t : State). step lists t m) before.ends;
              others = λ y ne. updated_other before.passed x (before.passed x ++ suc k ∷ []) y ne ∙ before.others y ne;
              old = λ i c. subst (λ (l : List ℕ). Contains l i) (sym same) (contains_more (before.passed x) (suc k) i (before.old i c));
              new = λ i c. elim (contains_push (before.passed x) (suc k) i (subst (λ (l : List ℕ). Contains l i) same c)) [
                | inl was ↦ elim (before.new i was) [
                  | inl w ↦ inl w
                  | inr w ↦ inr (w.0, omega (arith, w.1))
                ]
                | inr is ↦ inr (omega (arith, is, lt), omega (arith, is))
              ];
              all = λ i passes above le. subst (λ (l : List ℕ). Contains l i) (sym same) (elim (cases_eq i (suc k)) [
                | inl is ↦ subst (λ (z : ℕ). Contains (before.passed x ++ suc k ∷ []) z) (sym is) (contains_last (before.passed x) (suc k))
                | inr ne ↦ contains_more (before.passed x) (suc k) i (before.all i passes above (omega arith))
              ]);
              top = inl (omega (arith, ap last_of same, last_push (before.passed x) (suc k)));
              none = λ le. absurd (omega (arith, le, lt));
            }
        | inr e ↦ record {
          passed = before.passed;
          moves = before.moves;
          legal = before.legal;
          ends = before.ends;
          others = before.others;
          old = before.old;
          new = λ i c. elim (before.new i c) [
            | inl w ↦ inl w
            | inr w ↦ inr (w.0, omega (arith, w.1))
          ];
          all = λ i passes above le. elim (cases_eq i (suc k)) [
            | inl is ↦ absurd (both_ways (test (suc k) && ltb (last_index s x) (suc k)) e
                (and_from _ _ (ap test (sym is) ∙ passes) (lt-ltb (last_index s x) (suc k) (omega (arith, is, above)))))
            | inr ne ↦ before.all i passes above (omega arith)
          ];
          top = elim before.top [
            | inl w ↦ inl (omega arith)
            | inr w ↦ inr w
          ];
          none = λ le. before.none (omega arith);
        }
      ]

-- what was passed to a node last was passed to its parent, if that is a relay, at that time or earlier
pub last_below : (lists : Lists) (s : State) → Sound lists s → (x : ℕ) → 1 ≤ parent lists x → last_index s x ≤ last_index s (parent lists x)
last_below lists s sound x one =
    elim (last_cases (s.passed x)) [
      | inl w ↦ omega (arith, w.1)
      | inr c ↦ elim (sound.passed_reached x (last_index s x) c) [
        | inl root ↦ absurd (omega (arith, root.0))
        | inr among ↦ contains_within lists s sound (parent lists x) (last_index s x) among
      ]
    ]

module _ (lists : Lists) (law : Lawful lists) (s : State) (sound_s : Sound lists s) (x : ℕ) (node : IsNode lists x) (test : ℕ →
    Bool) (j : ℕ) (one : 1 ≤ j)
    (caught : Caught lists s x test j) where
  abbrev pub caught_state : State
  caught_state = record s { passed = caught.passed }

  -- the state is sound then
  pub sound : Sound lists caught_state
  sound =
      let P : State → Type 0 = λ t. Sound lists t in
      subst P caught.ends (sound_after_from lists law caught.moves s sound_s caught.legal)

  -- of each other node the last clearing passed is the same
  pub last_kept : (y : ℕ) → (y ≡ x → ⊥) → last_index caught_state y ≡ last_index s y
  last_kept y ne = ap last_of (caught.others y ne)

  -- the last one is the greater of the old last one and j
  pub last_new : test j ≡ true → last_index s x < j → last_index caught_state x ≡ j
  last_new passes lt =
      let most : j ≤ last_index caught_state x = contains_within lists caught_state sound x j (caught.all j passes lt (omega arith)) in
      elim caught.top [
        | inl w ↦ omega (arith, w, most)
        | inr w ↦ absurd (omega (arith, w, most, lt))
      ]

  -- where j is not later than the last one, that is the same
  pub last_old : j ≤ last_index s x → last_index caught_state x ≡ last_index s x
  last_old le = ap (λ (q : ℕ → List ℕ). last_of (q x)) (caught.none le)

  -- what is due then
  pub due_more : (y i : ℕ) → is_due lists s y i ≡ true → is_due lists caught_state y i ≡ true
  due_more y i due =
      let parts = due_parts lists s y i due in
      due_from lists caught_state y i (elim parts.0 [
        | inl root ↦ inl root
        | inr among ↦ inr (elim (cases_eq (parent lists y) x) [
          | inl up ↦ subst (λ (z : ℕ). Contains (caught.passed z) i) (sym up) (caught.old i (subst (λ (z : ℕ). Contains (s.passed z) i) up among))
          | inr ne ↦ subst (λ (l : List ℕ). Contains l i) (sym (caught.others (parent lists y) ne)) among
        ])
      ]) parts.1

  -- what is due then was due, or is one of the clearings caught up with, to a child
  pub due_cases : (y i : ℕ) → is_due lists caught_state y i ≡ true →
      (is_due lists s y i ≡ true) ⊎ ((parent lists y ≡ x) × (last_index s x < i) × (i ≤ j))
  due_cases y i due =
      let parts = due_parts lists caught_state y i due in
      elim parts.0 [
        | inl root ↦ inl (due_from lists s y i (inl root) parts.1)
        | inr among ↦ elim (cases_eq (parent lists y) x) [
          | inl up ↦ elim (caught.new i (subst (λ (z : ℕ). Contains (caught.passed z) i) up among)) [
            | inl was ↦ inl (due_from lists s y i (inr (subst (λ (z : ℕ). Contains (s.passed z) i) (sym up) was)) parts.1)
            | inr is ↦ inr (up, is.0, is.1)
          ]
          | inr ne ↦ inl (due_from lists s y i (inr (subst (λ (l : List ℕ). Contains l i) (caught.others (parent lists y) ne) among)) parts.1)
        ]
      ]

  -- clearing j is due then to each child that it addresses
  pub due_here : (y : ℕ) → parent lists y ≡ x → Contains (caught.passed x) j → addresses lists s j y ≡ true →
      is_due lists caught_state y j ≡ true
  due_here y up c addressed = due_from lists caught_state y j (inr (subst (λ (z : ℕ). Contains (caught.passed z) j) (sym up) c)) addressed
