-- The start is sound, and each legal move keeps soundness.
use Rattle.std.proofs.Common.{◌≡◌, ℕ, suc, ◌+◌, ◌-◌, ◌<◌, ◌≤◌, false, inl, inr, List, [], ◌∷◌, ◌++◌, length, get_or, refl}
use Rattle.std.proofs.Common.{sym, ◌∙◌, ap, subst, arith}
use Rattle.std.proofs.lemmas.Bool.{cases_eq, cases_lt, cases_Bool}
use Rattle.std.proofs.lemmas.List.{get_or_append_left, get_or_push, length_push}
use Rattle.std.specs.List.{Contains}
use Rattle.pm_base.specs.Limits.{window_size}
use Rattle.pm_market.specs.Lists.{Lists, phases, child_at_or_above, parent, is_leaf, changes, IsInner, IsConcentrator, IsLeafOf, Lawful, end_count}
use Rattle.pm_market.specs.State.{State, start, update, is_same_on, RisesOn, cut_at, part_of}
use Rattle.pm_market.specs.State.{knowledge_of, greatest_number, last_of, newest_number_of, part, knowledge, number}
use Rattle.pm_market.specs.State.{last_index, clearings, cleared_cut, addresses, addresses_of}
use Rattle.pm_base.specs.Cuts.{Cut}
use Rattle.pm_market.specs.Moves.{Idle, Legal, step, after_from, LegalFrom, after, LegalJournal}
use Rattle.pm_market.specs.Sound.{Sound}
use Rattle.pm_market.specs.declared.moves.Move.{Move}
use Rattle.pm_market.specs.declared.moves.Move.TheVariants.{Change, Learn, Publish, Clear, Pass, Close}
use Rattle.pm_market.proofs.Tree.{leaf_zero, child_of}
use Rattle.pm_market.proofs.Cuts.{not_same, not_same_from, rises_then, entry_zero, cut_at_new, pushed, pushed_same, pushed_other, pushed_cut_at_kept}
use Rattle.pm_market.proofs.Cuts.{pushed_length_same, pushed_length_other, pushed_length_le, newest_leaf, newest_inner, part_inner, part_zero, part_kept}
use Rattle.pm_market.proofs.Cuts.{known_at, greatest_kept, greatest_more}
use Rattle.pm_laws.proofs.Facts.{end_zero, end_within, updated_at, pushed_contains, pushed_contains_cases, last_push, last_most, reached_within, last_within}
use Rattle.pm_laws.proofs.Facts.{learnt_of_inner, part_within, number_rises, window_of}

-- at the start no node move is legal
start_idle : (lists : Lists) → Idle lists start
unfolding knowledge_of
start_idle lists (Change d n) legal = legal
start_idle lists (Learn x n) legal =
    elim (cases_Bool (is_leaf lists x)) [
      | inl e ↦ omega (arith, legal.1, legal.2, newest_leaf lists start.counts start.published x e)
      | inr e ↦ omega (arith, legal.1, legal.2, newest_inner lists start.counts start.published x e)
    ]
start_idle lists (Publish c n) legal =
    not_same lists c (knowledge lists start c) (part lists start c (newest_number_of lists start c)) legal.1 (λ d leaf.
    part_zero lists start.published (child_at_or_above lists c d) d
    ∙ sym (ap (λ (k : ℕ). part lists start c k d) (newest_inner lists start.counts start.published c legal.0.2) ∙ part_zero lists start.published c d))
start_idle lists (Clear j) legal =
    not_same lists 0 (knowledge lists start 0) (cleared_cut start 0) legal.0 (λ d leaf.
    part_zero lists start.published (child_at_or_above lists 0 d) d ∙ sym (ap (λ (a : Cut). a d) (entry_zero [])))
start_idle lists (Pass x j) (legal) =
    elim legal.1 [
      | inl w ↦ omega (arith, w.1, w.2)
      | inr w ↦ omega (arith, w.1)
    ]
start_idle lists (Close p) legal = legal

-- the number of closed phases makes no node move legal
closed_idle : (lists : Lists) (s : State) (p : ℕ) → Idle lists s → Idle lists (record s { closed = p })
closed_idle lists s p idle (Change d n) legal = legal
closed_idle lists s p idle (Learn x n) legal = idle (Learn x n) legal
closed_idle lists s p idle (Publish c n) legal = idle (Publish c n) legal
closed_idle lists s p idle (Clear j) legal = idle (Clear j) legal
closed_idle lists s p idle (Pass x j) legal = idle (Pass x j) legal
closed_idle lists s p idle (Close q) legal = legal

-- the start is a sound state
pub sound_start : (lists : Lists) → Lawful lists → Sound lists start
sound_start lists law = record {
  counts_within = λ d leaf. omega arith;
  counts_from = λ d leaf. omega (arith, end_zero lists d);
  counts_to = λ open_ d leaf. omega arith;
  closed_within = omega arith;
  ended_counts = λ e d leaf. omega (arith, end_zero lists d, ap (λ (q : ℕ). end_count lists q d) e, law.ends_last d leaf);
  ended_idle = λ e. start_idle lists;
  learnt_within = λ x node. omega arith;
  published_rise = λ c i j inner lt le. absurd (omega arith);
  published_known = λ c inner d leaf. omega (arith, ap (λ (a : Cut). a d) (entry_zero []));
  published_parts = λ x i node le. (
    0,
    omega arith,
    λ d leaf.
        let e : i ≡ 0 = omega arith in ap (λ (k : ℕ). cut_at [] k d) e ∙ ap (λ (a : Cut). a d) (entry_zero [])
        ∙ sym (part_zero lists start.published x d),
  );
  passed_rise = λ x i j lt le. absurd (omega arith);
  passed_within = λ x j c. absurd (omega (arith, c.1));
  passed_addressed = λ x j c. absurd (omega (arith, c.1));
  passed_reached = λ x j c. absurd (omega (arith, c.1));
  window = λ c conc. omega (arith, newest_inner lists start.counts start.published c conc.2);
}

sound_change : (lists : Lists) → Lawful lists → (s : State) → Sound lists s → (d n : ℕ) → Legal lists s (Change d n) →
    Sound lists (step lists s (Change d n))
sound_change lists law s sound d n legal = record {
  counts_within = λ e leaf. elim (updated_at s.counts d n e) [
    | inl w ↦ omega (arith, w.1, w.0, legal.3, ap (changes lists) w.0, end_within lists law (s.closed + 1) d legal.0 (omega (arith, legal.1)))
    | inr w ↦ omega (arith, w.1, sound.counts_within e leaf)
  ];
  counts_from = λ e leaf. elim (updated_at s.counts d n e) [
    | inl w ↦ omega (arith, w.1, legal.2, ap s.counts w.0, sound.counts_from e leaf)
    | inr w ↦ omega (arith, w.1, sound.counts_from e leaf)
  ];
  counts_to = λ more e leaf. elim (updated_at s.counts d n e) [
    | inl w ↦ omega (arith, w.1, legal.3, ap (end_count lists (s.closed + 1)) w.0)
    | inr w ↦ omega (arith, w.1, sound.counts_to more e leaf)
  ];
  closed_within = sound.closed_within;
  ended_counts = λ e. absurd (omega (arith, e, legal.1));
  ended_idle = λ e. absurd (omega (arith, e, legal.1));
  learnt_within = λ x node. elim (cases_Bool (is_leaf lists x)) [
    | inl e ↦ elim (updated_at s.counts d n x) [
      | inl w ↦ omega (
        arith,
        w.1,
        legal.2,
        ap s.counts w.0,
        sound.learnt_within x node,
        newest_leaf lists s.counts s.published x e,
        newest_leaf lists (update s.counts d n) s.published x e,
      )
      | inr w ↦ omega (
        arith,
        w.1,
        sound.learnt_within x node,
        newest_leaf lists s.counts s.published x e,
        newest_leaf lists (update s.counts d n) s.published x e,
      )
    ]
    | inr e ↦ omega (
      arith,
      sound.learnt_within x node,
      newest_inner lists s.counts s.published x e,
      newest_inner lists (update s.counts d n) s.published x e,
    )
  ];
  published_rise = sound.published_rise;
  published_known = sound.published_known;
  published_parts = sound.published_parts;
  passed_rise = sound.passed_rise;
  passed_within = sound.passed_within;
  passed_addressed = sound.passed_addressed;
  passed_reached = sound.passed_reached;
  window = λ c conc. omega (
    arith,
    sound.window c conc,
    window_of lists s c (cleared_cut s (last_index s c)) conc.2,
    window_of lists (step lists s (Change d n)) c (cleared_cut s (last_index s c)) conc.2,
  );
}

sound_learn : (lists : Lists) → Lawful lists → (s : State) → Sound lists s → (x n : ℕ) → Legal lists s (Learn x n) →
    Sound lists (step lists s (Learn x n))
sound_learn lists law s sound x n legal = record {
  counts_within = sound.counts_within;
  counts_from = sound.counts_from;
  counts_to = sound.counts_to;
  closed_within = sound.closed_within;
  ended_counts = λ e. absurd (sound.ended_idle e (Learn x n) legal);
  ended_idle = λ e. absurd (sound.ended_idle e (Learn x n) legal);
  learnt_within = λ y node. elim (updated_at s.learnt x n y) [
    | inl w ↦ omega (arith, w.1, legal.2, ap (newest_number_of lists s) w.0)
    | inr w ↦ omega (arith, w.1, sound.learnt_within y node)
  ];
  published_rise = sound.published_rise;
  published_known = λ c inner d leaf.
      let y = child_of lists law c d inner leaf in
      let old : knowledge lists s (parent lists y.0) d ≡ part lists s y.0 (s.learnt y.0) d = known_at lists law s.published s.learnt y.0 d y.1.0 y.3 in
      let new : knowledge_of lists s.published (update s.learnt x n) (parent lists y.0) d
      ≡ part lists s y.0 (update s.learnt x n y.0) d = known_at lists law s.published (update s.learnt x n) y.0 d y.1.0 y.3 in
      let more : (s.learnt y.0 ≤ update s.learnt x n y.0) × (update s.learnt x n y.0 ≤ newest_number_of lists s y.0) = elim (updated_at s.learnt x n y.0) [
        | inl w ↦ (omega (arith, w.1, legal.1, ap s.learnt w.0), omega (arith, w.1, legal.2, ap (newest_number_of lists s) w.0))
        | inr w ↦ (omega (arith, w.1), omega (arith, w.1, sound.learnt_within y.0 y.1))
      ] in
      omega (
        arith,
        sound.published_known c inner d leaf,
        ap (λ (z : ℕ). knowledge lists s z d) y.2,
        ap (λ (z : ℕ). knowledge_of lists s.published (update s.learnt x n) z d) y.2,
        old,
        new,
        part_within lists s sound y.0 (s.learnt y.0) (update s.learnt x n y.0) more.0 more.1 d y.3,
      );
  published_parts = λ y i node le.
      let r = sound.published_parts y i node le in (
        r.0,
        elim (updated_at s.learnt x n y) [
          | inl w ↦ omega (arith, w.1, r.1, legal.1, ap s.learnt w.0)
          | inr w ↦ omega (arith, w.1, r.1)
        ],
        r.2,
      );
  passed_rise = sound.passed_rise;
  passed_within = sound.passed_within;
  passed_addressed = sound.passed_addressed;
  passed_reached = sound.passed_reached;
  window = sound.window;
}

-- on the leaves of an inner node it knows the same after something is published
known_kept : (lists : Lists) → Lawful lists → (s : State) → Sound lists s → (c : ℕ) (cut : Cut) (y d : ℕ) → IsInner lists c →
    IsInner lists y → IsLeafOf lists y d →
    knowledge_of lists (pushed s.published c cut) s.learnt y d ≡ knowledge lists s y d
known_kept lists law s sound c cut y d c_inner inner leaf =
    let x = child_of lists law y d inner leaf in
    let old : knowledge lists s (parent lists x.0) d ≡ part lists s x.0 (s.learnt x.0) d = known_at lists law s.published s.learnt x.0 d x.1.0 x.3 in
    let new : knowledge_of lists (pushed s.published c cut) s.learnt (parent lists x.0) d ≡ part_of lists (pushed s.published c cut) x.0
    (s.learnt x.0) d = known_at lists law (pushed s.published c cut) s.learnt x.0 d x.1.0 x.3 in
    let kept : part_of lists (pushed s.published c cut) x.0 (s.learnt x.0) ≡ part lists s x.0 (s.learnt x.0) =
    part_kept lists s.published c cut x.0 (s.learnt x.0)
    (λ e. omega (arith, learnt_of_inner lists s sound x.0 x.1 (ap (is_leaf lists) e ∙ c_inner), ap (λ (z : ℕ). length (s.published z)) e)) in
    ap (λ (z : ℕ). knowledge_of lists (pushed s.published c cut) s.learnt z d) (sym x.2) ∙ new ∙ ap (λ (a : Cut). a d) kept ∙ sym old
    ∙ ap (λ (z : ℕ). knowledge lists s z d) x.2

-- what c knows joins its list
sound_push : (lists : Lists) → Lawful lists → (s : State) → Sound lists s → (c : ℕ) → IsInner lists c →
    is_same_on lists c (knowledge lists s c) (cut_at (s.published c) (length (s.published c))) ≡ false →
    (IsConcentrator lists c → newest_number_of lists s c - number lists s c (cleared_cut s (last_index s c)) < window_size) →
    (s.closed ≡ phases lists → ⊥) →
    Sound lists (record s { published = pushed s.published c (knowledge lists s c) })
sound_push lists law s sound c c_inner differs room not_ended =
    let p : ℕ → List Cut = s.published in
    let cut : Cut = knowledge lists s c in
    let q : ℕ → List Cut = pushed p c cut in
    let len : ℕ = length (p c) in
    let new_s : State = record s { published = q } in
    let same_len : length (q c) ≡ len + 1 = pushed_length_same p c cut in
    let kept : (y i : ℕ) → (y ≡ c → i ≤ len) → cut_at (q y) i ≡ cut_at (p y) i = pushed_cut_at_kept p c cut in
    let new_entry : cut_at (q c) (len + 1) ≡ cut = ap (λ (l : List Cut). cut_at l (len + 1)) (pushed_same p c cut) ∙ cut_at_new (p c) cut (len + 1) refl in
    let rise_top : RisesOn lists c (cut_at (p c) len) cut = record {
      within = sound.published_known c c_inner;
      not_same = not_same_from lists law c (cut_at (p c) len) cut (λ same. not_same lists c cut (cut_at (p c) len) differs (λ d leaf. sym (same d leaf)));
    } in
    let rise_at_c : (i j : ℕ) → i < j → j ≤ len + 1 → RisesOn lists c (cut_at (q c) i) (cut_at (q c) j) = λ i j lt le.
    elim (cases_eq j (len + 1)) [
      | inl e ↦
          let i_old : cut_at (q c) i ≡ cut_at (p c) i = kept c i (λ same. omega arith) in
          let j_new : cut_at (q c) j ≡ cut = ap (cut_at (q c)) e ∙ new_entry in
          let old : RisesOn lists c (cut_at (p c) i) cut = elim (cases_eq i len) [
            | inl at ↦ subst (λ (k : ℕ). RisesOn lists c (cut_at (p c) k) cut) (sym at) rise_top
            | inr n ↦ rises_then lists law c (cut_at (p c) i) (cut_at (p c) len) cut
                (sound.published_rise c i len c_inner (omega arith) (omega arith)) rise_top.within
          ] in
          subst (λ (a : Cut). RisesOn lists c (cut_at (q c) i) a) (sym j_new) (subst (λ (a : Cut). RisesOn lists c a cut) (sym i_old) old)
      | inr n ↦
          let i_old : cut_at (q c) i ≡ cut_at (p c) i = kept c i (λ same. omega arith) in
          let j_old : cut_at (q c) j ≡ cut_at (p c) j = kept c j (λ same. omega arith) in
          subst (λ (a : Cut). RisesOn lists c (cut_at (q c) i) a) (sym j_old)
          (subst (λ (a : Cut). RisesOn lists c a (cut_at (p c) j)) (sym i_old) (sound.published_rise c i j c_inner lt (omega arith)))
    ] in
    let more_clearings : clearings s ≤ clearings new_s = pushed_length_le p c cut 0 in
    let cleared_kept : (j : ℕ) → j ≤ clearings s → cleared_cut new_s j ≡ cleared_cut s j =
    λ j le. kept 0 j (λ e. omega (arith, ap (λ (z : ℕ). length (p z)) e)) in
    record {
      counts_within = sound.counts_within;
      counts_from = sound.counts_from;
      counts_to = sound.counts_to;
      closed_within = sound.closed_within;
      ended_counts = λ e. absurd (not_ended e);
      ended_idle = λ e. absurd (not_ended e);
      learnt_within = λ x node. elim (cases_Bool (is_leaf lists x)) [
        | inl e ↦ omega (arith, sound.learnt_within x node, newest_leaf lists s.counts p x e, newest_leaf lists s.counts q x e)
        | inr e ↦ omega (arith, sound.learnt_within x node, newest_inner lists s.counts p x e, newest_inner lists s.counts q x e, pushed_length_le p c cut x)
      ];
      published_rise = λ y i j inner lt le. elim (cases_eq y c) [
        | inl e ↦ subst (λ (z : ℕ). RisesOn lists z (cut_at (q z) i) (cut_at (q z) j)) (sym e)
            (rise_at_c i j lt (omega (arith, le, ap (λ (z : ℕ). length (q z)) e, same_len)))
        | inr n ↦
            let i_old : cut_at (q y) i ≡ cut_at (p y) i = kept y i (λ e. absurd (n e)) in
            let j_old : cut_at (q y) j ≡ cut_at (p y) j = kept y j (λ e. absurd (n e)) in
            subst (λ (a : Cut). RisesOn lists y (cut_at (q y) i) a) (sym j_old)
            (subst (λ (a : Cut). RisesOn lists y a (cut_at (p y) j)) (sym i_old)
            (sound.published_rise y i j inner lt (omega (arith, le, pushed_length_other p c cut y n))))
      ];
      published_known = λ y inner d leaf. elim (cases_eq y c) [
        | inl e ↦ omega (
          arith,
          known_kept lists law s sound c cut y d c_inner inner leaf,
          ap (λ (z : ℕ). cut_at (q z) (length (q z)) d) e,
          ap (λ (k : ℕ). cut_at (q c) k d) same_len,
          ap (λ (a : Cut). a d) new_entry,
          ap (λ (z : ℕ). knowledge lists s z d) e,
        )
        | inr n ↦ omega (
          arith,
          known_kept lists law s sound c cut y d c_inner inner leaf,
          sound.published_known y inner d leaf,
          ap (λ (l : List Cut). cut_at l (length l) d) (pushed_other p c cut y n),
        )
      ];
      published_parts = λ x i node le.
          let x_kept : (n : ℕ) → n ≤ s.learnt x → part lists new_s x n ≡ part lists s x n = λ n n_le.
          part_kept lists p c cut x n (λ e. omega (
            arith,
            n_le,
            learnt_of_inner lists s sound x node (ap (is_leaf lists) e ∙ c_inner),
            ap (λ (z : ℕ). length (p z)) e,
          )) in
          elim (cases_lt (length (p (parent lists x))) i) [
            | inl above ↦ elim (cases_eq (parent lists x) c) [
              | inl e ↦ (
                s.learnt x,
                omega arith,
                λ d leaf.
                    let at : i ≡ len + 1 = omega (arith, above, le, ap (λ (z : ℕ). length (p z)) e, ap (λ (z : ℕ). length (q z)) e, same_len) in
                    ap (λ (z : ℕ). cut_at (q z) i d) e ∙ ap (λ (k : ℕ). cut_at (q c) k d) at ∙ ap (λ (a : Cut). a d) new_entry
                    ∙ ap (λ (z : ℕ). knowledge lists s z d) (sym e) ∙ known_at lists law p s.learnt x d node.0 leaf
                    ∙ ap (λ (a : Cut). a d) (sym (x_kept (s.learnt x) (omega arith))),
              )
              | inr n ↦ absurd (omega (arith, above, le, pushed_length_other p c cut (parent lists x) n))
            ]
            | inr below ↦
                let r = sound.published_parts x i node below in
                let old : cut_at (q (parent lists x)) i ≡ cut_at (p (parent lists x)) i =
                kept (parent lists x) i (λ e. omega (arith, below, ap (λ (z : ℕ). length (p z)) e)) in
                (r.0, r.1, λ d leaf. ap (λ (a : Cut). a d) old ∙ r.2 d leaf ∙ ap (λ (a : Cut). a d) (sym (x_kept r.0 r.1)))
          ];
      passed_rise = sound.passed_rise;
      passed_within = λ x j at. (
        (sound.passed_within x j at).0,
        omega (arith, (sound.passed_within x j at).1, more_clearings),
      );
      passed_addressed = λ x j at. ap (λ (a : Cut). addresses_of lists a x) (cleared_kept j (sound.passed_within x j at).1) ∙ sound.passed_addressed x j at;
      passed_reached = λ x j at. elim (sound.passed_reached x j at) [
        | inl w ↦ inl (w.0, w.1, omega (arith, w.2, more_clearings))
        | inr w ↦ inr w
      ];
      window = λ y conc.
          let same_cut : cleared_cut new_s (last_index s y) ≡ cleared_cut s (last_index s y) = cleared_kept (last_index s y) (last_within lists s sound y) in
          let old_cut : Cut = cleared_cut s (last_index s y) in
          let new_window : newest_number_of lists new_s y - number lists new_s y (cleared_cut new_s (last_index s y))
          ≡ length (q y) - greatest_number lists (q y) y old_cut (length (q y)) =
          window_of lists new_s y (cleared_cut new_s (last_index s y)) conc.2
          ∙ ap (λ (a : Cut). length (q y) - greatest_number lists (q y) y a (length (q y))) same_cut in
          elim (cases_eq y c) [
            | inl e ↦
                let c_conc : IsConcentrator lists c = subst (IsConcentrator lists) e conc in
                let at_c : length (q y) - greatest_number lists (q y) y old_cut (length (q y)) ≡ length (q c) - greatest_number lists
                (q c) c (cleared_cut s (last_index s c)) (length (q c)) =
                ap (λ (z : ℕ). length (q z) - greatest_number lists (q z) z (cleared_cut s (last_index s z)) (length (q z))) e in
                let more : greatest_number lists (q c) c (cleared_cut s (last_index s c)) len ≤ greatest_number lists (q c) c
                (cleared_cut s (last_index s c)) (suc len) = greatest_more lists (q c) c (cleared_cut s (last_index s c)) len in
                let old : greatest_number lists (q c) c (cleared_cut s (last_index s c)) len ≡ greatest_number lists (p c) c
                (cleared_cut s (last_index s c)) len = greatest_kept lists (p c) (q c) c (cleared_cut s (last_index s c)) len (λ i le. kept c i (λ w. le)) in
                let suc_len : length (q c) ≡ suc len = omega (arith, same_len) in
                omega (
                  arith,
                  new_window,
                  at_c,
                  more,
                  old,
                  ap (λ (k : ℕ). greatest_number lists (q c) c (cleared_cut s (last_index s c)) k) suc_len,
                  suc_len,
                  room c_conc,
                  window_of lists s c (cleared_cut s (last_index s c)) c_inner,
                )
            | inr n ↦ omega (
              arith,
              new_window,
              sound.window y conc,
              window_of lists s y old_cut conc.2,
              ap (λ (l : List Cut). length l - greatest_number lists l y old_cut (length l)) (pushed_other p c cut y n),
            )
          ];
    }

sound_pass : (lists : Lists) → Lawful lists → (s : State) → Sound lists s → (x j : ℕ) → Legal lists s (Pass x j) →
    Sound lists (step lists s (Pass x j))
sound_pass lists law s sound x j legal =
    let q : ℕ → List ℕ = pushed s.passed x j in
    let came = reached_within lists s sound (parent lists x) j legal.1 in
    record {
      counts_within = sound.counts_within;
      counts_from = sound.counts_from;
      counts_to = sound.counts_to;
      closed_within = sound.closed_within;
      ended_counts = λ e. absurd (sound.ended_idle e (Pass x j) legal);
      ended_idle = λ e. absurd (sound.ended_idle e (Pass x j) legal);
      learnt_within = sound.learnt_within;
      published_rise = sound.published_rise;
      published_known = sound.published_known;
      published_parts = sound.published_parts;
      passed_rise = λ y a b lt le. elim (updated_at s.passed x (s.passed x ++ j ∷ []) y) [
        | inl w ↦
            let l : List ℕ = s.passed x in
            let b_le : b < length l + 1 = omega (arith, le, ap length w.1, length_push l j) in
            let a_old : get_or (q y) a 0 ≡ get_or l a 0 = ap (λ (k : List ℕ). get_or k a 0) w.1 ∙ get_or_append_left l (j ∷ []) 0 a (omega arith) in
            elim (cases_lt b (length l)) [
              | inl b_lt ↦ omega (
                arith,
                a_old,
                ap (λ (k : List ℕ). get_or k b 0) w.1 ∙ get_or_append_left l (j ∷ []) 0 b b_lt,
                sound.passed_rise x a b lt b_lt,
              )
              | inr b_ge ↦ let at : length l ≡ b = omega arith in
                  omega (
                    arith,
                    a_old,
                    ap (λ (k : List ℕ). get_or k b 0) w.1 ∙ get_or_push l j 0 b at,
                    last_most l (sound.passed_rise x) a (omega arith),
                    legal.2,
                  )
            ]
        | inr w ↦ omega (
          arith,
          ap (λ (k : List ℕ). get_or k a 0) w.1,
          ap (λ (k : List ℕ). get_or k b 0) w.1,
          sound.passed_rise y a b lt (omega (arith, le, ap length w.1)),
        )
      ];
      passed_within = λ y k at. elim (pushed_contains_cases s.passed x j y k at) [
        | inl old ↦ sound.passed_within y k old
        | inr w ↦ (omega (arith, w.1, came.0), omega (arith, w.1, came.1))
      ];
      passed_addressed = λ y k at. elim (pushed_contains_cases s.passed x j y k at) [
        | inl old ↦ sound.passed_addressed y k old
        | inr w ↦ ap (addresses lists s k) w.0 ∙ ap (λ (i : ℕ). addresses lists s i x) w.1 ∙ legal.3
      ];
      passed_reached = λ y k at. elim (pushed_contains_cases s.passed x j y k at) [
        | inl old ↦ elim (sound.passed_reached y k old) [
          | inl w ↦ inl w
          | inr w ↦ inr (pushed_contains s.passed x j (parent lists y) k w)
        ]
        | inr e ↦ elim legal.1 [
          | inl w ↦ inl (ap (parent lists) e.0 ∙ w.0, omega (arith, e.1, w.1), omega (arith, e.1, w.2))
          | inr w ↦ inr (pushed_contains s.passed x j (parent lists y) k
              (subst (λ (i : ℕ). Contains (s.passed (parent lists y)) i) (sym e.1)
              (subst (λ (z : ℕ). Contains (s.passed (parent lists z)) j) (sym e.0) w)))
        ]
      ];
      window = λ c conc. elim (updated_at s.passed x (s.passed x ++ j ∷ []) c) [
        | inl w ↦
            let now : last_of (q c) ≡ j = ap last_of w.1 ∙ last_push (s.passed x) j in
            let before : last_index s c < j = omega (arith, legal.2, ap (last_index s) w.0) in
            omega (
              arith,
              sound.window c conc,
              window_of lists s c (cleared_cut s (last_index s c)) conc.2,
              window_of lists (step lists s (Pass x j)) c (cleared_cut s (last_of (q c))) conc.2,
              ap (λ (i : ℕ). greatest_number lists (s.published c) c (cleared_cut s i) (length (s.published c))) now,
              number_rises lists law s sound c (last_index s c) j (conc.0, conc.1) conc.2 (omega arith) came.1,
            )
        | inr w ↦ omega (
          arith,
          sound.window c conc,
          window_of lists s c (cleared_cut s (last_index s c)) conc.2,
          window_of lists (step lists s (Pass x j)) c (cleared_cut s (last_of (q c))) conc.2,
          ap (λ (l : List ℕ). greatest_number lists (s.published c) c (cleared_cut s (last_of l)) (length (s.published c))) w.1,
        )
      ];
    }

sound_close : (lists : Lists) → Lawful lists → (s : State) → Sound lists s → (p : ℕ) → Legal lists s (Close p) →
    Sound lists (step lists s (Close p))
sound_close lists law s sound p legal = record {
  counts_within = sound.counts_within;
  counts_from = λ d leaf. omega (arith, legal.2 d leaf);
  counts_to = λ more d leaf. omega (arith, legal.2 d leaf, law.ends_rise p d leaf more);
  closed_within = legal.1;
  ended_counts = λ e d leaf. omega (arith, legal.2 d leaf, ap (λ (q : ℕ). end_count lists q d) e, law.ends_last d leaf);
  ended_idle = λ e. closed_idle lists s p legal.3;
  learnt_within = sound.learnt_within;
  published_rise = sound.published_rise;
  published_known = sound.published_known;
  published_parts = sound.published_parts;
  passed_rise = sound.passed_rise;
  passed_within = sound.passed_within;
  passed_addressed = sound.passed_addressed;
  passed_reached = sound.passed_reached;
  window = sound.window;
}

-- the state after a legal move in a sound state is sound
pub sound_step : (lists : Lists) → Lawful lists → (s : State) → Sound lists s → (m : Move) → Legal lists s m → Sound lists (step lists s m)
sound_step lists law s sound (Change d n) legal = sound_change lists law s sound d n legal
sound_step lists law s sound (Learn x n) legal = sound_learn lists law s sound x n legal
sound_step lists law s sound (Publish c n) legal =
    let e : newest_number_of lists s c ≡ length (s.published c) = newest_inner lists s.counts s.published c legal.0.2 in
    let same : part lists s c (newest_number_of lists s c) ≡ cut_at (s.published c) (length (s.published c)) =
    part_inner lists s.published c (newest_number_of lists s c) legal.0.2 ∙ ap (cut_at (s.published c)) e in
    sound_push lists law s sound c legal.0.2 (subst (λ (a : Cut). is_same_on lists c (knowledge lists s c) a ≡ false) same legal.1)
    (λ conc. legal.2) (λ e. sound.ended_idle e (Publish c n) legal)
sound_step lists law s sound (Clear j) legal =
    sound_push lists law s sound 0 (leaf_zero lists) legal.0 (λ conc. absurd (omega (arith, conc.0))) (λ e. sound.ended_idle e (Clear j) legal)
sound_step lists law s sound (Pass x j) legal = sound_pass lists law s sound x j legal
sound_step lists law s sound (Close p) legal = sound_close lists law s sound p legal

-- the state after legal moves from any sound state on is sound
pub sound_after_from : (lists : Lists) → Lawful lists → (journal : List Move) (s : State) → Sound lists s →
    LegalFrom lists s journal → Sound lists (after_from lists s journal)
sound_after_from lists law [] s sound legal = sound
sound_after_from lists law (m ∷ ms) s sound legal = sound_after_from lists law ms (step lists s m) (sound_step lists law s sound m legal.0) legal.1

-- the state after a legal journal is sound
pub sound_after : (lists : Lists) → Lawful lists → (journal : List Move) → LegalJournal lists journal → Sound lists (after lists journal)
sound_after lists law journal legal = sound_after_from lists law journal start (sound_start lists law) legal

-- at the start no node has a number
pub newest_zero : (lists : Lists) (x : ℕ) → newest_number_of lists start x ≡ 0
newest_zero lists x =
    elim (cases_Bool (is_leaf lists x)) [
      | inl leaf ↦ newest_leaf lists start.counts start.published x leaf
      | inr inner ↦ newest_inner lists start.counts start.published x inner
    ]
