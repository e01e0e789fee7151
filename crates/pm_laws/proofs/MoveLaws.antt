-- What each move leaves and makes, in the order of the clauses.
use Rattle.std.proofs.Common.{◌≡◌, ◌∙◌, sym, ap, subst, ℕ, ◌+◌, ◌≤◌, ◌≢◌, ◌⊎◌, inl, inr, ◌↔◌, true, ◌++◌}
use Rattle.std.proofs.Common.{◌∷◌, [], length, refl, arith}
use Rattle.std.specs.List.{Contains}
use Rattle.std.proofs.lemmas.Bool.{cases_lt, and_parts, and_from}
use Rattle.pm_base.specs.Cuts.{Cut}
use Rattle.pm_market.specs.Lists.{Lists, parent, IsNode, IsInner, IsConcentrator, IsLeafOf, Lawful}
use Rattle.pm_market.specs.State.{State, SameOn, DifferOn, cut_at, part, knowledge, clearings, addresses, addresses_of}
use Rattle.pm_market.specs.Legality.{has_reached}
use Rattle.pm_market.specs.Moves.{Reached, Legal, step}
use Rattle.pm_market.specs.Sound.{Sound}
use Rattle.pm_market.specs.declared.moves.Move.TheVariants.{Learn, Publish, Clear, Pass}
use Rattle.pm_market.proofs.Legality.{reached_from, reached_at}
use Rattle.pm_market.proofs.Tree.{leaf_zero}
use Rattle.pm_market.proofs.Cuts.{pushed_same, updated_same, updated_other, known_at}
use Rattle.pm_laws.specs.Added.{HasAdded}
use Rattle.pm_laws.specs.Due.{is_due}
use Rattle.pm_laws.proofs.Facts.{contains_last, pushed_contains, pushed_contains_cases, reached_within}
use Rattle.pm_laws.proofs.Kept.{sound_step}
use Rattle.pm_laws.proofs.Learnt.{known_elsewhere, learnt_differs}
use Rattle.pm_laws.proofs.Published as published

-- publishing and clearing

has_added : (lists : Lists) → Lawful lists → (s : State) → Sound lists s → (y : ℕ) → IsInner lists y → Sound lists (published.more lists s y) →
    HasAdded lists s (published.more lists s y) y
has_added lists law s sound y inner after = record {
  added = published.cut_at_last lists law s sound y inner after (length (s.published y) + 1) refl;
  kept = published.cut_at_old lists law s sound y inner after;
  newest_added = published.newest_more lists law s sound y inner after;
  newest_kept = published.newest_other lists law s sound y inner after;
  part_added = published.part_last lists law s sound y inner after _ refl;
  part_kept = published.part_old lists law s sound y inner after;
  known_kept = published.known_same lists law s sound y inner after;
  number_added = λ z node here. published.number_last lists law s sound y inner after z (length (s.published y) + 1) node here refl;
  number_kept = published.number_published lists law s sound y inner after;
  number_cleared = published.number_cleared lists law s sound y inner after;
}

-- a legal Publish adds to the concentrator's cuts what it knows, and keeps what was there
pub publishing : (lists : Lists) (s : State) (c n : ℕ) → Lawful lists → Sound lists s → Legal lists s (Publish c n) →
    HasAdded lists s (step lists s (Publish c n)) c
publishing lists s c n law sound legal = has_added lists law s sound c legal.0.2 (sound_step lists law s sound (Publish c n) legal)

-- a legal Clear adds to the cleared cuts what the auctioneer knows, and keeps what was there
pub clearing : (lists : Lists) (s : State) (j : ℕ) → Lawful lists → Sound lists s → Legal lists s (Clear j) →
    HasAdded lists s (step lists s (Clear j)) 0
clearing lists s j law sound legal = has_added lists law s sound 0 (leaf_zero lists) (sound_step lists law s sound (Clear j) legal)

-- learning

-- after Learn x n the parent of x knows of each leaf of x what part n of x says
pub learning_here : (lists : Lists) (s : State) (x n d : ℕ) → Lawful lists → IsNode lists x → IsLeafOf lists x d →
    knowledge lists (step lists s (Learn x n)) (parent lists x) d ≡ part lists s x n d
learning_here lists s x n d law node leaf =
    known_at lists law s.published _ x d node.0 leaf ∙ ap (λ (k : ℕ). part lists s x k d) (updated_same s.learnt x n)

-- after Learn x n the parent of any other node z knows of the leaves of z what it knew
pub learning_beside : (lists : Lists) (s : State) (x z n d : ℕ) → Lawful lists → IsNode lists z → z ≢ x → IsLeafOf lists z d →
    knowledge lists (step lists s (Learn x n)) (parent lists z) d ≡ knowledge lists s (parent lists z) d
learning_beside lists s x z n d law node other leaf =
    known_at lists law s.published _ z d node.0 leaf ∙ ap (λ (k : ℕ). part lists s z k d) (updated_other s.learnt x n z other)
    ∙ sym (known_at lists law s.published s.learnt z d node.0 leaf)

-- after Learn x n each inner node but the parent of x knows of its leaves what it knew
pub learning_elsewhere : (lists : Lists) (s : State) (x n y : ℕ) → Lawful lists → IsInner lists y → parent lists x ≢ y →
    SameOn lists y (knowledge lists s y) (knowledge lists (step lists s (Learn x n)) y)
learning_elsewhere lists s x n y law inner other = known_elsewhere lists law s x n y inner other

-- after a legal Learn the parent knows something other than it published or cleared last
pub learning_differs : (lists : Lists) (s : State) (x n : ℕ) → Lawful lists → Sound lists s → Legal lists s (Learn x n) →
    DifferOn lists (parent lists x) (knowledge lists (step lists s (Learn x n)) (parent lists x))
    (cut_at (s.published (parent lists x)) (length (s.published (parent lists x))))
learning_differs lists s x n law sound legal = learnt_differs lists law s sound x n legal

-- which clearings are due

-- a clearing that is due reached the parent, and addresses the node; and the other way round
pub due_parts : (lists : Lists) (s : State) (x j : ℕ) → is_due lists s x j ≡ true → Reached s (parent lists x) j × (addresses lists s j x ≡ true)
due_parts lists s x j due =
    let parts = and_parts (has_reached s (parent lists x) j) (addresses lists s j x) due in
    (reached_from s (parent lists x) j parts.0, parts.1)

-- a clearing that reached the parent of a node and addresses the node is due to it
pub due_from : (lists : Lists) (s : State) (x j : ℕ) → Reached s (parent lists x) j → addresses lists s j x ≡ true → is_due lists s x j ≡ true
due_from lists s x j reached addressed = and_from _ _ (reached_at s (parent lists x) j reached) addressed

-- in a sound state the index of what is due to a node is that of a clearing
pub due_within : (lists : Lists) (s : State) (x j : ℕ) → Sound lists s → is_due lists s x j ≡ true → (1 ≤ j) × (j ≤ clearings s)
due_within lists s x j sound due = published.due_within lists s sound x j due

-- a concentrator's publishing makes nothing due, and leaves what was
pub due_published : (lists : Lists) (s : State) (c n x j : ℕ) → IsConcentrator lists c → is_due lists (step lists s (Publish c n)) x j
    ≡ is_due lists s x j
due_published lists s c n x j concentrator = published.due_kept lists s c concentrator.0 x j

module _ (lists : Lists) (s : State) (y i x j : ℕ) where
  passed_from : is_due lists (step lists s (Pass y i)) x j ≡ true → (is_due lists s x j ≡ true)
      ⊎ ((parent lists x ≡ y) × (j ≡ i) × (addresses lists s j x ≡ true))
  passed_from due =
      let parts = due_parts lists (step lists s (Pass y i)) x j due in
      elim parts.0 [
        | inl top ↦ inl (due_from lists s x j (inl top) parts.1)
        | inr among ↦ elim (pushed_contains_cases s.passed y i (parent lists x) j among) [
          | inl old ↦ inl (due_from lists s x j (inr old) parts.1)
          | inr new ↦ inr (new.0, new.1, parts.1)
        ]
      ]

  passed_to : (is_due lists s x j ≡ true) ⊎ ((parent lists x ≡ y) × (j ≡ i) × (addresses lists s j x ≡ true)) →
      is_due lists (step lists s (Pass y i)) x j ≡ true
  passed_to (inl due) =
      let parts = due_parts lists s x j due in
      due_from lists (step lists s (Pass y i)) x j (elim parts.0 [
        | inl top ↦ inl top
        | inr among ↦ inr (pushed_contains s.passed y i (parent lists x) j among)
      ]) parts.1
  passed_to (inr new) =
      let here : Contains (s.passed y ++ i ∷ []) j = subst (Contains (s.passed y ++ i ∷ [])) (sym new.1) (contains_last (s.passed y) i) in
      let at : Contains ((step lists s (Pass y i)).passed y) j = subst (λ l. Contains l j) (sym (pushed_same s.passed y i)) here in
      due_from lists (step lists s (Pass y i)) x j (inr (subst (λ (z : ℕ). Contains ((step lists s (Pass y i)).passed z) j) (sym new.0) at)) new.2

-- after Pass y i due is what was, and clearing i to each child of y that it addresses
pub due_passed : (lists : Lists) (s : State) (y i x j : ℕ) →
    (is_due lists (step lists s (Pass y i)) x j ≡ true)
    ↔ ((is_due lists s x j ≡ true) ⊎ ((parent lists x ≡ y) × (j ≡ i) × (addresses lists s j x ≡ true)))
due_passed lists s y i x j = (passed_from lists s y i x j, passed_to lists s y i x j)

module _ (lists : Lists) (law : Lawful lists) (s : State) (sound : Sound lists s) (k : ℕ) (legal : Legal lists s (Clear k)) (x j : ℕ) where
  abbrev next : State
  next = step lists s (Clear k)

  has : HasAdded lists s next 0
  has = clearing lists s k law sound legal

  more : clearings next ≡ clearings s + 1
  more = published.list_longer lists law s sound 0 (leaf_zero lists) (sound_step lists law s sound (Clear k) legal)

  -- an older clearing addresses whom it did
  same : j ≤ clearings s → addresses lists next j x ≡ addresses lists s j x
  same old = ap (λ (cut : Cut). addresses_of lists cut x) (has.kept 0 j old)

  newly : j ≡ clearings s + 1 → addresses lists next j x ≡ addresses_of lists (knowledge lists s 0) x
  newly here = ap (λ (i : ℕ). addresses lists next i x) here ∙ ap (λ (cut : Cut). addresses_of lists cut x) has.added

  cleared_from : is_due lists next x j ≡ true → (is_due lists s x j ≡ true)
      ⊎ ((parent lists x ≡ 0) × (j ≡ clearings s + 1) × (addresses_of lists (knowledge lists s 0) x ≡ true))
  cleared_from due =
      let parts = due_parts lists next x j due in
      elim parts.0 [
        | inl top ↦ elim (cases_lt (clearings s) j) [
          | inl above ↦ let here : j ≡ clearings s + 1 = omega (arith, top.2, more) in inr (top.0, here, sym (newly here) ∙ parts.1)
          | inr old ↦ inl (due_from lists s x j (inl (top.0, top.1, old)) (sym (same old) ∙ parts.1))
        ]
        | inr among ↦ inl (due_from lists s x j (inr among) (sym (same (reached_within lists s sound (parent lists x) j (inr among)).1) ∙ parts.1))
      ]

  cleared_to : (is_due lists s x j ≡ true) ⊎ ((parent lists x ≡ 0) × (j ≡ clearings s + 1)
      × (addresses_of lists (knowledge lists s 0) x ≡ true)) → is_due lists next x j ≡ true
  cleared_to (inl due) =
      let parts = due_parts lists s x j due in
      let within = (reached_within lists s sound (parent lists x) j parts.0).1 in
      due_from lists next x j (elim parts.0 [
        | inl top ↦ inl (top.0, top.1, omega (arith, top.2, more))
        | inr among ↦ inr among
      ]) (same within ∙ parts.1)
  cleared_to (inr new) = due_from lists next x j (inl (new.0, omega (arith, new.1), omega (arith, new.1, more))) (newly new.1 ∙ new.2)

-- after a legal Clear due is what was, and the new clearing to each child of the auctioneer that it addresses
pub due_cleared : (lists : Lists) (s : State) (k x j : ℕ) → Lawful lists → Sound lists s → Legal lists s (Clear k) →
    (is_due lists (step lists s (Clear k)) x j ≡ true)
    ↔ ((is_due lists s x j ≡ true) ⊎ ((parent lists x ≡ 0) × (j ≡ clearings s + 1) × (addresses_of lists (knowledge lists s 0) x ≡ true)))
due_cleared lists s k x j law sound legal = (cleared_from lists law s sound k legal x j, cleared_to lists law s sound k legal x j)

-- what is known once one bid more is learnt
pub ruleset learning_laws = (learning_here, learning_beside, learning_elsewhere, learning_differs)
