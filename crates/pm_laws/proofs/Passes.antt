-- What a pass changes: the clearing passed to the node last, and which clearings are then to be passed to its children.
use Rattle.std.proofs.Common.{◌≡◌, ◌∙◌, ap, ℕ, true, ◌⊎◌, [], ◌∷◌, ◌++◌, refl, inl, inr}
use Rattle.pm_market.specs.Lists.{Lists, parent}
use Rattle.pm_market.specs.State.{State, last_of, last_index, addresses}
use Rattle.pm_market.specs.Moves.{step}
use Rattle.pm_market.specs.declared.moves.Move.TheVariants.{Pass}
use Rattle.pm_market.proofs.Cuts.{updated_same, updated_other}
use Rattle.pm_laws.specs.Due.{is_due, IsNewestDue}
use Rattle.pm_laws.proofs.Facts.{last_push}
use Rattle.pm_laws.proofs.MoveLaws.{due_passed}

module _ (lists : Lists) (s : State) (x j : ℕ) where
  abbrev next : State
  next = step lists s (Pass x j)

  -- the clearing is the one passed to the node last
  pub last_new : last_index next x ≡ j
  last_new = ap last_of (updated_same s.passed x (s.passed x ++ j ∷ [])) ∙ last_push (s.passed x) j

  -- of each other node that stays
  pub last_kept : (y : ℕ) → (y ≡ x → ⊥) → last_index next y ≡ last_index s y
  last_kept y ne = ap last_of (updated_other s.passed x (s.passed x ++ j ∷ []) y ne)

  -- what was to be passed still is
  pub due_more : (y i : ℕ) → is_due lists s y i ≡ true → is_due lists next y i ≡ true
  due_more y i due = (due_passed lists s x j y i).1 (inl due)

  -- the clearing is to be passed to each child that it addresses
  pub due_new : (y : ℕ) → parent lists y ≡ x → addresses lists s j y ≡ true → is_due lists next y j ≡ true
  due_new y up addressed = (due_passed lists s x j y j).1 (inr (up, refl, addressed))

  -- and nothing else
  pub due_cases : (y i : ℕ) → is_due lists next y i ≡ true → (is_due lists s y i ≡ true)
      ⊎ ((parent lists y ≡ x) × (i ≡ j) × (addresses lists s i y ≡ true))
  due_cases y i due = (due_passed lists s x j y i).0 due

  -- to a node that is no child of it the same clearing as before is to be passed last
  pub newest_due_kept : (y n : ℕ) → (parent lists y ≡ x → ⊥) → IsNewestDue lists s y n → IsNewestDue lists next y n
  newest_due_kept y n elsewhere at = record {
    due = λ positive. due_more y n (at.due positive);
    most = λ i due. elim (due_cases y i due) [ inl old ↦ at.most i old | inr new ↦ absurd (elsewhere new.0) ];
  }
