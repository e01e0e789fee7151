-- In an idle state every node knows all changes of its leaves.
use Rattle.std.proofs.Common.{◌≡◌, ◌∙◌, sym, ap, refl, ℕ, zero, suc, ◌+◌, ◌≤◌, true, arith, inl, inr}
use Rattle.std.proofs.lemmas.Bool.{cases_eq, cases_Bool}
use Rattle.pm_market.specs.Lists.{Lists, nodes, parent, is_leaf, IsNode, IsInner, IsConcentrator, IsLeafOf, Lawful}
use Rattle.pm_market.specs.State.{State, SameOn, is_same_on, newest_number_of, part, knowledge}
use Rattle.pm_market.specs.Moves.{Idle}
use Rattle.pm_market.specs.Sound.{Sound}
use Rattle.pm_market.specs.declared.moves.Move.TheVariants.{Learn, Publish}
use Rattle.pm_market.proofs.Tree.{child_of, leaf_of_leaf}
use Rattle.pm_market.proofs.Cuts.{part_leaf, newest_leaf, known_at, same_from}
use Rattle.pm_laws.proofs.Quiet.{quiet_window}

module _ (lists : Lists) (law : Lawful lists) (s : State) (sound : Sound lists s) (idle : Idle lists s) where
  -- a parent learnt the newest number of its child
  pub all_learnt : (x : ℕ) → IsNode lists x → s.learnt x ≡ newest_number_of lists s x
  all_learnt x node = elim (cases_eq (s.learnt x) (newest_number_of lists s x)) [
    | inl e ↦ e
    | inr ne ↦ absurd (idle (Learn x (newest_number_of lists s x)) (node, omega (arith, sound.learnt_within x node), omega arith))
  ]

  -- a concentrator published what it knows
  all_published : (x : ℕ) → IsConcentrator lists x → SameOn lists x (knowledge lists s x) (part lists s x (newest_number_of lists s x))
  all_published x conc = elim (cases_Bool (is_same_on lists x (knowledge lists s x) (part lists s x (newest_number_of lists s x)))) [
    | inl e ↦ same_from lists law x (knowledge lists s x) (part lists s x (newest_number_of lists s x)) e
    | inr e ↦ absurd (idle (Publish x (newest_number_of lists s x + 1)) (conc, e, omega (arith, quiet_window lists law s sound idle x conc), refl))
  ]

  -- what a node knows of a leaf is the newest part of the child at or above it
  child_known : (y d : ℕ) → IsInner lists y → IsLeafOf lists y d →
      (z : ℕ) × IsNode lists z × (parent lists z ≡ y) × IsLeafOf lists z d × (knowledge lists s y d ≡ part lists s z (newest_number_of lists s z) d)
  child_known y d inner below =
      let w = child_of lists law y d inner below in (
        w.0,
        w.1,
        w.2,
        w.3,
        ap (λ (i : ℕ). knowledge lists s i d) (sym w.2) ∙ known_at lists law s.published s.learnt w.0 d w.1.0 w.3
            ∙ ap (λ (i : ℕ). part lists s w.0 i d) (all_learnt w.0 w.1),
      )

  -- the newest part of a node has all changes of its leaves
  pub newest_part : (far x : ℕ) → nodes lists ≤ x + far → IsNode lists x → (d : ℕ) → IsLeafOf lists x d →
      part lists s x (newest_number_of lists s x) d ≡ s.counts d
  newest_part zero x enough node d below = elim (cases_Bool (is_leaf lists x)) [
    | inl leaf ↦ at_leaf x d leaf below
    | inr inner ↦
        let w = child_known x d inner below in
        absurd (omega (arith, enough, w.1.1, law.earlier w.0 w.1, w.2))
  ]
    where
      at_leaf : (y e : ℕ) → is_leaf lists y ≡ true → IsLeafOf lists y e → part lists s y (newest_number_of lists s y) e ≡ s.counts e
      at_leaf y e leaf under = part_leaf lists s.published y (newest_number_of lists s y) e leaf ∙ newest_leaf lists s.counts s.published y leaf
          ∙ ap s.counts (sym (leaf_of_leaf lists law y e leaf under))
  newest_part (suc far) x enough node d below = elim (cases_Bool (is_leaf lists x)) [
    | inl leaf ↦ at_leaf x d leaf below
    | inr inner ↦
        let w = child_known x d inner below in
        sym (all_published x (node.0, node.1, inner) d below) ∙ w.4
        ∙ newest_part far w.0 (omega (arith, enough, law.earlier w.0 w.1, w.2)) w.1 d w.3
  ]
    where
      at_leaf : (y e : ℕ) → is_leaf lists y ≡ true → IsLeafOf lists y e → part lists s y (newest_number_of lists s y) e ≡ s.counts e
      at_leaf y e leaf under = part_leaf lists s.published y (newest_number_of lists s y) e leaf ∙ newest_leaf lists s.counts s.published y leaf
          ∙ ap s.counts (sym (leaf_of_leaf lists law y e leaf under))

  -- a node knows all changes of its leaves
  pub all_known : (y : ℕ) → IsInner lists y → SameOn lists y (knowledge lists s y) s.counts
  all_known y inner d below =
      let w = child_known y d inner below in
      w.4 ∙ newest_part (nodes lists) w.0 (omega arith) w.1 d w.3
