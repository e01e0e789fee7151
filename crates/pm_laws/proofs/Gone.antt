-- When a bid is gone.
use Rattle.std.proofs.Common.{◌≡◌, ◌∙◌, sym, ap, ℕ, ◌≤◌, true, not, eqb, arith, inl, inr}
use Rattle.std.proofs.lemmas.Bool.{cases_eq, cases_Bool, both_ways, cond-true, cond-false, eq-eqb, ne_eqb}
use Rattle.pm_market.specs.Lists.{Lists, is_leaf, is_member, IsNode, IsLeaf, IsInner, IsConcentrator, Lawful}
use Rattle.pm_market.specs.State.{State, number, clearings, cleared_cut, addresses}
use Rattle.pm_market.specs.Sound.{Sound}
use Rattle.pm_laws.specs.Gone.{is_gone}
use Rattle.pm_laws.proofs.Quiet.{in_zero, addresses_leaf}
use Rattle.pm_laws.proofs.Numbers.{number_leaf, addressed_number}

-- bid n of a device is gone exactly where the device is no member after its first n changes
pub gone_leaf : (lists : Lists) (x n : ℕ) → IsLeaf lists x → is_gone lists x n ≡ not (is_member lists x n)
unfolding is_gone
gone_leaf lists x n leaf = cond-true (is_leaf lists x) (not (is_member lists x n)) (eqb n 0) leaf

-- bid n of an inner node is gone exactly where n is 0
pub gone_inner : (lists : Lists) (x n : ℕ) → IsInner lists x → is_gone lists x n ≡ eqb n 0
unfolding is_gone
gone_inner lists x n inner = cond-false (is_leaf lists x) (not (is_member lists x n)) (eqb n 0) inner

-- bid 0 of any node is gone
pub gone_zero : (lists : Lists) (x : ℕ) → is_gone lists x 0 ≡ true
gone_zero lists x =
    elim (cases_Bool (is_leaf lists x)) [
      | inl leaf ↦ gone_leaf lists x 0 leaf ∙ ap not (in_zero lists x)
      | inr inner ↦ gone_inner lists x 0 inner
    ]

-- the bid of a node in a clearing is gone exactly where the clearing does not address the node
pub gone_addresses : (lists : Lists) → Lawful lists → (s : State) → Sound lists s → (y j : ℕ) → IsNode lists y → j ≤ clearings s →
    is_gone lists y (number lists s y (cleared_cut s j)) ≡ not (addresses lists s j y)
gone_addresses lists law s sound y j node le =
    elim (cases_Bool (is_leaf lists y)) [
      | inl leaf ↦ gone_leaf lists y (number lists s y (cleared_cut s j)) leaf
          ∙ ap (λ (k : ℕ). not (is_member lists y k)) (number_leaf lists s.published y (cleared_cut s j) leaf)
          ∙ ap not (sym (addresses_leaf lists (cleared_cut s j) y leaf))
      | inr inner ↦
          let n : ℕ = number lists s y (cleared_cut s j) in
          let conc : IsConcentrator lists y = (node.0, node.1, inner) in
          let iff = addressed_number lists law s sound y j conc le in
          gone_inner lists y n inner
          ∙ elim (cases_Bool (addresses lists s j y)) [
            | inl e ↦ ne_eqb n 0 (λ z. omega (arith, iff.0 e)) ∙ ap not (sym e)
            | inr e ↦ eq-eqb n 0 (elim (cases_eq n 0) [
              | inl z ↦ z
              | inr nz ↦ absurd (both_ways (addresses lists s j y) e (iff.1 (omega arith)))
            ]) ∙ ap not (sym e)
          ]
    ]
