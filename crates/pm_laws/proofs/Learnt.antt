-- What stays and what changes where a number is learnt.
use Rattle.std.proofs.Common.{◌≡◌, ◌∙◌, sym, ap, ℕ, false, length, refl, arith, inl, inr}
use Rattle.std.proofs.lemmas.Bool.{cases_Bool, both_ways}
use Rattle.pm_market.specs.Lists.{Lists, parent, IsInner, Lawful}
use Rattle.pm_market.specs.State.{State, update, is_same_on, SameOn, cut_at, knowledge_of, part, knowledge}
use Rattle.pm_base.specs.Cuts.{Cut}
use Rattle.pm_market.specs.Moves.{Legal, step}
use Rattle.pm_market.specs.Sound.{Sound}
use Rattle.pm_market.specs.declared.moves.Move.TheVariants.{Learn}
use Rattle.pm_market.proofs.Tree.{child_of}
use Rattle.pm_market.proofs.Cuts.{updated_same, updated_other, same_from, is_same_from, not_same_from, known_at}
use Rattle.pm_laws.proofs.Kept.{sound_step}
use Rattle.pm_laws.proofs.Numbers.{published_is_part, known_heads}

-- a test of sameness sees the leaves alone
pub is_same_alike : (lists : Lists) → Lawful lists → (x : ℕ) (a a' b : Cut) → SameOn lists x a a' → is_same_on lists x a b ≡ is_same_on lists x a' b
is_same_alike lists law x a a' b alike =
    elim (cases_Bool (is_same_on lists x a b)) [
      | inl e ↦ let h = same_from lists law x a b e in e ∙ sym (is_same_from lists x a' b (λ d leaf. sym (alike d leaf) ∙ h d leaf))
      | inr e ↦ e ∙ sym (not_same_from lists law x a' b
          (λ h. both_ways (is_same_on lists x a b) e (is_same_from lists x a b (λ d leaf. alike d leaf ∙ h d leaf))))
    ]

-- what y knows after x was learnt, where x is no child of y
pub known_elsewhere : (lists : Lists) → Lawful lists → (s : State) (x n y : ℕ) → IsInner lists y → (parent lists x ≡ y → ⊥) →
    SameOn lists y (knowledge lists s y) (knowledge lists (step lists s (Learn x n)) y)
known_elsewhere lists law s x n y inner ne d leaf =
    let w = child_of lists law y d inner leaf in
    let other : w.0 ≡ x → ⊥ = λ e. ne (sym (ap (parent lists) e) ∙ w.2) in
    ap (λ (z : ℕ). knowledge lists s z d) (sym w.2) ∙ known_at lists law s.published s.learnt w.0 d w.1.0 w.3
    ∙ ap (λ (k : ℕ). part lists s w.0 k d) (sym (updated_other s.learnt x n w.0 other))
    ∙ sym (ap (λ (z : ℕ). knowledge_of lists s.published (update s.learnt x n) z d) (sym w.2)
    ∙ known_at lists law s.published (update s.learnt x n) w.0 d w.1.0 w.3)

-- what a node knows after it learnt something is not what it published or cleared last
pub learnt_differs : (lists : Lists) → Lawful lists → (s : State) → Sound lists s → (x n : ℕ) → Legal lists s (Learn x n) →
    is_same_on lists (parent lists x) (knowledge lists (step lists s (Learn x n)) (parent lists x))
    (cut_at (s.published (parent lists x)) (length (s.published (parent lists x)))) ≡ false
learnt_differs lists law s sound x n legal =
    let y : ℕ = parent lists x in
    let s' : State = step lists s (Learn x n) in
    let sound' = sound_step lists law s sound (Learn x n) legal in
    elim (cases_Bool (is_same_on lists y (knowledge lists s' y) (cut_at (s.published y) (length (s.published y))))) [
      | inl e ↦
          let all = (known_heads lists law s' sound' y (law.inner x legal.0)).0 e x legal.0 refl in
          let at = (published_is_part lists law s sound x (length (s.published y)) legal.0 (omega arith)).1 in
          absurd (omega (arith, all, at, updated_same s.learnt x n, legal.1))
      | inr e ↦ e
    ]
