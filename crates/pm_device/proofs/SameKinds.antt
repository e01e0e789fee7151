-- The test of two kinds is true exactly where they are the same: no two kinds have one row of numbers.
use Rattle.std.proofs.Common.{◌≡◌, ◌∙◌, sym, ap, ℕ, ℤ, List, [], ◌∷◌, get_or, refl, IsTrue, ◌↔◌}
use Rattle.std.proofs.lemmas.Bool.Decides.{Decides-eqb, Decides-int_eq, Decides-and, Decides-like}
use Rattle.pm_device.specs.Keys.{key_of, are_same_keys, are_same_kinds}
use Rattle.pm_device.specs.declared.kind.Kind.{Kind}
use Rattle.pm_device.specs.declared.kind.Kind.TheVariants.{Freezer, HeatPump, Cogeneration, Battery, Solar, Load, Objective, Manual}

-- the kinds in the order of their numbers, each made of the parameters of its row
abbrev kinds : List (ℤ → ℤ → ℤ → ℤ → ℤ → Kind)
kinds =
    (λ a b c d e. Freezer a b c d e) ∷ (λ a b c d e. HeatPump a b c d e) ∷ (λ a b c d e. Cogeneration a b c d e)
    ∷ (λ a b c d _. Battery a b c d) ∷ (λ _ _ _ _ _. Solar) ∷ (λ _ _ _ _ _. Load) ∷ (λ _ _ _ _ _. Objective)
    ∷ (λ _ _ _ _ _. Manual) ∷ []

-- the kind of a row
abbrev kind_of_key : ℕ × ℤ × ℤ × ℤ × ℤ × ℤ → Kind
kind_of_key key = get_or kinds key.0 (λ _ _ _ _ _. Manual) key.1 key.2 key.3 key.4 key.5

kind_of_key-key_of : (kind : Kind) → kind_of_key (key_of kind) ≡ kind
kind_of_key-key_of kind = elim kind as (λ k. kind_of_key (key_of k) ≡ k) [ Manual ↦ refl | _ ↦ refl ]

-- kinds with the same row of numbers are the same
kinds_of_keys : (kind other : Kind) → key_of kind ≡ key_of other → kind ≡ other
kinds_of_keys kind other e = sym (kind_of_key-key_of kind) ∙ ap kind_of_key e ∙ kind_of_key-key_of other

-- the test of two rows of six numbers is true exactly where the rows are the same
pub same_keys : (x y : ℕ × ℤ × ℤ × ℤ × ℤ × ℤ) → IsTrue (are_same_keys x y) ↔ (x ≡ y)
same_keys x y =
    Decides-like _
    (λ p. λ i. (p.0.0.0.0.0 i, p.0.0.0.0.1 i, p.0.0.0.1 i, p.0.0.1 i, p.0.1 i, p.1 i))
    (λ p. (((((λ i. (p i).0, λ i. (p i).1), λ i. (p i).2), λ i. (p i).3), λ i. (p i).4), λ i. (p i).5))
    (Decides-and _ _ (Decides-and _ _ (Decides-and _ _
    (Decides-and _ _ (Decides-and _ _ (Decides-eqb x.0 y.0) (Decides-int_eq x.1 y.1)) (Decides-int_eq x.2 y.2))
    (Decides-int_eq x.3 y.3)) (Decides-int_eq x.4 y.4)) (Decides-int_eq x.5 y.5))

-- the test of two kinds is true exactly where they are the same
pub same_kinds : (kind other : Kind) → IsTrue (are_same_kinds kind other) ↔ (kind ≡ other)
same_kinds kind other =
    Decides-like _ (kinds_of_keys kind other) (ap key_of) (same_keys (key_of kind) (key_of other))
