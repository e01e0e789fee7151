-- Filters of lists.
use Rattle.std.proofs.Common.{◌≡◌, ◌∙◌, ap, refl, Bool, true, false, cond, List, [], ◌∷◌, map}
use Rattle.std.specs.Prelude.{filter, ◌&&◌}
use Rattle.std.proofs.lemmas.Bool.{cond-true, cond-false}

-- a filter of what a function made
pub filter-map : {X Y : Type 0} (p : Y → Bool) (f : X → Y) (xs : List X) → filter p (map f xs) ≡ map f (filter (λ x. p (f x)) xs)
filter-map p f [] = refl
filter-map p f (x ∷ xs) = ap (λ ys. cond (p (f x)) (f x ∷ ys) ys) (filter-map p f xs) ∙ where_it_is (p (f x))
  where
    where_it_is : (b : Bool) →
        cond b (f x ∷ map f (filter (λ y. p (f y)) xs)) (map f (filter (λ y. p (f y)) xs))
        ≡ map f (cond b (x ∷ filter (λ y. p (f y)) xs) (filter (λ y. p (f y)) xs))
    where_it_is true = refl
    where_it_is false = refl

filter_both : {X : Type 0} (p : X → Bool) (x : X) (a b : Bool) (once both : List X) → p x ≡ a → filter p once ≡ both →
    filter p (cond b (x ∷ once) once) ≡ cond (a && b) (x ∷ both) both
filter_both p x true true once both here rest = cond-true (p x) (x ∷ filter p once) (filter p once) here ∙ ap (λ ys. x ∷ ys) rest
filter_both p x false true once both here rest = cond-false (p x) (x ∷ filter p once) (filter p once) here ∙ rest
filter_both p x true false once both here rest = rest
filter_both p x false false once both here rest = rest

-- a filter of what another one kept
pub filter_twice : {X : Type 0} (p q : X → Bool) (xs : List X) → filter p (filter q xs) ≡ filter (λ x. p x && q x) xs
filter_twice p q [] = refl
filter_twice p q (x ∷ xs) = filter_both p x (p x) (q x) (filter q xs) (filter (λ y. p y && q y) xs) refl (filter_twice p q xs)
