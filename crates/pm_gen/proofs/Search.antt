-- The first element that passes a test.
use Rattle.std.proofs.Common.{◌≡◌, ◌+◌, ◌<◌, Bool, true, false, cond, not, List, [], ◌∷◌, ◌++◌, length, Some, None, refl, ap, ◌∙◌}
use Rattle.std.proofs.Common.{arith, length-append}
use Rattle.std.specs.List.{list_any, position, position_or_len}
use Rattle.std.proofs.lemmas.Bool.Decides.{nat_tests}
use Rattle.pm_base.proofs.Bools.{or_false}

past_all : {A : Type 0} (p : A → Bool) (xs : List A) → list_any p xs ≡ false → position_or_len p xs ≡ length xs
past_all p [] none = refl
past_all p (x ∷ xs) none =
    let both = or_false (p x) (list_any p xs) none in
    ap (λ b. cond (not b) (1 + position_or_len p xs) 0) both.0
    ∙ ap (λ n. 1 + n) (past_all p xs both.1) ∙ omega arith

-- where no element passes a test, the search finds no place
pub position-none : {A : Type 0} (p : A → Bool) (xs : List A) → list_any p xs ≡ false → position p xs ≡ None
position-none p xs none = let past = past_all p xs none in grind (arith, nat_tests)

past_front : {A : Type 0} (p : A → Bool) (xs : List A) (y : A) (ys : List A) → list_any p xs ≡ false → p y ≡ true →
    position_or_len p (xs ++ y ∷ ys) ≡ length xs
past_front p [] y ys none here = ap (λ b. cond (not b) (1 + position_or_len p ys) 0) here
past_front p (x ∷ xs) y ys none here =
    let both = or_false (p x) (list_any p xs) none in
    ap (λ b. cond (not b) (1 + position_or_len p (xs ++ y ∷ ys)) 0) both.0
    ∙ ap (λ n. 1 + n) (past_front p xs y ys both.1 here) ∙ omega arith

-- the first element that passes is found at the place behind those that do not
pub position-first : {A : Type 0} (p : A → Bool) (xs : List A) (y : A) (ys : List A) → list_any p xs ≡ false → p y ≡ true →
    position p (xs ++ y ∷ ys) ≡ Some (length xs)
position-first p xs y ys none here =
    let past = past_front p xs y ys none here in
    let long : length xs < length (xs ++ y ∷ ys) = omega (arith, length-append xs (y ∷ ys)) in
    grind (arith, nat_tests)
