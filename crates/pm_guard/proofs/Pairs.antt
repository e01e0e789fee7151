-- Two lists side by side, of which elements are changed, and what a function gives of one place.
use Rattle.std.proofs.Common.{◌≡◌, ap, refl, ℕ, zero, suc, List, [], ◌∷◌, get_or, slice_get, Some}
use Rattle.std.proofs.Math.ListN.{set}
use Rattle.std.specs.List.{AllZip}
use Rattle.pm_guard.specs.Feeders.{one_changed}
use Rattle.pm_guard.specs.Histories.{at_place}

-- both elements of a place are changed
pub zip_both : {A B : Type 0} (R : A → B → Type 0) (change : B → B) (xs : List A) (ys : List B) (i : ℕ) (none new : A) → AllZip R xs ys →
    ((y : B) → R (get_or xs i none) y → R new (change y)) → AllZip R (set xs i new) (one_changed i change ys)
zip_both R change [] [] i none new all f = all
zip_both R change [] (y ∷ ys) i none new all f = absurd all
zip_both R change (x ∷ xs) [] i none new all f = absurd all
zip_both R change (x ∷ xs) (y ∷ ys) zero none new all f = (f y all.0, all.1)
zip_both R change (x ∷ xs) (y ∷ ys) (suc i) none new all f = (all.0, zip_both R change xs ys i none new all.1 f)

-- the second element of a place is changed
pub zip_right : {A B : Type 0} (R : A → B → Type 0) (change : B → B) (xs : List A) (ys : List B) (i : ℕ) → AllZip R xs ys →
    ((x : A) (y : B) → R x y → R x (change y)) → AllZip R xs (one_changed i change ys)
zip_right R change [] [] i all f = all
zip_right R change [] (y ∷ ys) i all f = absurd all
zip_right R change (x ∷ xs) [] i all f = absurd all
zip_right R change (x ∷ xs) (y ∷ ys) zero all f = (f x y all.0, all.1)
zip_right R change (x ∷ xs) (y ∷ ys) (suc i) all f = (all.0, zip_right R change xs ys i all.1 f)

-- the first element of a place is changed
pub zip_left : {A B : Type 0} (R : A → B → Type 0) (xs : List A) (ys : List B) (i : ℕ) (none new : A) → AllZip R xs ys →
    ((y : B) → slice_get ys i ≡ Some y → R (get_or xs i none) y → R new y) → AllZip R (set xs i new) ys
zip_left R [] [] i none new all f = all
zip_left R [] (y ∷ ys) i none new all f = absurd all
zip_left R (x ∷ xs) [] i none new all f = absurd all
zip_left R (x ∷ xs) (y ∷ ys) zero none new all f = (f y refl all.0, all.1)
zip_left R (x ∷ xs) (y ∷ ys) (suc i) none new all f = (all.0, zip_left R xs ys i none new all.1 f)

-- each pair satisfies something weaker
pub zip_weaker : {A B : Type 0} (R Q : A → B → Type 0) (xs : List A) (ys : List B) → ((x : A) (y : B) → R x y → Q x y) →
    AllZip R xs ys → AllZip Q xs ys
zip_weaker R Q [] [] f all = all
zip_weaker R Q [] (y ∷ ys) f all = absurd all
zip_weaker R Q (x ∷ xs) [] f all = absurd all
zip_weaker R Q (x ∷ xs) (y ∷ ys) f all = (f x y all.0, zip_weaker R Q xs ys f all.1)

-- what two functions give of one place, where the lists go side by side
pub place_both : {A B C D : Type 0} (R : A → B → Type 0) (P : C → D → Type 0) (c : C) (d : D) (f : B → C) (g : B → D) (xs : List A)
    (ys : List B) (i : ℕ) →
    P c d → ((x : A) (y : B) → R x y → P (f y) (g y)) → AllZip R xs ys → P (at_place c f ys i) (at_place d g ys i)
place_both R P c d f g [] [] i none each all = none
place_both R P c d f g [] (y ∷ ys) i none each all = absurd all
place_both R P c d f g (x ∷ xs) [] i none each all = none
place_both R P c d f g (x ∷ xs) (y ∷ ys) zero none each all = each x y all.0
place_both R P c d f g (x ∷ xs) (y ∷ ys) (suc i) none each all = place_both R P c d f g xs ys i none each all.1

-- what a function gives of a place, before and after an element was changed
pub place_changed : {A B : Type 0} (Q : B → B → Type 0) (none : B) (f : A → B) (change : A → A) (xs : List A) (i k : ℕ) → ((b : B) → Q b b) →
    (i ≡ k → (x : A) → Q (f x) (f (change x))) → Q (at_place none f xs k) (at_place none f (one_changed i change xs) k)
place_changed Q none f change [] i k same each = same none
place_changed Q none f change (x ∷ xs) zero zero same each = each refl x
place_changed Q none f change (x ∷ xs) zero (suc k) same each = same (at_place none f xs k)
place_changed Q none f change (x ∷ xs) (suc i) zero same each = same (f x)
place_changed Q none f change (x ∷ xs) (suc i) (suc k) same each = place_changed Q none f change xs i k same (λ e x. each (ap suc e) x)
