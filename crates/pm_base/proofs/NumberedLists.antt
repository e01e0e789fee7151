-- Steps over a list whose elements are numbered, up to the first refusal.
use Rattle.std.proofs.Common.{◌≡◌, ◌∙◌, sym, ap, ℕ, suc, ◌+◌, ◌<◌, List, [], ◌∷◌, ◌++◌, length, map, get_or, take, drop, refl}
use Rattle.std.proofs.Common.{arith, subst, Result, Ok, Err, Option, Some, None, add-one}
use Rattle.std.proofs.Math.Seq.{take-suc, drop-cons}
use Rattle.std.proofs.lemmas.List.{take-append-drop, length-take-le}
use Rattle.pm_base.specs.Outcomes.{◌>>=◌, fold_from, each_from, Refuses}
use Rattle.pm_base.proofs.Outcomes.{bind_again, bind_same}

-- ---- a state that each element changes

-- the elements of two lists in turn
pub fold_from-append : {S A E : Type 0} (n : ℕ) (f : ℕ → S → A → Result S E) (s : S) (xs ys : List A) →
    fold_from n f s (xs ++ ys) ≡ (fold_from n f s xs >>= λ t. fold_from (n + length xs) f t ys)
fold_from-append n f s [] ys = ap (λ m. fold_from m f s ys) (omega arith)
fold_from-append n f s (x ∷ xs) ys =
    bind_same (f n s x) (λ t. fold_from (n + 1) f t (xs ++ ys)) (λ t. fold_from (n + 1) f t xs >>= λ u. fold_from (n + length (x ∷ xs)) f u ys)
    (λ t. fold_from-append (n + 1) f t xs ys ∙ ap (λ m. fold_from (n + 1) f t xs >>= λ u. fold_from m f u ys) (omega arith))
    ∙ bind_again (f n s x) (λ t. fold_from (n + 1) f t xs) (λ u. fold_from (n + length (x ∷ xs)) f u ys)

-- elements seen by g
pub fold_from-map : {S A B E : Type 0} (n : ℕ) (f : ℕ → S → B → Result S E) (g : A → B) (s : S) (xs : List A) →
    fold_from n (λ m t x. f m t (g x)) s xs ≡ fold_from n f s (map g xs)
fold_from-map n f g s [] = refl
fold_from-map n f g s (x ∷ xs) =
    bind_same (f n s (g x)) (λ t. fold_from (n + 1) (λ m u y. f m u (g y)) t xs) (λ t. fold_from (n + 1) f t (map g xs))
    (λ t. fold_from-map (n + 1) f g t xs)

-- one more element was taken
pub fold_from_more : {S A E : Type 0} (n : ℕ) (f : ℕ → S → A → Result S E) (s : S) (xs : List A) (i : ℕ) (d : A) (t u : S) →
    i < length xs → fold_from n f s (take i xs) ≡ Ok t → f (n + i) t (get_or xs i d) ≡ Ok u → fold_from n f s (take (i + 1) xs) ≡ Ok u
fold_from_more n f s xs i d t u within before here =
    ap (fold_from n f s) (ap (λ m. take m xs) (add-one i) ∙ take-suc xs i d within)
    ∙ fold_from-append n f s (take i xs) (get_or xs i d ∷ [])
    ∙ ap (λ m. fold_from n f s (take i xs) >>= λ v. fold_from (n + m) f v (get_or xs i d ∷ [])) (length-take-le i xs (omega arith))
    ∙ rw (before, here)

-- an element is refused, and so is the list
pub fold_from_fails : {S A E : Type 0} (n : ℕ) (f : ℕ → S → A → Result S E) (s : S) (xs : List A) (i : ℕ) (d : A) (t : S) (e : E) →
    i < length xs → fold_from n f s (take i xs) ≡ Ok t → f (n + i) t (get_or xs i d) ≡ Err e → fold_from n f s xs ≡ Err e
fold_from_fails n f s xs i d t e within before here =
    ap (fold_from n f s) (sym (take-append-drop i xs) ∙ ap (λ l. take i xs ++ l) (drop-cons xs i d within))
    ∙ fold_from-append n f s (take i xs) (get_or xs i d ∷ drop (suc i) xs)
    ∙ ap (λ m. fold_from n f s (take i xs) >>= λ v. fold_from (n + m) f v (get_or xs i d ∷ drop (suc i) xs)) (length-take-le i xs (omega arith))
    ∙ rw (before, here)

-- an element is refused, or an allocation failed there, and so it is for the list
pub Refuses-fold_from : {S A E : Type 0} (n : ℕ) (f : ℕ → S → A → Result S E) (s : S) (xs : List A) (i : ℕ) (d : A) (t : S) (refusal : Option E) →
    i < length xs → fold_from n f s (take i xs) ≡ Ok t → Refuses refusal (f (n + i) t (get_or xs i d)) → Refuses refusal (fold_from n f s xs)
Refuses-fold_from n f s xs i d t None within before here = tt
Refuses-fold_from n f s xs i d t (Some r) within before here = fold_from_fails n f s xs i d t r within before here

-- ---- a value of each element

same_again : {A E : Type 0} (r : Result (List A) E) → r ≡ (r >>= λ b. Ok b)
same_again (Ok x) = refl
same_again (Err e) = refl

regroup : {B E : Type 0} (y : B) (r s : Result (List B) E) → ((r >>= λ a. s >>= λ b. Ok (a ++ b)) >>= λ zs. Ok (y ∷ zs))
    ≡ ((r >>= λ zs. Ok (y ∷ zs)) >>= λ a. s >>= λ b. Ok (a ++ b))
regroup y (Err e) s = refl
regroup y (Ok a) (Err e) = refl
regroup y (Ok a) (Ok b) = refl

onto : {B E : Type 0} (here : Result B E) (front back all : Result (List B) E) → all ≡ (front >>= λ a. back >>= λ b. Ok (a ++ b)) →
    (here >>= λ y. all >>= λ zs. Ok (y ∷ zs)) ≡ ((here >>= λ y. front >>= λ zs. Ok (y ∷ zs)) >>= λ a. back >>= λ b. Ok (a ++ b))
onto (Err e) front back all h = refl
onto (Ok y) front back all h = ap (λ r. r >>= λ zs. Ok (y ∷ zs)) h ∙ regroup y front back

-- the elements of two lists in turn
pub each_from-append : {A B E : Type 0} (n : ℕ) (f : ℕ → A → Result B E) (xs ys : List A) →
    each_from n f (xs ++ ys) ≡ (each_from n f xs >>= λ a. each_from (n + length xs) f ys >>= λ b. Ok (a ++ b))
each_from-append n f [] ys = ap (λ m. each_from m f ys) (omega arith) ∙ same_again (each_from (n + 0) f ys)
each_from-append n f (x ∷ xs) ys =
    onto (f n x) (each_from (n + 1) f xs) (each_from (n + length (x ∷ xs)) f ys) (each_from (n + 1) f (xs ++ ys))
    (subst (λ (m : ℕ). each_from (n + 1) f (xs ++ ys) ≡ (each_from (n + 1) f xs >>= λ a. each_from m f ys >>= λ b. Ok (a ++ b)))
    (omega arith) (each_from-append (n + 1) f xs ys))

-- one more element was read
pub each_from_more : {A B E : Type 0} (n : ℕ) (f : ℕ → A → Result B E) (xs : List A) (i : ℕ) (d : A) (ys : List B) (y : B) →
    i < length xs → each_from n f (take i xs) ≡ Ok ys → f (n + i) (get_or xs i d) ≡ Ok y → each_from n f (take (i + 1) xs) ≡ Ok (ys ++ y ∷ [])
each_from_more n f xs i d ys y within before here =
    ap (each_from n f) (ap (λ m. take m xs) (add-one i) ∙ take-suc xs i d within)
    ∙ each_from-append n f (take i xs) (get_or xs i d ∷ [])
    ∙ ap (λ m. each_from n f (take i xs) >>= λ a. each_from (n + m) f (get_or xs i d ∷ []) >>= λ b. Ok (a ++ b)) (length-take-le i xs (omega arith))
    ∙ rw (before, here)

-- an element is refused, and so is the list
pub each_from_fails : {A B E : Type 0} (n : ℕ) (f : ℕ → A → Result B E) (xs : List A) (i : ℕ) (d : A) (ys : List B) (e : E) →
    i < length xs → each_from n f (take i xs) ≡ Ok ys → f (n + i) (get_or xs i d) ≡ Err e → each_from n f xs ≡ Err e
each_from_fails n f xs i d ys e within before here =
    ap (each_from n f) (sym (take-append-drop i xs) ∙ ap (λ l. take i xs ++ l) (drop-cons xs i d within))
    ∙ each_from-append n f (take i xs) (get_or xs i d ∷ drop (suc i) xs)
    ∙ ap (λ m. each_from n f (take i xs) >>= λ a. each_from (n + m) f (get_or xs i d ∷ drop (suc i) xs) >>= λ b. Ok (a ++ b))
    (length-take-le i xs (omega arith))
    ∙ rw (before, here)

-- elements seen by g
pub each_from-map : {A B C E : Type 0} (n : ℕ) (f : ℕ → B → Result C E) (g : A → B) (xs : List A) →
    each_from n (λ m x. f m (g x)) xs ≡ each_from n f (map g xs)
each_from-map n f g [] = refl
each_from-map n f g (x ∷ xs) = ap (λ r. f n (g x) >>= λ y. r >>= λ ys. Ok (y ∷ ys)) (each_from-map (n + 1) f g xs)

-- the same where an allocation may have failed
pub Refuses-each_from : {A B E : Type 0} (n : ℕ) (f : ℕ → A → Result B E) (xs : List A) (i : ℕ) (d : A) (ys : List B) (refusal : Option E) →
    i < length xs → each_from n f (take i xs) ≡ Ok ys → Refuses refusal (f (n + i) (get_or xs i d)) → Refuses refusal (each_from n f xs)
Refuses-each_from n f xs i d ys None within before here = tt
Refuses-each_from n f xs i d ys (Some r) within before here = each_from_fails n f xs i d ys r within before here
