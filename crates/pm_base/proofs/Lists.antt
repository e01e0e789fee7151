-- Lists.
use Rattle.std.proofs.Common.{◌≡◌, ◌∙◌, ap, ℕ, zero, suc, ◌+◌, ◌≤◌, List, [], ◌∷◌, ◌++◌, length, get_or, replicate, refl}
use Rattle.std.proofs.Common.{arith}
use Rattle.std.specs.List.{range_with_len}
use Rattle.std.specs.Simd.Lanes.{zip2}

-- two lists taken together are as long as the second, where that is the shorter one
pub length-zip2-second : {A B C : Type 0} (f : A → B → C) (xs : List A) (ys : List B) → length ys ≤ length xs → length (zip2 f xs ys) ≡ length ys
length-zip2-second f [] [] short = refl
length-zip2-second f [] (y ∷ ys) short = absurd (omega arith)
length-zip2-second f (x ∷ xs) [] short = refl
length-zip2-second f (x ∷ xs) (y ∷ ys) short = ap (λ n. suc n) (length-zip2-second f xs ys (omega arith))

-- one more number joins a row of numbers at its end
pub range_with_len-more : (first count : ℕ) → range_with_len first (count + 1) ≡ range_with_len first count ++ (first + count) ∷ []
range_with_len-more first zero = let same : first ≡ first + 0 = omega arith in ap (λ n. n ∷ []) same
range_with_len-more first (suc count) =
    let more : suc count + 1 ≡ suc (count + 1) = omega arith in
    let same : (first + 1) + count ≡ first + suc count = omega arith in
    ap (range_with_len first) more
    ∙ ap (λ rest. first ∷ rest) (range_with_len-more (first + 1) count ∙ ap (λ n. range_with_len (first + 1) count ++ n ∷ []) same)

-- copies of one value have it at every place, as past their end
pub get_or-replicate_same : {A : Type 0} (n i : ℕ) (a : A) → get_or (replicate n a) i a ≡ a
get_or-replicate_same zero i a = refl
get_or-replicate_same (suc n) zero a = refl
get_or-replicate_same (suc n) (suc i) a = get_or-replicate_same n i a
