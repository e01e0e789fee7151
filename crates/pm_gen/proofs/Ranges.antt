-- Ranges of numbers, and tests that are computed over them.
use Rattle.std.proofs.Common.{◌≡◌, ℕ, zero, suc, ◌+◌, ◌<◌, ◌≤◌, Bool, true, List, [], ◌∷◌, ◌++◌, sym, ap, ◌∙◌, arith}
use Rattle.std.proofs.Common.{◌⊎◌, inl, inr, map, append_assoc}
use Rattle.std.specs.List.{list_all, range_with_len}
use Rattle.std.proofs.lemmas.Bool.{cases_lt}
use Rattle.std.proofs.lemmas.List.{map-append}
use Rattle.std.proofs.lemmas.List.FromFn.{map-range_with_len_more}
use Rattle.pm_tree.proofs.Named.{and_true}

-- a test that each number of a range passes
passes_by : (p : ℕ → Bool) (a i : ℕ) → p a ≡ true → (a < i → p i ≡ true) → a ≤ i → (a < i) ⊎ (i ≤ a) → p i ≡ true
passes_by p a i here later low (inl less) = later less
passes_by p a i here later low (inr high) = let same : a ≡ i = omega arith in ap p (sym same) ∙ here

-- a test that all numbers of a range pass is passed by each number of the range
pub in_range : (p : ℕ → Bool) (a n i : ℕ) → list_all p (range_with_len a n) ≡ true → a ≤ i → i < a + n → p i ≡ true
in_range p a zero i all low high = absurd (omega arith)
in_range p a (suc n) i all low high =
    let both = and_true (p a) (list_all p (range_with_len (a + 1) n)) all in
    passes_by p a i both.0 (λ less. in_range p (a + 1) n i both.1 (omega arith) (omega arith)) low (cases_lt a i)

-- a range goes on where its front ends
pub range_with_len-append : (a m n : ℕ) → range_with_len a (m + n) ≡ range_with_len a m ++ range_with_len (a + m) n
range_with_len-append a zero n =
    let none : 0 + n ≡ n = omega arith in
    let same : a ≡ a + 0 = omega arith in
    ap (range_with_len a) none ∙ ap (λ b. range_with_len b n) same
range_with_len-append a (suc m) n =
    let count : suc m + n ≡ suc (m + n) = omega arith in
    let seam : (a + 1) + m ≡ a + suc m = omega arith in
    ap (range_with_len a) count ∙ ap (λ xs. a ∷ xs) (range_with_len-append (a + 1) m n ∙ ap (λ b. range_with_len (a + 1) m ++ range_with_len b n) seam)

-- a list that is made from a range, with one element more
pub map-pushed : {X Y : Type 0} (g : X → Y) (f : ℕ → Y) (front : List Y) (old new : List X) (x : X) (k : ℕ) → new ≡ old ++ x ∷ [] →
    g x ≡ f (k + 1) → map g old ≡ front ++ map f (range_with_len 1 k) → map g new ≡ front ++ map f (range_with_len 1 (k + 1))
map-pushed g f front old new x k pushed last before =
    ap (map g) pushed
    ∙ map-append g old (x ∷ [])
    ∙ (λ i. before i ++ last i ∷ [])
    ∙ append_assoc front (map f (range_with_len 1 k)) (f (k + 1) ∷ [])
    ∙ ap (λ ys. front ++ ys) (sym (map-range_with_len_more f 1 k (k + 1) (omega arith)))
