-- Sums over lists of nodes, as sums over the nodes from 1 to n.
use Rattle.std.proofs.Common.{◌≡◌, ◌∙◌, ap, ℕ, zero, suc, ◌+◌, ◌<◌, ℤ, pos, ◌+ℤ◌, ◌*ℤ◌, Bool, true, false, cond, List, []}
use Rattle.std.proofs.Common.{◌∷◌, ◌++◌, length}
use Rattle.std.proofs.Common.{take, get_or, map, refl, arith}
use Rattle.std.specs.Prelude.{filter}
use Rattle.std.specs.List.{range_with_len}
use Rattle.std.proofs.Math.IntN.{*ℤ_comm, zero-*ℤ}
use Rattle.std.proofs.lemmas.Int.{ints}
use Rattle.std.proofs.lemmas.List.Elements.{filter-append, filter_more}
use Rattle.pm_base.proofs.Lists.{range_with_len-more}
use Rattle.pm_market.specs.Offers.{int_sum_to}
use Rattle.pm_offer.specs.Powers.{total_watts}
use Rattle.pm_bill.specs.Shares.{sum_each}
use Rattle.pm_bill.proofs.Products.{sum-times}

-- a sum over two lists, one behind the other
pub sum_each-append : {X : Type 0} (part : X → ℤ) (xs ys : List X) → sum_each part (xs ++ ys) ≡ sum_each part xs +ℤ sum_each part ys
sum_each-append part [] ys = omega (arith, ints)
sum_each-append part (x ∷ xs) ys = let rest = sum_each-append part xs ys in omega (arith, ints, rest)

-- a sum over what a function made
pub sum_each-map : {X Y : Type 0} (part : Y → ℤ) (f : X → Y) (xs : List X) → sum_each part (map f xs) ≡ sum_each (λ x. part (f x)) xs
sum_each-map part f [] = refl
sum_each-map part f (x ∷ xs) = ap (λ z. part (f x) +ℤ z) (sum_each-map part f xs)

-- sums of numbers that agree
pub sum_each-same : {X : Type 0} (f g : X → ℤ) (xs : List X) → ((x : X) → f x ≡ g x) → sum_each f xs ≡ sum_each g xs
sum_each-same f g [] same = refl
sum_each-same f g (x ∷ xs) same = ap (λ z. z +ℤ sum_each f xs) (same x) ∙ ap (λ z. g x +ℤ z) (sum_each-same f g xs same)

-- numbers of watts, each with its node
pub watts-sum_each : (f : ℕ → ℤ) (xs : List ℕ) → total_watts (map f xs) ≡ sum_each f xs
watts-sum_each f [] = refl
watts-sum_each f (x ∷ xs) = ap (λ z. f x +ℤ z) (watts-sum_each f xs)

sum_each-one : (f : ℕ → ℤ) (p : ℕ → Bool) (x : ℕ) → sum_each f (filter p (x ∷ [])) ≡ cond (p x) (f x) (pos 0)
sum_each-one f p x = where_it_is (p x)
  where
    where_it_is : (b : Bool) → sum_each f (cond b (x ∷ []) []) ≡ cond b (f x) (pos 0)
    where_it_is true = omega (arith, ints)
    where_it_is false = refl

-- the nodes that pass a test
pub sum_each-nodes : (f : ℕ → ℤ) (p : ℕ → Bool) (n : ℕ) → sum_each f (filter p (range_with_len 1 n))
    ≡ int_sum_to n (λ x. cond (p x) (f x) (pos 0))
unfolding int_sum_to
sum_each-nodes f p zero = refl
sum_each-nodes f p (suc n) =
    let one : suc n ≡ n + 1 = omega arith in
    let last : 1 + n ≡ suc n = omega arith in
    let front = filter p (range_with_len 1 n) in
    let here : sum_each f (filter p (range_with_len 1 (suc n))) ≡ sum_each f front +ℤ sum_each f (filter p ((1 + n) ∷ [])) =
    ap (λ m. sum_each f (filter p (range_with_len 1 m))) one
    ∙ ap (λ xs. sum_each f (filter p xs)) (range_with_len-more 1 n)
    ∙ ap (sum_each f) (filter-append p (range_with_len 1 n) ((1 + n) ∷ []))
    ∙ sum_each-append f front (filter p ((1 + n) ∷ [])) in
    let same : sum_each f (filter p ((1 + n) ∷ [])) ≡ cond (p (suc n)) (f (suc n)) (pos 0) =
    sum_each-one f p (1 + n) ∙ ap (λ m. cond (p m) (f m) (pos 0)) last in
    omega (arith, ints, here, same, sum_each-nodes f p n)

-- a number times a sum
pub times-int_sum : (z : ℤ) (n : ℕ) (f : ℕ → ℤ) → z *ℤ int_sum_to n f ≡ int_sum_to n (λ x. z *ℤ f x)
unfolding int_sum_to
times-int_sum z zero f = *ℤ_comm z (pos 0) ∙ zero-*ℤ z
times-int_sum z (suc n) f =
    *ℤ_comm z (f (suc n) +ℤ int_sum_to n f)
    ∙ sum-times (f (suc n)) (int_sum_to n f) z
    ∙ ap (λ y. y +ℤ (int_sum_to n f *ℤ z)) (*ℤ_comm (f (suc n)) z)
    ∙ ap (λ y. (z *ℤ f (suc n)) +ℤ y) (*ℤ_comm (int_sum_to n f) z ∙ times-int_sum z n f)

-- a number times a term that a test chooses
pub times-where : (z : ℤ) (b : Bool) (y : ℤ) → z *ℤ cond b y (pos 0) ≡ cond b (z *ℤ y) (pos 0)
times-where z true y = refl
times-where z false y = *ℤ_comm z (pos 0) ∙ zero-*ℤ z

-- ---- the elements that pass a test, one by one

-- the sum over one element more of a list
pub sum_each-filter_more : {X : Type 0} (part : X → ℤ) (p : X → Bool) (xs : List X) (i : ℕ) (d : X) → i < length xs →
    sum_each part (filter p (take (i + 1) xs)) ≡ sum_each part (filter p (take i xs)) +ℤ cond (p (get_or xs i d)) (part (get_or xs i d)) (pos 0)
sum_each-filter_more part p xs i d inside =
    ap (sum_each part) (filter_more p xs i d inside)
    ∙ sum_each-append part (filter p (take i xs)) (cond (p (get_or xs i d)) (get_or xs i d ∷ []) [])
    ∙ ap (λ z. sum_each part (filter p (take i xs)) +ℤ z) (where_it_is (p (get_or xs i d)))
  where
    where_it_is : (b : Bool) → sum_each part (cond b (get_or xs i d ∷ []) []) ≡ cond b (part (get_or xs i d)) (pos 0)
    where_it_is true = omega (arith, ints)
    where_it_is false = refl
