-- Sums of whole numbers over the nodes from 1 to n, and sums of bids at a step as such sums.
use Rattle.std.proofs.Common.{◌≡◌, ◌∙◌, sym, ap, ℕ, zero, suc, ◌+◌, ◌*◌, ◌≤◌, ℤ, pos, ◌+ℤ◌, neg_ℤ, ◌≤ℤ◌, Bool}
use Rattle.std.proofs.Common.{true, false, cond, eqb, List}
use Rattle.std.proofs.Common.{[], ◌∷◌, ◌++◌, length, map, refl, arith}
use Rattle.std.specs.Prelude.{filter}
use Rattle.std.specs.List.{range_with_len}
use Rattle.std.proofs.lemmas.Bool.{cond-true, cond-false, eq-eqb, ne_eqb}
use Rattle.std.proofs.lemmas.Int.{ints}
use Rattle.std.proofs.lemmas.List.{map-append}
use Rattle.std.proofs.lemmas.List.Elements.{All-cons, All-nil, filter-append}
use Rattle.pm_base.proofs.Lists.{range_with_len-more}
use Rattle.pm_bid.specs.Bids.{demand_at, zeros, HaveSteps}
use Rattle.pm_bid.proofs.Sums.{Has, total_at, zeros-at}
use Rattle.pm_market.specs.Offers.{int_sum_to}
use Rattle.pm_laws.proofs.Offers.{int_sum_same, int_sum_none, int_sum_only}

-- ---- sums over the nodes

-- terms that are 0 for each node from 1 to n add up to 0
pub sum_zeros : (n : ℕ) (f : ℕ → ℤ) → ((x : ℕ) → 1 ≤ x → x ≤ n → f x ≡ pos 0) → int_sum_to n f ≡ pos 0
sum_zeros n f h = int_sum_same n f (λ x. pos 0) h ∙ int_sum_none n

-- the term of one number, as a test chooses it
pub sum_at : (n : ℕ) (k : ℕ) (v : ℤ) → 1 ≤ k → k ≤ n → int_sum_to n (λ x. cond (eqb x k) v (pos 0)) ≡ v
sum_at n k v one le =
    int_sum_only n (λ x. cond (eqb x k) v (pos 0)) k one le (λ x ne x_one x_le. cond-false (eqb x k) v (pos 0) (ne_eqb x k ne))
    ∙ cond-true (eqb k k) v (pos 0) (eq-eqb k k refl)

-- a test that does not depend on the term
pub sum_where : (b : Bool) (n : ℕ) (f : ℕ → ℤ) → cond b (int_sum_to n f) (pos 0) ≡ int_sum_to n (λ x. cond b (f x) (pos 0))
sum_where true n f = refl
sum_where false n f = sym (int_sum_none n)

-- a sum of two numbers where a test holds, else 0, is the sum of each of them where it holds, else 0
pub add_where : (b : Bool) (y z : ℤ) → cond b (y +ℤ z) (pos 0) ≡ cond b y (pos 0) +ℤ cond b z (pos 0)
add_where true y z = refl
add_where false y z = omega (arith, ints)

-- a test that chooses between 0 and 0 gives 0
pub none_where : (b : Bool) → cond b (pos 0) (pos 0) ≡ pos 0
none_where true = refl
none_where false = refl

-- terms that are nowhere greater
pub sum_at_most : (n : ℕ) (f g : ℕ → ℤ) → ((x : ℕ) → 1 ≤ x → x ≤ n → f x ≤ℤ g x) → int_sum_to n f ≤ℤ int_sum_to n g
unfolding int_sum_to
sum_at_most zero f g h = omega (arith, ints)
sum_at_most (suc n) f g h =
    omega (arith, ints, h (suc n) (omega arith) (omega arith), sum_at_most n f g (λ x one le. h x one (omega arith)))

-- the same number for each of n nodes adds up to n times that number
pub sum_of_copies : (n limit : ℕ) → int_sum_to n (λ x. pos limit) ≡ pos (n * limit)
unfolding int_sum_to
sum_of_copies zero limit = omega (arith, ints)
sum_of_copies (suc n) limit = omega (arith, ints, sum_of_copies n limit)

-- a number between -limit and limit, where the limit is a sum too
pub record IsNear (limit number : ℤ) : Type 0 where
  -- the number is at least minus the limit
  pub low : neg_ℤ limit ≤ℤ number
  -- the number is at most the limit
  pub high : number ≤ℤ limit

-- the sum of two numbers lies within the sum of their limits
pub near_more : (m n a b : ℤ) → IsNear m a → IsNear n b → IsNear (m +ℤ n) (a +ℤ b)
near_more m n a b h k = record { low = omega (arith, ints, h.low, k.low); high = omega (arith, ints, h.high, k.high) }

-- terms that each lie within a limit of their own add up to a number within the sum of these limits
pub near_sum : (n : ℕ) (limit f : ℕ → ℤ) → ((x : ℕ) → 1 ≤ x → x ≤ n → IsNear (limit x) (f x)) →
    IsNear (int_sum_to n limit) (int_sum_to n f)
unfolding int_sum_to
near_sum zero limit f h = record { low = omega (arith, ints); high = omega (arith, ints) }
near_sum (suc n) limit f h =
    near_more (limit (suc n)) (int_sum_to n limit) (f (suc n)) (int_sum_to n f) (h (suc n) (omega arith) (omega arith))
    (near_sum n limit f (λ x one le. h x one (omega arith)))

-- a number within a limit stays so where one test replaces both by 0 or neither
pub near_where : (b : Bool) (limit z : ℤ) → IsNear limit z → IsNear (cond b limit (pos 0)) (cond b z (pos 0))
near_where true limit z h = h
near_where false limit z h = record { low = omega (arith, ints); high = omega (arith, ints) }

-- ---- sums of bids at a step

-- at a step the bids of two joined lists add up to what those of each list add up to
pub total_at-append : (xs ys : List (List ℤ)) (step : ℕ) → total_at (xs ++ ys) step ≡ total_at xs step +ℤ total_at ys step
total_at-append [] ys step = omega (arith, ints)
total_at-append (x ∷ xs) ys step = omega (arith, ints, total_at-append xs ys step)

-- at a step the bids of the nodes from 1 to n add up to the sum over these nodes of their demands
pub total_of_all : (f : ℕ → List ℤ) (n step : ℕ) → total_at (map f (range_with_len 1 n)) step ≡ int_sum_to n (λ x. demand_at (f x) step)
unfolding int_sum_to
total_of_all f zero step = refl
total_of_all f (suc n) step =
    let one : suc n ≡ n + 1 = omega arith in
    let last : 1 + n ≡ suc n = omega arith in
    let here : total_at (map f (range_with_len 1 (suc n))) step ≡ total_at (map f (range_with_len 1 n)) step +ℤ total_at (f (1 + n) ∷ []) step =
    ap (λ m. total_at (map f (range_with_len 1 m)) step) one
    ∙ ap (λ xs. total_at (map f xs) step) (range_with_len-more 1 n)
    ∙ ap (λ xs. total_at xs step) (map-append f (range_with_len 1 n) ((1 + n) ∷ []))
    ∙ total_at-append (map f (range_with_len 1 n)) (f (1 + n) ∷ []) step in
    let same : demand_at (f (1 + n)) step ≡ demand_at (f (suc n)) step = ap (λ m. demand_at (f m) step) last in
    omega (arith, ints, here, same, total_of_all f n step)

total_of_one : (b : Bool) (f : ℕ → List ℤ) (x step : ℕ) → total_at (map f (cond b (x ∷ []) [])) step ≡ cond b (demand_at (f x) step) (pos 0)
total_of_one true f x step = omega (arith, ints)
total_of_one false f x step = refl

-- of the nodes that pass a test
pub total_of_some : (f : ℕ → List ℤ) (p : ℕ → Bool) (n step : ℕ) →
    total_at (map f (filter p (range_with_len 1 n))) step ≡ int_sum_to n (λ x. cond (p x) (demand_at (f x) step) (pos 0))
unfolding int_sum_to
total_of_some f p zero step = refl
total_of_some f p (suc n) step =
    let one : suc n ≡ n + 1 = omega arith in
    let last : 1 + n ≡ suc n = omega arith in
    let front = filter p (range_with_len 1 n) in
    let here : total_at (map f (filter p (range_with_len 1 (suc n)))) step ≡ total_at (map f front) step +ℤ total_at
    (map f (filter p ((1 + n) ∷ []))) step =
    ap (λ m. total_at (map f (filter p (range_with_len 1 m))) step) one
    ∙ ap (λ xs. total_at (map f (filter p xs)) step) (range_with_len-more 1 n)
    ∙ ap (λ xs. total_at (map f xs) step) (filter-append p (range_with_len 1 n) ((1 + n) ∷ []))
    ∙ ap (λ xs. total_at xs step) (map-append f front (filter p ((1 + n) ∷ [])))
    ∙ total_at-append (map f front) (map f (filter p ((1 + n) ∷ []))) step in
    let same : total_at (map f (filter p ((1 + n) ∷ []))) step ≡ cond (p (suc n)) (demand_at (f (suc n)) step) (pos 0) =
    total_of_one (p (1 + n)) f (1 + n) step ∙ ap (λ m. cond (p m) (demand_at (f m) step) (pos 0)) last in
    omega (arith, ints, here, same, total_of_some f p n step)

-- where each bid that f gives has so many steps, so have those that f gives for a list of nodes
pub all_steps : (steps : ℕ) (f : ℕ → List ℤ) (xs : List ℕ) → ((x : ℕ) → length (f x) ≡ steps) → HaveSteps steps (map f xs)
all_steps steps f [] h = All-nil (Has steps)
all_steps steps f (x ∷ xs) h = All-cons (Has steps) (f x) (map f xs) (h x) (all_steps steps f xs h)

-- the demand of a bid that a test chooses
pub demand_where : (b : Bool) (bid : List ℤ) (steps step : ℕ) → demand_at (cond b bid (zeros steps)) step ≡ cond b (demand_at bid step) (pos 0)
demand_where true bid steps step = refl
demand_where false bid steps step = zeros-at steps step
