-- Sums over the numbers from 1 to n.
use Rattle.std.proofs.Common.{◌≡◌, ℕ, zero, suc, ◌+◌, ◌*◌, ◌<◌, ◌≤◌, Bool, cond, ◌⊎◌, inl, inr, sym, ◌∙◌, ap, arith}
use Rattle.std.proofs.lemmas.Bool.{cases_eq, cases_Bool, cond-true, cond-false}
use Rattle.pm_market.specs.State.{sum_to}

-- a sum from 1 to n is at most another one where each of its terms is
pub sum_le : (n : ℕ) (f g : ℕ → ℕ) → ((x : ℕ) → 1 ≤ x → x ≤ n → f x ≤ g x) → sum_to n f ≤ sum_to n g
unfolding sum_to
sum_le zero f g h = omega arith
sum_le (suc n) f g h = omega (arith, h (suc n) (omega arith) (omega arith), sum_le n f g (λ x one le. h x one (omega arith)))

-- a sum from 1 to n is below another one where no term is above the other's and some term is below
pub sum_lt : (n : ℕ) (f g : ℕ → ℕ) → ((x : ℕ) → 1 ≤ x → x ≤ n → f x ≤ g x) → (k : ℕ) → 1 ≤ k → k ≤ n → f k < g k →
    sum_to n f < sum_to n g
unfolding sum_to
sum_lt zero f g h k one le lt = absurd (omega arith)
sum_lt (suc n) f g h k one le lt =
    elim (cases_eq k (suc n)) [
      | inl e ↦ omega (arith, lt, ap f e, ap g e, sum_le n f g (λ x x_one x_le. h x x_one (omega arith)))
      | inr ne ↦ omega (arith, h (suc n) (omega arith) (omega arith), sum_lt n f g (λ x x_one x_le. h x x_one (omega arith)) k one (omega arith) lt)
    ]

-- each term of a sum from 1 to n is at most the sum
pub sum_at : (n : ℕ) (f : ℕ → ℕ) (k : ℕ) → 1 ≤ k → k ≤ n → f k ≤ sum_to n f
unfolding sum_to
sum_at zero f k one le = absurd (omega arith)
sum_at (suc n) f k one le =
    elim (cases_eq k (suc n)) [
      | inl e ↦ omega (arith, ap f e)
      | inr ne ↦ omega (arith, sum_at n f k one (omega arith))
    ]

-- a sum from 1 to n of two functions added is their two sums added
pub sum_add : (n : ℕ) (f g : ℕ → ℕ) → sum_to n (λ x. f x + g x) ≡ sum_to n f + sum_to n g
unfolding sum_to
sum_add zero f g = omega arith
sum_add (suc n) f g = omega (arith, sum_add n f g)

-- the sum from 1 to n of one value is n times the value
pub sum_same : (n v : ℕ) → sum_to n (λ x. v) ≡ n * v
unfolding sum_to
sum_same zero v = omega arith
sum_same (suc n) v = omega (arith, sum_same n v)

-- two sums in either order
pub sum_swap : (m n : ℕ) (f : ℕ → ℕ → ℕ) → sum_to m (λ x. sum_to n (λ d. f x d)) ≡ sum_to n (λ d. sum_to m (λ x. f x d))
unfolding sum_to
sum_swap zero n f = sym (sum_same n 0 ∙ omega arith)
sum_swap (suc m) n f = ap (λ (k : ℕ). sum_to n (λ d. f (suc m) d) + k) (sum_swap m n f)
    ∙ sym (sum_add n (λ d. f (suc m) d) (λ d. sum_to m (λ x. f x d)))

times_step : (x y k r v : ℕ) → ((x ≡ v) × (y ≡ 1)) ⊎ ((x ≡ 0) × (y ≡ 0)) → r ≡ k * v → x + r ≡ (y + k) * v
times_step x y k r v (inl w) e = omega (arith, ap (λ (z : ℕ). (z + k) * v) w.1, w.0, e)
times_step x y k r v (inr w) e = omega (arith, ap (λ (z : ℕ). (z + k) * v) w.1, w.0, e)

-- a value taken so many times
pub sum_times : (n : ℕ) (b : ℕ → Bool) (v : ℕ) → sum_to n (λ x. cond (b x) v 0) ≡ sum_to n (λ x. cond (b x) 1 0) * v
unfolding sum_to
sum_times zero b v = omega arith
sum_times (suc n) b v =
    times_step (cond (b (suc n)) v 0) (cond (b (suc n)) 1 0) (sum_to n (λ x. cond (b x) 1 0)) (sum_to n (λ x. cond (b x) v 0)) v
    (elim (cases_Bool (b (suc n))) [
      | inl e ↦ inl (cond-true (b (suc n)) v 0 e, cond-true {A = ℕ} (b (suc n)) 1 0 e)
      | inr e ↦ inr (cond-false (b (suc n)) v 0 e, cond-false {A = ℕ} (b (suc n)) 1 0 e)
    ])
    (sum_times n b v)

-- the sum of m times each term is m times the sum
pub sum_scaled : (n m : ℕ) (f : ℕ → ℕ) → sum_to n (λ x. m * f x) ≡ m * sum_to n f
unfolding sum_to
sum_scaled zero m f = omega arith
sum_scaled (suc n) m f = omega (arith, sum_scaled n m f)
