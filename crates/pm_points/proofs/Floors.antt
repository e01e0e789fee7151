-- Floors of products: what falls to a part of a line.
use Rattle.std.proofs.Common.{◌≡◌, ◌∙◌, ap, subst, ℕ, zero, suc, ◌+◌, ◌-◌, ◌*◌, ◌/◌, ◌<◌, ◌≤◌, ℤ, pos, negsuc}
use Rattle.std.proofs.Common.{◌≤ℤ◌, arith}
use Rattle.std.specs.Prelude.{◌*ℤ◌, neg_ℤ, ◌<ℤ◌, int_div}
use Rattle.std.specs.Int.{int_div_euclid}
use Rattle.std.proofs.Math.Nat.{div-mul-le_self, mul-le-mul_left, mul-le-mul_right, zero-div}
use Rattle.std.proofs.lemmas.Nat.{le-div, div-mul-add}
use Rattle.std.proofs.lemmas.Int.{ints}

div_le : (a b k : ℕ) → 0 < k → a ≤ b → a / k ≤ b / k
div_le a b k positive below = le-div (a / k) b k positive (omega (arith, div-mul-le_self a k))

-- rounding down keeps the order
floor_le : (a b : ℤ) (k : ℕ) → 0 < k → a ≤ℤ b → int_div_euclid a (pos k) ≤ℤ int_div_euclid b (pos k)
floor_le (pos a) (pos b) k positive below = let within : a ≤ b = omega (arith, ints) in omega (arith, ints, div_le a b k positive within)
floor_le (pos a) (negsuc b) k positive below = absurd (omega (arith, ints))
floor_le (negsuc a) (pos b) k positive below = omega (arith, ints)
floor_le (negsuc a) (negsuc b) k positive below = let within : b ≤ a = omega (arith, ints) in omega (arith, ints, div_le b a k positive within)

-- a longer part of a fall falls further
product_le : (change a b : ℤ) → change ≤ℤ pos 0 → pos 0 ≤ℤ a → a ≤ℤ b → (change *ℤ b) ≤ℤ (change *ℤ a)
product_le (pos zero) (pos a) (pos b) falls from below = omega (arith, ints)
product_le (pos (suc n)) a b falls from below = absurd (omega (arith, ints))
product_le (negsuc n) (pos a) (pos b) falls from below = let within : a ≤ b =
    omega (arith, ints) in omega (arith, ints, mul-le-mul_left {m = a} {n = b} (suc n) within)
product_le change (pos a) (negsuc b) falls from below = absurd (omega (arith, ints))
product_le change (negsuc a) b falls from below = absurd (omega (arith, ints))

-- the floor of a negative number
floor_negative : (m k : ℕ) → 0 < m → int_div_euclid (neg_ℤ (pos m)) (pos k) ≡ negsuc ((m - 1) / k)
floor_negative zero k positive = absurd (omega arith)
floor_negative (suc m) k positive = let e : m ≡ suc m - 1 = omega arith in ap (λ n. negsuc (n / k)) e

-- the whole change falls to the whole width
floor_exact : (change : ℤ) (k : ℕ) → change ≤ℤ pos 0 → 0 < k → int_div_euclid (change *ℤ pos k) (pos k) ≡ change
floor_exact (pos zero) k falls positive = let e : 0 * k ≡ 0 = omega arith in ap (λ n. pos (n / k)) e ∙ ap (λ n. pos n) (zero-div k)
floor_exact (pos (suc n)) k falls positive = absurd (omega (arith, ints))
floor_exact (negsuc n) k falls positive =
    let some : 0 < suc n * k = omega (arith, mul-le-mul_right {m = 1} {n = suc n} k (omega arith)) in
    let rest : suc n * k - 1 ≡ n * k + (k - 1) = omega arith in
    floor_negative (suc n * k) k some ∙ ap (λ m. negsuc (m / k)) rest ∙ ap (λ m. negsuc m) (div-mul-add n k (k - 1) (omega arith))

-- the floor of zero
floor_zero : (k : ℕ) → int_div_euclid (pos 0) (pos k) ≡ pos 0
floor_zero k = ap (λ n. pos n) (zero-div k)

product_negative : (change run : ℤ) → change ≤ℤ pos 0 → pos 0 ≤ℤ run → (change *ℤ run) ≤ℤ pos 0
product_negative (pos zero) (pos r) falls from = omega (arith, ints)
product_negative (pos (suc n)) run falls from = absurd (omega (arith, ints))
product_negative (negsuc n) (pos r) falls from = omega (arith, ints)
product_negative change (negsuc r) falls from = absurd (omega (arith, ints))

-- a part of a fall is no rise
pub floor_falls : (change run width : ℤ) → change ≤ℤ pos 0 → pos 0 ≤ℤ run → pos 0 <ℤ width →
    int_div_euclid (change *ℤ run) width ≤ℤ pos 0
floor_falls change run (pos k) falls from positive =
    let some : 0 < k = omega (arith, ints) in
    subst (λ (z : ℤ). int_div_euclid (change *ℤ run) (pos k) ≤ℤ z) (floor_zero k)
    (floor_le (change *ℤ run) (pos 0) k some (product_negative change run falls from))
floor_falls change run (negsuc k) falls from positive = absurd (omega (arith, ints))

-- a part of a fall is at most the whole
pub floor_stays : (change run width : ℤ) → change ≤ℤ pos 0 → pos 0 ≤ℤ run → run ≤ℤ width → pos 0 <ℤ width →
    change ≤ℤ int_div_euclid (change *ℤ run) width
floor_stays change run (pos k) falls from within positive =
    let some : 0 < k = omega (arith, ints) in
    subst (λ (z : ℤ). z ≤ℤ int_div_euclid (change *ℤ run) (pos k)) (floor_exact change k falls some)
    (floor_le (change *ℤ pos k) (change *ℤ run) k some (product_le change run (pos k) falls from within))
floor_stays change run (negsuc k) falls from within positive = absurd (omega (arith, ints))

-- a longer part of a fall falls further, also when rounded down
pub floor_further : (change run later width : ℤ) → change ≤ℤ pos 0 → pos 0 ≤ℤ run → run ≤ℤ later → pos 0 <ℤ width →
    int_div_euclid (change *ℤ later) width ≤ℤ int_div_euclid (change *ℤ run) width
floor_further change run later (pos k) falls from order positive =
    let some : 0 < k = omega (arith, ints) in
    floor_le (change *ℤ later) (change *ℤ run) k some (product_le change run later falls from order)
floor_further change run later (negsuc k) falls from order positive = absurd (omega (arith, ints))

-- a later step of a range lies at a price that is not lower
pub share_le : (a b : ℕ) (range last : ℤ) → a ≤ b → pos 0 ≤ℤ range → pos 0 <ℤ last →
    int_div (pos a *ℤ range) last ≤ℤ int_div (pos b *ℤ range) last
share_le a b (pos r) (pos k) order from positive = let some : 0 < k =
    omega (arith, ints) in omega (arith, ints, div_le (a * r) (b * r) k some (mul-le-mul_right r order))
share_le a b (negsuc r) last order from positive = absurd (omega (arith, ints))
share_le a b (pos r) (negsuc k) order from positive = absurd (omega (arith, ints))

-- the same floor, by the numbers that the code computed
pub same_floor : (result a b k change run width : ℤ) → result ≡ int_div_euclid (a *ℤ b) k → a ≡ change → b ≡ run → k ≡ width →
    result ≡ int_div_euclid (change *ℤ run) width
same_floor result a b k change run width is same_change same_run same_width = cc
