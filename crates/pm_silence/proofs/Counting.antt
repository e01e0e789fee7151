-- What two clocks that are off by a share count of the same real time.
use Rattle.std.proofs.Common.{◌≡◌, sym, subst, ℕ, ◌+◌, ◌-◌, ◌*◌, ◌<◌, ◌≤◌, arith, mul_right_comm, add-mul}
use Rattle.std.proofs.Common.{inl, inr}
use Rattle.std.proofs.lemmas.Bool.{cases_lt}
use Rattle.std.proofs.lemmas.Nat.{mul-le}
use Rattle.pm_silence.specs.Clocks.{IsNotSlow, IsNotFast, IsEnough}

-- by plain numbers: l and u are the million less and more what a clock is off by
pub no_gap : (u l V G d d' : ℕ) → d ≤ d' → G * 1000000 ≤ d * u + 1000000 → d' * l ≤ V * 1000000 → (V * u) + l < G * l → ⊥
no_gap u l V G d d' within fast slow enough =
    let a : (G * 1000000) * l ≤ (d * u + 1000000) * l = mul-le _ l _ l fast (omega arith) in
    let b : (d * u + 1000000) * l ≡ d * u * l + 1000000 * l = add-mul (d * u) 1000000 l in
    let swap : d * u * l ≡ d * l * u = mul_right_comm d u l in
    let k : d * l ≤ d' * l = mul-le d l d' l within (omega arith) in
    let m : d * l ≤ V * 1000000 = omega (arith, k, slow) in
    let n : d * l * u ≤ V * 1000000 * u = mul-le _ u _ u m (omega arith) in
    let o : V * 1000000 * u ≡ V * u * 1000000 = mul_right_comm V 1000000 u in
    let q : G * 1000000 * l ≡ G * l * 1000000 = mul_right_comm G 1000000 l in
    omega (arith, a, b, swap, n, o, q, enough)

-- what the parent's clock showed when grace was over
pub fast_part : (e : ℕ) (p : ℕ → ℕ) → IsNotFast e p → (G M d : ℕ) → p M + G ≤ p (M + d) → G * 1000000 ≤ d * (1000000 + e) + 1000000
fast_part e p is G M d over = omega (arith, is.fast M d, over)

-- a clock that is not slow and shows less than V more counted little real time
pub slow_part : (e : ℕ) (c : ℕ → ℕ) → IsNotSlow e c → (V S d : ℕ) → c (S + d) < c S + V → d * (1000000 - e) ≤ V * 1000000
slow_part e c is V S d under = omega (arith, is.slow S d, under)

-- a word was said at S, the parent heard it by M, and at T grace is over since M by the parent's clock: then validity is over since S by the
-- control's
pub over_by_then : (e V G : ℕ) (c p : ℕ → ℕ) → IsNotSlow e c → IsNotFast e p → IsEnough e V G →
    (S M T : ℕ) → S ≤ M → M ≤ T → p M + G ≤ p T → c S + V ≤ c T
over_by_then e V G c p slow fast enough S M T by since over =
    let m : M + (T - M) ≡ T = omega arith in
    let s : S + (T - S) ≡ T = omega arith in
    let f : G * 1000000 ≤ (T - M) * (1000000 + e) + 1000000 =
    fast_part e p fast G M (T - M) (subst (λ (x : ℕ). p M + G ≤ p x) (sym m) over) in
    elim (cases_lt (c T) (c S + V)) as (λ _. c S + V ≤ c T) [
      | inl under ↦
          absurd (no_gap (1000000 + e) (1000000 - e) V G (T - M) (T - S) (omega arith) f
          (slow_part e c slow V S (T - S) (subst (λ (x : ℕ). c x < c S + V) (sym s) under)) enough)
      | inr done ↦ done
    ]
