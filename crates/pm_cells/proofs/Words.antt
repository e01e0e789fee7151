-- The lowest bit of a word, which says whether an end has the slot.
use Rattle.std.proofs.Common.{◌≡◌, ℕ, ◌+◌, ◌*◌, ◌/◌, ◌%◌, ◌^◌, bit_or, ap, ◌∙◌, subst, arith}
use mathlib.Core.Logic.{dite}
use native.Mathlib.Decide.{ℕ_discrete}
use Rattle.std.proofs.lemmas.Nat.{or_shifted, or_block, or_comm}

-- a claim adds one to an even word
pub bit_or-even : (w : ℕ) → w % 2 ≡ 0 → bit_or w 1 ≡ w + 1
bit_or-even w even =
    let whole : w / 2 * 2 ^ 1 ≡ w = omega arith in
    subst (λ n. bit_or n 1 ≡ n + 1) whole (or_shifted (w / 2) 1 1 (omega arith))

-- and leaves an odd word as it is
pub bit_or-odd : (w : ℕ) → w % 2 ≡ 1 → bit_or w 1 ≡ w
bit_or-odd w odd =
    let whole : w / 2 * 2 ^ 1 + 1 ≡ w = omega arith in
    let same = or_block 1 (w / 2) 0 1 1 (omega arith) (omega arith) ∙ ap (λ m. m * 2 ^ 1 + 1) (or_comm (w / 2) 0) in
    subst (λ n. bit_or n 1 ≡ n) whole same

-- a word is even or odd
pub either_bit : {X : Type 0} (w : ℕ) → (w % 2 ≡ 0 → X) → (w % 2 ≡ 1 → X) → X
either_bit w even odd = dite (ℕ_discrete (w % 2) 0) even (λ not. odd (omega arith))
