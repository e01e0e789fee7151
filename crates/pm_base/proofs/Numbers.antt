-- Tests of whole numbers from 0 on.
use Rattle.std.proofs.Common.{◌≡◌, ℕ, suc, ◌==◌, true, false, arith}
use Rattle.std.proofs.lemmas.Bool.Decides.{nat_tests}

-- where the test of two numbers passes they are the same
pub same_number : (a b : ℕ) → (a == b) ≡ true → a ≡ b
same_number a b same = grind (arith, nat_tests)

-- a number that follows another is not 0
pub suc_is_not_zero : (n : ℕ) → (suc n == 0) ≡ false
suc_is_not_zero n = grind (arith, nat_tests)
