-- Comparisons of whole numbers, as the code makes them, and limits.
use Rattle.std.proofs.Common.{◌≡◌, ℕ, ◌≤◌, ℤ, pos, ◌≤ℤ◌, true, false, arith}
use Rattle.std.specs.Prelude.{int_lt, ◌<ℤ◌}
use Rattle.std.proofs.lemmas.Int.{ints}
use Rattle.pm_base.specs.Limits.{IsWithin}

-- what the test `a < b` says where it passes and where it fails, and that it fails where b is not above a
pub is_below : (a b : ℤ) → int_lt a b ≡ true → a <ℤ b
is_below a b h = grind (arith, ints)

-- where the test `a < b` fails, b is at most a
pub is_not_below : (a b : ℤ) → int_lt a b ≡ false → b ≤ℤ a
is_not_below a b h = grind (arith, ints)

-- where b is at most a, the test `a < b` fails
pub not_below : (a b : ℤ) → b ≤ℤ a → int_lt a b ≡ false
not_below a b h = grind (arith, ints)

-- no power is within each limit, and a number within a limit is within a greater one
pub none-within : (limit : ℕ) → IsWithin limit (pos 0)
none-within limit = record { low = omega (arith, ints); high = omega (arith, ints) }

-- a number within a limit is within each limit that is not smaller
pub wider : (small big : ℕ) (number : ℤ) → small ≤ big → IsWithin small number → IsWithin big number
wider small big number more within = omega (arith, ints)
