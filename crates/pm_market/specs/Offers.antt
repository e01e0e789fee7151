-- Sums of whole numbers over the leaves of a node.
use Rattle.std.specs.Prelude.{ℕ, zero, suc, ℤ, pos, ◌+ℤ◌, if◌then◌else◌, ◌==◌}
use Rattle.pm_market.specs.Lists.{Lists, nodes, parent, is_leaf_of}

unfoldable pub int_sum_to : ℕ → (ℕ → ℤ) → ℤ
int_sum_to zero f = pos 0
int_sum_to (suc n) f = f (suc n) +ℤ int_sum_to n f

-- the sum over the leaves of x
unfoldable pub sum_on : Lists → ℕ → (ℕ → ℤ) → ℤ
sum_on lists x f = int_sum_to (nodes lists) (λ d. if is_leaf_of lists x d then f d else pos 0)

-- the sum over the children of y
unfoldable pub sum_children : Lists → ℕ → (ℕ → ℤ) → ℤ
sum_children lists y f = int_sum_to (nodes lists) (λ x. if parent lists x == y then f x else pos 0)
