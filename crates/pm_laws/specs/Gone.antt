-- When a bid is gone.
use Rattle.std.specs.Prelude.{ℕ, Bool, if◌then◌else◌, not, ◌==◌}
use Rattle.pm_market.specs.Lists.{Lists, is_leaf, is_member}

-- whether bid n of a node is gone: a device's if the device is no member then, a concentrator's if n is 0
unfoldable pub is_gone : Lists → ℕ → ℕ → Bool
is_gone lists x n = if is_leaf lists x then not (is_member lists x n) else (n == 0)
