-- The limits of numbers, in their places.
use Rattle.std.proofs.Common.{◌≡◌, ap, ℕ, ◌+◌, ◌%◌, ◌<◌, ◌≤◌, List, get_or, length, Some, arith}
use Rattle.std.proofs.Common.{get_or-set_same, get_or-set_other}
use Rattle.std.proofs.Math.ListN.{set}
use Rattle.pm_base.specs.Limits.{window_size}
use Rattle.pm_base.specs.declared.limits.Limits.{Limits}
use Rattle.pm_relay.specs.Relays.{no_limits, limits_places}

-- a number has the limits that were put into its place
pub made_same : (kept : List Limits) (n : ℕ) (limits : Limits) → length kept ≡ limits_places →
    Some (get_or (set kept (n % limits_places) limits) (n % limits_places) no_limits) ≡ Some limits
made_same kept n limits size = ap Some (get_or-set_same kept (n % limits_places) limits no_limits (omega (arith, size)))

-- each number before it, of those that a window may have, has what it had
pub made_other : (kept : List Limits) (n m : ℕ) (limits : Limits) → n < m → m ≤ n + window_size →
    Some (get_or (set kept (m % limits_places) limits) (n % limits_places) no_limits) ≡ Some (get_or kept (n % limits_places) no_limits)
made_other kept n m limits lt le =
    ap Some (get_or-set_other kept (m % limits_places) (n % limits_places) limits no_limits (λ e. omega arith))
