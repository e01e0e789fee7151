-- Restarts and stops are counted.
use Rattle.std.proofs.Common.{◌≡◌, ℕ, ◌+◌, inl, inr, arith}
use Rattle.pm_market.proofs.Cuts.{updated_same}
use Rattle.pm_laws.proofs.Facts.{updated_at}
use Rattle.pm_net.specs.Network.{Network}
use Rattle.pm_net.specs.Restarts.{with_restart}

-- what did not restart even then is not x
pub not_restarted : (net : Network) (x : ℕ) → with_restart net x x ≡ 0 → ⊥
not_restarted net x none = omega (arith, none, updated_same net.restarts x (net.restarts x + 1))

-- after a restart of x something restarted
pub broken : (net : Network) (x : ℕ) → ((y : ℕ) → with_restart net x y ≡ 0) → ⊥
broken net x none = not_restarted net x (none x)

-- what did not restart even then did not before
pub none_before : (net : Network) (x y : ℕ) → with_restart net x y ≡ 0 → net.restarts y ≡ 0
none_before net x y none = elim (updated_at net.restarts x (net.restarts x + 1) y) [
  | inl w ↦ absurd (omega (arith, none, w.1))
  | inr w ↦ omega (arith, none, w.1)
]
