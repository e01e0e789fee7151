-- Limits that change go by the numbers of devices.
use Rattle.std.proofs.Common.{◌≡◌, ◌∙◌, sym, ap, ℕ, Option, inl, inr, ◌⊎◌}
use Rattle.pm_base.specs.declared.limits.Limits.{Limits}
use Rattle.pm_market.specs.Lists.{Lists}
use Rattle.pm_net.specs.Pricing.{LimitsGoByDevices, IsChildDevice, HasOneLimit, given_limits}

-- limits that a child gives, or that never change, go by the relay's devices
pub given_alike : (lists : Lists) (limits : ℕ → ℕ → Option Limits) (giver : ℕ → ℕ) →
    ((c : ℕ) → IsChildDevice lists c (giver c) ⊎ HasOneLimit (limits c)) → LimitsGoByDevices lists (given_limits limits giver)
given_alike lists limits giver gives c a b same = elim (gives c) [
  | inl child ↦ ap (limits c) (same (giver c) child.0 child.1 child.2)
  | inr one ↦ one (a (giver c)) ∙ sym (one (b (giver c)))
]
