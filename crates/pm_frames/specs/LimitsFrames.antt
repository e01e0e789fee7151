-- Limits in a frame: those that a relay keeps over a restart, those that it is given, and the bound of a child.
use Rattle.std.specs.Prelude.{◌≡◌, ℕ, ◌<◌, ◌≤◌, ◌^◌, ◌%◌, List, ◌∷◌, ◌++◌, FitsSigned}
use Rattle.std.specs.Int.{w16, w32, to_be_bytes}
use Rattle.pm_base.specs.Limits.{most_nodes}
use Rattle.pm_base.specs.declared.limits.Limits.{Limits}
use Rattle.pm_wire.specs.Frames.{signed_bytes}
use Rattle.pm_relay.specs.Relays.{AreRelayLimits}
use Rattle.pm_frames.specs.Kinds.{limits_kind, bound_kind}

-- the floor and the ceiling, in watts
abbrev pub limits_bytes : Limits → List ℕ
limits_bytes limits = signed_bytes limits.floor ++ signed_bytes limits.ceiling

abbrev pub AreLimitsFormed : Limits → Type 0
AreLimitsFormed limits = FitsSigned w32 limits.floor × FitsSigned w32 limits.ceiling

-- ---- the limits that a relay is given: their number, and the limits

abbrev pub given_bytes : ℕ → Limits → List ℕ
given_bytes number limits = limits_kind ∷ (to_be_bytes w32 number ++ limits_bytes limits)

abbrev pub IsGivenFormed : ℕ → Limits → Type 0
IsGivenFormed number limits = (number < 2 ^ 32) × AreLimitsFormed limits

-- their numbers are even, as those of a device are
abbrev pub IsGivenAccepted : ℕ → Limits → Type 0
IsGivenAccepted number limits = (1 ≤ number) × (number % 2 ≡ 0) × AreRelayLimits limits

-- ---- the bound of a child: the child, from 1 on, and the least and the greatest power that it may bid, in watts

abbrev pub bound_bytes : ℕ → Limits → List ℕ
bound_bytes child bound = bound_kind ∷ (to_be_bytes w16 child ++ limits_bytes bound)

abbrev pub IsBoundFormed : ℕ → Limits → Type 0
IsBoundFormed child bound = (child < 2 ^ 16) × AreLimitsFormed bound

abbrev pub IsBoundAccepted : ℕ → Limits → Type 0
IsBoundAccepted child bound = (1 ≤ child) × (child ≤ most_nodes) × AreRelayLimits bound
