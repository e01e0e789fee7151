-- What the arguments of the command line say of a relay: its limits, and the place among its children in which it is given others.
use Rattle.std.specs.Prelude.{ℕ, ◌≤◌, Option, Some, None, ⊤}
use Rattle.pm_base.specs.Limits.{most_nodes}
use Rattle.pm_relay.specs.Relays.{AreRelayLimits}
use Rattle.pm_frames.specs.declared.terms.RelayTerms.{RelayTerms}

-- a place in which limits are given is one of a child
abbrev pub MayGive : Option ℕ → Type 0
MayGive None = ⊤
MayGive (Some giver) = (1 ≤ giver) × (giver ≤ most_nodes)

-- what the arguments may say
pub record AreTerms (terms : RelayTerms) : Type 0 where
  pub limits : AreRelayLimits terms.limits
  pub giver : MayGive terms.giver

-- the place in a frame, 0 where there is none
abbrev pub giver_number : Option ℕ → ℕ
giver_number None = 0
giver_number (Some giver) = giver
