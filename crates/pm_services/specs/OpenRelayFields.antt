-- What the fields of a relay after Hello stand for, and what they keep.
use Rattle.std.specs.Prelude.{◌≡◌}
use Rattle.pm_services.specs.RelayAnswers.{OpenRelay}
use Rattle.pm_services.specs.declared.open_relay.OpenRelay.TheInside.{Inside}

abbrev pub open_relay_of : Inside → OpenRelay
open_relay_of inside = record { setup = inside.setup; bounds = inside.bounds; held = inside.held }

-- the relay has the steps of the basis
abbrev pub AreOpenRelayFields : Inside → Type 0
AreOpenRelayFields inside = inside.held.relay.gathered.cache.steps ≡ inside.setup.basis.steps
