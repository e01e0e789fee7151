-- What the fields of a relay with the price that waits stand for, and what they keep.
use Rattle.std.specs.Prelude.{◌<◌, IfSome}
use Rattle.pm_base.specs.Limits.{AreSteps}
use Rattle.pm_services.specs.RelayWrites.{WaitingRelay}
use Rattle.pm_services.specs.declared.waiting_relay.WaitingRelay.TheInside.{Inside}

abbrev pub waiting_relay_of : Inside → WaitingRelay
waiting_relay_of inside = record { relay = inside.relay; waiting = inside.waiting }

-- there is a basis, and a price that waits has a step of it
pub record IsWaitingRelay (r : WaitingRelay) : Type 0 where
  pub basis : AreSteps r.relay.gathered.cache.steps
  pub step : IfSome r.waiting (λ price. price.step < r.relay.gathered.cache.steps)

abbrev pub AreWaitingRelayFields : Inside → Type 0
AreWaitingRelayFields inside = IsWaitingRelay (waiting_relay_of inside)
