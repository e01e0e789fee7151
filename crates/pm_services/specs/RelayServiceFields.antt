-- What the fields of a relay's service stand for, and what they keep.
use Rattle.pm_frames.specs.Terms.{AreTerms}
use Rattle.pm_services.specs.RelayAnswers.{RelayServiceValue}
use Rattle.pm_services.specs.declared.relay.RelayService.TheInside.{Inside}

abbrev pub relay_service_of : Inside → RelayServiceValue
relay_service_of inside = record { child = inside.child; terms = inside.terms; relay = inside.relay }

abbrev pub AreRelayServiceFields : Inside → Type 0
AreRelayServiceFields inside = AreTerms inside.terms
