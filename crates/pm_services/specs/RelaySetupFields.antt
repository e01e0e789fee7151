-- What the fields of a relay's setup stand for, and what they keep.
use Rattle.pm_frames.specs.Terms.{AreTerms}
use Rattle.pm_services.specs.RelaySetups.{RelaySetup}
use Rattle.pm_services.specs.declared.setup.RelaySetup.TheInside.{Inside}

abbrev pub relay_setup_of : Inside → RelaySetup
relay_setup_of inside = record { child = inside.child; terms = inside.terms; basis = inside.basis }

abbrev pub AreRelaySetupFields : Inside → Type 0
AreRelaySetupFields inside = AreTerms inside.terms
