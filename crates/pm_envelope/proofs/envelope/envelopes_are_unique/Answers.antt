-- Of `envelopes_are_unique`: what it ensures.
use Rattle.pm_envelope.proofs.Openings.{same_envelope}
use Rattle.pm_envelope.proofs.envelope.envelopes_are_unique.Goals as goal

pub returns : goal.returns
returns c = same_envelope
