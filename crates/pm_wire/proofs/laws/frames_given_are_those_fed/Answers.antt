-- Of `frames_given_are_those_fed`: what it ensures.
use Rattle.pm_wire.proofs.Calls as calls
use Rattle.pm_wire.proofs.laws.frames_given_are_those_fed.Goals as goal

pub returns : goal.returns
returns g c = record {
  first = calls.calls_begin g.F.StreamFrame.framing;
  all = calls.calls_wait g.F.StreamFrame.framing;
  bad = calls.calls_refuse g.F.StreamFrame.framing;
  however_cut = calls.calls_agree g.F.StreamFrame.framing c.is_framing.ensures;
}
