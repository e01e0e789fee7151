-- Of `serve_peer`: its clauses `ends` and `due`.
use Rattle.std.proofs.Common.{ap}
use Rattle.pm_wire.specs.Taking.{AnswersFrom}
use Rattle.pm_wire.proofs.Outcomes.{begins_at, as_due}
use Rattle.pm_wire.proofs.stream.serve_peer.Goals as goal

pub returns-clause-ends : goal.returns-clause-ends
returns-clause-ends g c = begins_at _ _ _ _ _ _ _ _ _ _ _ (ap (λ d. d.place) c.at-decoder.ensures) c.run.ensures.ends

pub returns-clause-due : goal.returns-clause-due
returns-clause-due g c = λ all told.
    as_due g.F.StreamFrame.framing c.is_framing.ensures c.args.place (AnswersFrom g.V.Service.answers c.args.service.now) all _ _ _ _ _ _ c.run.result told
    (returns-clause-ends g c)
