-- Of `take_frames`: its clause `no_memory`; what the call of `answer` requires; the turns of its loop over `frame`.
use Rattle.std.proofs.Common.{arith, length, length-append, ap}
use Rattle.pm_wire.proofs.Taking.{takes_more, can_take, answers_paid}
use Rattle.pm_wire.proofs.Places.{frame_length}
use Rattle.pm_wire.proofs.SettingUp.{stops_at, wants_of}
use Rattle.pm_wire.proofs.pieces.take_frames.Goals as goal

pub answer-requires : goal.answer-requires
answer-requires g c =
    let gives = rw c.in-Some.is at c.in_ok-frame.ensures.next.given in
    can_take g.F.StreamFrame.framing c.is_framing.ensures g.V.Service.begins g.V.Service.answers c.in-Some.frame _ _ _ _ _ _ _ c.loop-frame.invariant.taken
    c.requires.agrees gives c.requires.fits

pub loop-frame-preserved : goal.loop-frame-preserved
loop-frame-preserved g c =
    let gives = rw c.in-Some.is at c.in_ok-frame.ensures.next.given in
    record {
      taken = takes_more g.F.StreamFrame.framing g.V.Service.answers c.in-Some.frame _ _ _ _ _ _ _ _ _ c.loop-frame.invariant.taken gives
          c.in_ok-answer.ensures.taken;
      answers = answers_paid g.F.StreamFrame.framing c.is_framing.ensures g.V.Service.begins g.V.Service.answers _ _ c.in-Some.frame
          g.V.Service.most_answers _ _ _ _ gives c.in_ok-answer.ensures.few c.loop-frame.invariant.answers;
      refusals = omega (arith, c.loop-frame.invariant.refusals, c.next_from.ensures.count, c.answer.ensures.count);
    }

pub loop-frame-smaller : goal.loop-frame-smaller
loop-frame-smaller g c =
    let gives = rw c.in-Some.is at c.in_ok-frame.ensures.next.given in
    let some = frame_length g.F.StreamFrame.framing c.is_framing.ensures _ c.in-Some.frame gives.stands.formed in
    omega (arith, ap length gives.bytes, length-append (g.F.StreamFrame.framing.frame_bytes c.in-Some.frame) c.next_from.new.self.rest, some)

pub returns-in_err-answer-clause-no_memory : goal.returns-in_err-answer-clause-no_memory
returns-in_err-answer-clause-no_memory g c = λ is.
    let gives = rw c.in-Some.is at c.in_ok-frame.ensures.next.given in
    wants_of _ _ _ _ _ (omega (arith, c.loop-frame.invariant.refusals, c.next_from.ensures.count))
    (λ sets. stops_at g.F.StreamFrame.framing g.V.Service.answers g.V.Service.sets_up c.in-Some.frame _ _ _ _ _ _ _ c.loop-frame.invariant.taken gives sets)
    c.in_err-answer.ensures.cause
