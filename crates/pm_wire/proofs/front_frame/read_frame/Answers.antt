-- Of `read_frame`: what it ensures.
use Rattle.std.proofs.Common.{◌∙◌, sym, subst, List, ℕ}
use Rattle.pm_wire.specs.Spelling.{IsFrameAt, IsRefusedFrame}
use Rattle.pm_wire.proofs.ReadFrames.{front_is, whole_read, refused_read, not_empty}
use Rattle.pm_wire.proofs.front_frame.read_frame.Goals as goal

pub returns-in-Some-2-clause-reading : goal.returns-in-Some-2-clause-reading
returns-in-Some-2-clause-reading g c =
    let some = c.is_framing.ensures.some_bytes _ _ _ (sym c.size_at.ensures ∙ c.in-Some.is) in
    let Q : List ℕ → Type 0 = λ l. IsFrameAt g.F.StreamFrame.framing c.args.place l c.in-Some-2.frame in
    whole_read g.F.StreamFrame.framing _ _ _ _ c.if-bytes-size.false
    (subst Q (front_is c.args.bytes.now c.in-Some.size some (not_empty _ _ c.is_empty.ensures c.if-is_empty.false)) (rw
    c.in-Some-2.is at c.in_ok-frame.ensures.one))

pub returns-in-None-clause-reading : goal.returns-in-None-clause-reading
returns-in-None-clause-reading g c =
    let some = c.is_framing.ensures.some_bytes _ _ _ (sym c.size_at.ensures ∙ c.in-Some.is) in
    let Q : List ℕ → Type 0 = λ l. IsRefusedFrame g.F.StreamFrame.framing c.args.place l in
    refused_read g.F.StreamFrame.framing _ _ c.in-Some.size
    (subst Q (front_is c.args.bytes.now c.in-Some.size some (not_empty _ _ c.is_empty.ensures c.if-is_empty.false)) (rw
    c.in-None.is at c.in_ok-frame.ensures.one))
