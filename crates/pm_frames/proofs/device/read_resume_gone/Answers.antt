-- Of `read_resume_gone`: what it ensures.
use Rattle.std.proofs.Common.{arith}
use Rattle.pm_frames.proofs.ReadNodes.{AreFields, gone_refused, gone_read, fails, passes}
use Rattle.pm_frames.proofs.device.read_resume_gone.Goals as goal

pub returns-then-not-is_left : goal.returns-then-not-is_left
returns-then-not-is_left c =
    let fields : AreFields c.args.body.now c.read_u32-number.result.1.now c.read_u32-index.result.1.now c.read_basis-basis.result.1.now
    c.read_u32-number.result.0
    c.read_u32-index.result.0 c.read_basis-basis.result.0 = record {
      number_first = c.read_u32-number.ensures;
      index_next = c.read_u32-index.ensures;
      basis_last = c.read_basis-basis.ensures.bytes;
      number_small = omega arith;
      index_small = omega arith;
      formed = c.read_basis-basis.ensures.formed;
    } in
    gone_refused _ _ _ _ _ _ _ _ c.requires.fresh fields c.requires.size
    (fails c.is_left.result c.if-not-is_left.true c.is_left.ensures.1)

pub returns : goal.returns
returns c =
    let fields : AreFields c.args.body.now c.read_u32-number.result.1.now c.read_u32-index.result.1.now c.read_basis-basis.result.1.now
    c.read_u32-number.result.0
    c.read_u32-index.result.0 c.read_basis-basis.result.0 = record {
      number_first = c.read_u32-number.ensures;
      index_next = c.read_u32-index.ensures;
      basis_last = c.read_basis-basis.ensures.bytes;
      number_small = omega arith;
      index_small = omega arith;
      formed = c.read_basis-basis.ensures.formed;
    } in
    gone_read _ _ _ _ _ _ _ _ c.requires.fresh fields c.requires.size
    (passes c.is_left.result c.if-not-is_left.false c.is_left.ensures.0)
