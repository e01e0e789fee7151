-- Of `read_resume`: what it ensures.
use Rattle.std.proofs.Common.{arith}
use Rattle.pm_frames.proofs.ReadNodes.{AreFields, resume_refused, number_refused, nothing_offered, some_offered, resume_read, fails, passes}
use Rattle.pm_frames.proofs.device.read_resume.Goals as goal

pub returns-in_default-clause-one : goal.returns-in_default-clause-one
returns-in_default-clause-one g c =
    let fields : AreFields c.args.body.now c.read_u32-number.result.1.now c.read_u32-index.result.1.now c.read_basis.result.1.now c.read_u32-number.result.0
    c.read_u32-index.result.0 c.read_basis.result.0 = record {
      number_first = c.read_u32-number.ensures;
      index_next = c.read_u32-index.ensures;
      basis_last = c.read_basis.ensures.bytes;
      number_small = omega arith;
      index_small = omega arith;
      formed = c.read_basis.ensures.formed;
    } in
    resume_refused _ _ _ _ _ _ _ _ c.requires.fresh fields
    (nothing_offered _ _ _ _ c.steps.ensures c.in_default.is c.in_ok-demand.ensures.one)

pub returns-then-not-is_offered-clause-one : goal.returns-then-not-is_offered-clause-one
returns-then-not-is_offered-clause-one g c =
    let fields : AreFields c.args.body.now c.read_u32-number.result.1.now c.read_u32-index.result.1.now c.read_basis.result.1.now c.read_u32-number.result.0
    c.read_u32-index.result.0 c.read_basis.result.0 = record {
      number_first = c.read_u32-number.ensures;
      index_next = c.read_u32-index.ensures;
      basis_last = c.read_basis.ensures.bytes;
      number_small = omega arith;
      index_small = omega arith;
      formed = c.read_basis.ensures.formed;
    } in
    let offer = some_offered _ _ _ _ c.in-Some.demand c.steps.ensures c.in-Some.is c.in_ok-demand.ensures.one in
    number_refused _ _ _ _ _ _ _ _ c.in-Some.demand c.requires.fresh fields
    (fails c.is_offered.result c.if-not-is_offered.true c.is_offered.ensures.1) offer.are

pub returns-clause-one : goal.returns-clause-one
returns-clause-one g c =
    let fields : AreFields c.args.body.now c.read_u32-number.result.1.now c.read_u32-index.result.1.now c.read_basis.result.1.now c.read_u32-number.result.0
    c.read_u32-index.result.0 c.read_basis.result.0 = record {
      number_first = c.read_u32-number.ensures;
      index_next = c.read_u32-index.ensures;
      basis_last = c.read_basis.ensures.bytes;
      number_small = omega arith;
      index_small = omega arith;
      formed = c.read_basis.ensures.formed;
    } in
    let offer = some_offered _ _ _ _ c.in-Some.demand c.steps.ensures c.in-Some.is c.in_ok-demand.ensures.one in
    resume_read _ _ _ _ _ _ _ _ c.in-Some.demand c.requires.fresh fields
    (passes c.is_offered.result c.if-not-is_offered.false c.is_offered.ensures.0) offer
