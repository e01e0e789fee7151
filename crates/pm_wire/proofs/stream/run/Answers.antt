-- Of `run`: its clauses `ends` and `no_memory`; what the calls of `read`, `take_piece`, `flush` and `refuse` require; the turns of its loop over `taken`.
use Rattle.std.proofs.Common.{rules, ◌∙◌, sym, ap, refl, arith, length}
use Rattle.std.proofs.lemmas.List.{length-take}
use Rattle.pm_wire.proofs.Taking.{follows_agrees}
use Rattle.pm_wire.proofs.Ending.{bad_refused, bad_cut_short, begun_by, piece_cut_short, serving_none, serving_more, end_refused, end_cut_short, none_read}
use Rattle.pm_wire.proofs.Ending.{rose_later, failed, not_failed, told_text, told_prefix, told_proper, refuse_ends}
use Rattle.pm_wire.proofs.Ending.{may_write_all, bad_next, piece_next, end_next, answered_all, serving_held, serving_left, ends_at, cut_at, told_due}
use Rattle.pm_wire.proofs.SettingUp.{wants_first, ends_at_piece}
use Rattle.pm_wire.proofs.stream.run.Goals as goal

pub loop-taken-init : goal.loop-taken-init
loop-taken-init g c =
    let framing = g.F.StreamFrame.framing in
    record {
      serving = serving_none framing c.args.decoder.now.place g.V.Service.answers c.args.service.now c.args.decoder.now _ _ c.requires.decoder;
      within = omega arith;
      empty = c.requires.out;
      rest = omega (arith, c.is_framing.ensures.not_empty, ap (λ d. length d.rest) c.requires.decoder);
      held = omega (arith, c.is_framing.ensures.not_empty, ap (λ d. d.held) c.requires.decoder);
      becomes = g.met.W.Peer.stays _;
      source_count = omega arith;
      sink_count = omega arith;
      refusals = omega arith;
    }

pub read-requires : goal.read-requires
read-requires g c =
    c.requires.asks.read _ c.loop-taken.invariant.becomes
    (answered_all g.F.StreamFrame.framing _ _ _ _ _ _ _ _ _ _ c.loop-taken.invariant.serving c.loop-taken-test.true)

pub take_piece-requires-clause-agrees : goal.take_piece-requires-clause-agrees
take_piece-requires-clause-agrees g c =
    let serving = c.loop-taken.invariant.serving in
    follows_agrees g.F.StreamFrame.framing c.is_framing.ensures g.V.Service.begins g.V.Service.answers c.args.decoder.now.place c.args.service.now
    serving.input serving.frames c.loop-taken.decoder c.loop-taken.service serving.reply c.requires.service serving.follows

pub refuse-requires : goal.refuse-requires
refuse-requires g c =
    let framing = g.F.StreamFrame.framing in
    let kept = c.loop-taken.invariant in
    let serving = serving_held framing _ _ _ _ _ _ _ _ _ _ _ c.read.ensures.held kept.serving in
    let none = none_read _ _ _ c.in-Ok.count c.if-count-eq0.true c.in-Ok.ensures.bytes.0 in
    let at_end = c.in-Ok.ensures.bytes.1 c.if-count-eq0.true (omega arith) in
    record {
      next = may_write_all _ _ _ _ _ framing _ _ _ _ _ g.met.W.Peer.goes_on c.requires.asks
          (g.met.W.Peer.goes_on _ _ _ kept.becomes c.read.ensures.becomes) (λ holds sent rest split appends.
          end_next framing _ _ _ _ _ _ _ _ _ _ _ _ _ _ sent rest serving none at_end c.loop-taken-test.true c.rest-rest.ensures c.if-rest-gt0.true
          kept.empty split appends);
    }

pub refuse-requires-in-Err-Bad : goal.refuse-requires-in-Err-Bad
refuse-requires-in-Err-Bad g c =
    let framing = g.F.StreamFrame.framing in
    let kept = c.loop-taken.invariant in
    let serving = serving_held framing _ _ _ _ _ _ _ _ _ _ _ c.read.ensures.held kept.serving in
    let bad = c.in-Err-Bad.ensures.bad c.in-Err-Bad.at c.in-Err-Bad.field-0-is in
    record {
      next = may_write_all _ _ _ _ _ framing _ _ _ _ _ g.met.W.Peer.goes_on c.requires.asks
          (g.met.W.Peer.goes_on _ _ _ kept.becomes c.read.ensures.becomes) (λ holds sent rest split appends.
          bad_next framing _ _ _ _ _ _ _ _ _ _ _ _ _ _ c.in-Err-Bad.at _ _ _ sent rest serving c.in-Ok.ensures.bytes.0 kept.empty bad
          (told_due _ _ _ _ c.in-Err-Bad.at-is split) appends);
    }

pub flush-requires : goal.flush-requires
flush-requires g c =
    let framing = g.F.StreamFrame.framing in
    let kept = c.loop-taken.invariant in
    let serving = serving_held framing _ _ _ _ _ _ _ _ _ _ _ c.read.ensures.held kept.serving in
    record {
      next = may_write_all _ _ _ _ _ framing _ _ _ _ _ g.met.W.Peer.goes_on c.requires.asks
          (g.met.W.Peer.goes_on _ _ _ kept.becomes c.read.ensures.becomes) (λ holds sent rest split appends.
          piece_next framing _ _ _ _ _ _ _ _ _ _ _ _ _ _ _ _ _ sent rest serving c.in-Ok.ensures.bytes.0 kept.empty
          c.in-Ok-take_piece.ensures.taken split appends);
    }

pub returns-then-rest-gt0-clause-ends : goal.returns-then-rest-gt0-clause-ends
returns-then-rest-gt0-clause-ends g c =
    let framing = g.F.StreamFrame.framing in
    let kept = c.loop-taken.invariant in
    let serving = serving_held framing _ _ _ _ _ _ _ _ _ _ _ c.read.ensures.held kept.serving in
    let none = none_read _ _ _ c.in-Ok.count c.if-count-eq0.true c.in-Ok.ensures.bytes.0 in
    let at_end = c.in-Ok.ensures.bytes.1 c.if-count-eq0.true (omega arith) in
    ends_at framing _ _ _ _ _ _ _ _ _ _ c.refuse.ensures.left
    (refuse_ends framing _ _ _ _ _ _ _ _ _ c.refuse.ensures.either
    (λ e. end_refused framing _ _ _ _ _ _ _ _ _ _ _ _ _ _ serving none at_end c.loop-taken-test.true c.rest-rest.ensures c.if-rest-gt0.true
    kept.empty (c.refuse.ensures.refused e))
    (λ e. let fault = c.refuse.ensures.write_fault e in (
      rose_later _ _ _ (omega (arith, kept.sink_count, c.read.ensures.write_faults)) fault.0,
      end_cut_short framing _ _ _ _ _ _ _ _ _ _ _ _ _ fault.1.0 _ serving none at_end c.loop-taken-test.true c.rest-rest.ensures
          c.if-rest-gt0.true kept.empty fault.1.1 fault.1.2,
    ))
    (λ e. begun_by framing _ _ _ _ _ _ _ _ _ _ _ _ _ serving c.in-Ok.ensures.bytes.0 (ap g.W.Peer.held (sym (c.refuse.ensures.no_memory e)))))

pub returns-in-Err-Bad-clause-ends : goal.returns-in-Err-Bad-clause-ends
returns-in-Err-Bad-clause-ends g c =
    let framing = g.F.StreamFrame.framing in
    let kept = c.loop-taken.invariant in
    let serving = serving_held framing _ _ _ _ _ _ _ _ _ _ _ c.read.ensures.held kept.serving in
    let bytes = c.in-Ok.ensures.bytes.0 in
    let bad = c.in-Err-Bad.ensures.bad c.in-Err-Bad.at c.in-Err-Bad.field-0-is in
    ends_at framing _ _ _ _ _ _ _ _ _ _ c.refuse-in-Err-Bad.ensures.left
    (refuse_ends framing _ _ _ _ _ _ _ _ _ c.refuse-in-Err-Bad.ensures.either
    (λ e. bad_refused framing _ _ _ _ _ _ _ _ _ _ _ _ _ _ c.in-Err-Bad.at _ _ _ serving bytes kept.empty bad
    (told_text _ _ _ _ _ c.in-Err-Bad.at-is (c.refuse-in-Err-Bad.ensures.refused e)))
    (λ e. let fault = c.refuse-in-Err-Bad.ensures.write_fault e in (
      rose_later _ _ _ (omega (arith, kept.sink_count, c.read.ensures.write_faults)) fault.0,
      bad_cut_short framing _ _ _ _ _ _ _ _ _ _ _ _ _ _ c.in-Err-Bad.at fault.1.0 _ _ _ serving bytes kept.empty bad
          (told_proper _ _ _ _ c.in-Err-Bad.at-is fault.1.1) (told_prefix _ _ _ _ _ _ c.in-Err-Bad.at-is fault.1.2),
    ))
    (λ e. begun_by framing _ _ _ _ _ _ _ _ _ _ _ _ _ serving bytes (ap g.W.Peer.held (sym (c.refuse-in-Err-Bad.ensures.no_memory e)))))

pub returns-in-Err-NoMemory-clause-ends : goal.returns-in-Err-NoMemory-clause-ends
returns-in-Err-NoMemory-clause-ends g c =
    let framing = g.F.StreamFrame.framing in
    let serving = serving_held framing _ _ _ _ _ _ _ _ _ _ _ c.read.ensures.held c.loop-taken.invariant.serving in
    begun_by framing _ _ _ _ _ _ _ _ _ _ _ _ _ serving c.in-Ok.ensures.bytes.0 refl

pub returns-then-is_err-clause-ends : goal.returns-then-is_err-clause-ends
returns-then-is_err-clause-ends g c =
    let framing = g.F.StreamFrame.framing in
    let kept = c.loop-taken.invariant in
    let serving = serving_held framing _ _ _ _ _ _ _ _ _ _ _ c.read.ensures.held kept.serving in
    let fault = failed _ _ _ c.flush.result (sym c.is_err.ensures.value
    ∙ c.if-is_err.true) c.flush.ensures.cause c.flush.ensures.proper c.flush.ensures.prefix in
    let cut = piece_cut_short framing _ _ _ _ _ _ _ _ _ _ _ _ _ _ fault.0.written _ _ _ serving c.in-Ok.ensures.bytes.0 kept.empty
    c.in-Ok-take_piece.ensures.taken fault.2 fault.3 in (
      rose_later _ _ _ (omega (arith, kept.sink_count, c.read.ensures.write_faults)) fault.1,
      cut_at framing _ _ _ _ _ _ _ c.flush.ensures.left cut,
    )

pub loop-taken-preserved : goal.loop-taken-preserved
loop-taken-preserved g c =
    let framing = g.F.StreamFrame.framing in
    let kept = c.loop-taken.invariant in
    let serving = serving_held framing _ _ _ _ _ _ _ _ _ _ _ c.read.ensures.held kept.serving in
    let succeeds = sym c.is_err.ensures.value ∙ c.if-is_err.false in
    record {
      serving = serving_left framing _ _ _ _ _ _ _ _ _ _ _ c.flush.ensures.left
          (serving_more framing _ _ _ _ _ _ _ _ _ _ _ _ _ _ _ _ _ _ serving c.in-Ok.ensures.bytes.0
          (sym c.in-Ok.ensures.bound.1) kept.empty c.in-Ok-take_piece.ensures.taken (not_failed _ c.flush.result succeeds c.flush.ensures.all));
      within = omega (arith, c.in-Ok.ensures.bound.0, c.loop-taken-test.true, c.requires.few, c.loop-taken.auto.piece, c.read.auto.buf);
      empty = not_failed _ c.flush.result succeeds c.flush.ensures.empty;
      rest = c.in-Ok-take_piece.ensures.rest;
      held = c.in-Ok-take_piece.ensures.held;
      becomes = g.met.W.Peer.goes_on _ _ _ kept.becomes (g.met.W.Peer.goes_on _ _ _ c.read.ensures.becomes c.flush.ensures.becomes);
      source_count = omega (arith, kept.source_count, c.in-Ok.ensures.cause.later, c.flush.ensures.read_faults);
      sink_count = omega (arith, kept.sink_count, c.read.ensures.write_faults, c.flush.ensures.count);
      refusals = omega (arith, kept.refusals, c.take_piece.ensures.count);
    }

pub returns-in-Err-NoMemory-clause-no_memory : goal.returns-in-Err-NoMemory-clause-no_memory
returns-in-Err-NoMemory-clause-no_memory g c = λ is.
    let framing = g.F.StreamFrame.framing in
    let kept = c.loop-taken.invariant in
    wants_first _ _ _ _ _ kept.refusals
    (λ stops. ends_at_piece framing _ _ _ _ _ _ _ _ _ _ _ _ _ _ _ kept.serving c.in-Ok.ensures.bytes.0
    (omega (arith, length-take c.in-Ok.count c.read.new.buf, c.loop-taken.auto.piece, c.read.auto.buf)) stops)
    (c.take_piece.ensures.no_memory (search rules))
