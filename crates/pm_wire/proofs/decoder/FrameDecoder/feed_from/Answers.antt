-- Of `FrameDecoder::feed_from`: what the type keeps.
use Rattle.std.proofs.Common.{arith, is_ok}
use Rattle.pm_wire.proofs.Fed.{fed_bad, fed_longer}
use Rattle.pm_wire.proofs.decoder.FrameDecoder.feed_from.Goals as goal

pub invariant_of-self : goal.invariant_of-self
invariant_of-self g c =
    let ok = is_ok c.append_piece.result in
    let kept = c.self.invariant in
    let longer = fed_longer _ _ c.args.piece.now ok c.append_piece.ensures.items in
    record {
      within = omega (arith, longer, kept.within);
      half = omega (arith, longer, kept.half);
      is_place = kept.is_place;
      bad = λ told. fed_bad g.F.StreamFrame.framing _ _ _ c.args.piece.now _ ok kept.within c.append_piece.ensures.items (kept.bad told);
    }
