-- Of `write_prices`: the turns of its loop over `place`.
use Rattle.std.proofs.Common.{◌+◌, ap, arith, length, length-append}
use Rattle.pm_bid.specs.Heads.{nothing_sent}
use Rattle.pm_session.specs.Prices.{head_at}
use Rattle.pm_frames.specs.ParentFrames.{price_bytes_for}
use Rattle.pm_frames.proofs.Prices.{prices_more, price_for_few}
use Rattle.pm_frames.proofs.answers.write_prices.Goals as goal

pub loop-place-preserved : goal.loop-place-preserved
loop-place-preserved c =
    let clearing = c.args.clearing.now in
    let basis = c.args.basis.now in
    let place = c.loop-place.place in
    let price = price_bytes_for basis clearing.index clearing.step (place + 1) (head_at clearing.heads.now place) in
    let written = c.write_price_for.ensures.written in
    record {
      written = prices_more basis clearing.index clearing.step (place + 1) place clearing.heads.now nothing_sent _ _ _ (omega arith)
          c.loop-place.invariant.written written;
      capacity = omega (arith, c.loop-place.invariant.capacity, c.write_price_for.ensures.capacity);
      room = omega (
        arith,
        ap length written,
        length-append c.loop-place.out.items price,
        price_for_few basis clearing.index clearing.step (place + 1) (head_at clearing.heads.now place),
        c.loop-place.out.ok.0,
        c.write_price_for.new.out.ok.0,
        c.write_price_for.ensures.capacity,
        c.loop-place.invariant.room,
      );
    }
