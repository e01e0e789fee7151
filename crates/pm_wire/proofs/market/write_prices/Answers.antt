-- Of `write_prices`: the turns of its loop over `place`.
use Rattle.std.proofs.Common.{◌+◌, ap, arith, length, length-append}
use Rattle.pm_bid.specs.Heads.{nothing_sent}
use Rattle.pm_session.specs.Prices.{head_at}
use Rattle.pm_wire.specs.Answers.{price_for, reply_bytes}
use Rattle.pm_wire.proofs.Markets.{prices_more}
use Rattle.pm_wire.proofs.Replies.{price_for_few}
use Rattle.pm_wire.proofs.market.write_prices.Goals as goal

pub loop-place-preserved : goal.loop-place-preserved
loop-place-preserved c =
    let clearing = c.args.clearing.now in
    let place = c.loop-place.place in
    let price = price_for clearing.index clearing.step (place + 1) (head_at clearing.heads.now place) in
    let written = c.in-Ok.ensures.written in
    record {
      written = prices_more clearing.index clearing.step (place + 1) place clearing.heads.now nothing_sent _ _ _ (omega arith)
          c.loop-place.invariant.written written;
      capacity = omega (arith, c.loop-place.invariant.capacity, c.write_price.ensures.capacity);
      room = omega (
        arith,
        ap length written,
        length-append c.loop-place.out.items (reply_bytes price),
        price_for_few clearing.index clearing.step (place + 1) (head_at clearing.heads.now place),
        c.loop-place.out.ok.0,
        c.write_price.new.out.ok.0,
      );
    }
