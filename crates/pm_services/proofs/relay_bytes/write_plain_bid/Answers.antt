-- Of `write_plain_bid`: its clause `few`.
use Rattle.std.proofs.Common.{ap, arith, length, length-append}
use Rattle.pm_wire.specs.Frames.{frame_bytes}
use Rattle.pm_wire.specs.declared.frame.Frame.TheVariants.{Bid}
use Rattle.pm_services.proofs.RelayReplies.{bid_few}
use Rattle.pm_services.proofs.relay_bytes.write_plain_bid.Goals as goal

pub returns-clause-few : goal.returns-clause-few
returns-clause-few c =
    let demand = c.demand.result.now in
    let bytes = frame_bytes (Bid c.own.inside.child c.last.result demand) in
    omega (
      arith,
      ap length c.write_bid.ensures.written,
      length-append c.args.out.now.items bytes,
      bid_few c.own.inside.child c.last.result demand (omega (arith, c.demand.ensures.steps, c.requires.steps)),
      c.args.out.now.ok.0,
      c.write_bid.new.out.ok.0,
    )
