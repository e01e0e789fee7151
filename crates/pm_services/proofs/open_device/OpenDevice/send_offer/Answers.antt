-- Of `OpenDevice::send_offer`: its clause `few`.
use Rattle.std.proofs.Common.{ap, length, arith, length-append}
use Rattle.pm_wire.specs.Frames.{frame_bytes}
use Rattle.pm_wire.specs.declared.frame.Frame.TheVariants.{Bid}
use Rattle.pm_services.proofs.RelayReplies.{bid_few}
use Rattle.pm_services.proofs.open_device.OpenDevice.send_offer.Goals as goal

pub returns-in-Ok-clause-few : goal.returns-in-Ok-clause-few
returns-in-Ok-clause-few c =
    let demand = c.args.demand.now in
    omega (
      arith,
      ap length c.write_bid.ensures.written,
      length-append c.write_resume.new.out.items (frame_bytes (Bid c.args.child c.in-Ok.number demand)),
      bid_few c.args.child c.in-Ok.number demand c.requires.steps,
      c.write_resume.ensures.few,
    )
