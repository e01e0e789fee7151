-- Of `send_again`: its clause `few`.
use Rattle.std.proofs.Common.{ap, length, ◌≤◌, arith, length-append}
use Rattle.pm_base.specs.Limits.{most_steps}
use Rattle.pm_wire.specs.Frames.{frame_bytes}
use Rattle.pm_wire.specs.declared.frame.Frame.TheVariants.{Bid}
use Rattle.pm_services.proofs.RelayReplies.{bid_few}
use Rattle.pm_services.proofs.open_device.send_again.Goals as goal

pub returns-in-Some-clause-few : goal.returns-in-Some-clause-few
returns-in-Some-clause-few c =
    let demand = c.in-Some.demand in
    let few : length demand ≤ most_steps = omega (arith, c.steps-steps.ensures.steps, c.steps-steps.ensures.within.most) in
    omega (
      arith,
      ap length c.write_bid.ensures.written,
      length-append c.args.out.now.items (frame_bytes (Bid c.args.child c.args.stored.now.number demand)),
      bid_few c.args.child c.args.stored.now.number demand few,
    )
