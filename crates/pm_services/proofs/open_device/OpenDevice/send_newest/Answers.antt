-- Of `OpenDevice::send_newest`: what the call of `write_bid` requires, and the clause `few`.
use Rattle.std.proofs.Common.{sym, ap, subst, length, ◌≤◌, arith, length-append}
use Rattle.std.specs.Option.{option_copied}
use Rattle.pm_base.specs.Limits.{most_steps}
use Rattle.pm_wire.specs.Frames.{frame_bytes}
use Rattle.pm_wire.specs.declared.frame.Frame.TheVariants.{Bid}
use Rattle.pm_services.specs.DeviceServiceFields.{IsSmall}
use Rattle.pm_services.proofs.RelayReplies.{bid_few}
use Rattle.pm_services.proofs.SmallOffers.{newest_small}
use Rattle.pm_services.proofs.open_device.OpenDevice.send_newest.Goals as goal

pub write_bid-requires-clause-small : goal.write_bid-requires-clause-small
write_bid-requires-clause-small c =
    subst (λ o. IsSmall (option_copied o)) c.in-Some.is
    (subst IsSmall (sym c.resume-resume.ensures.newest) (newest_small c.self.inside.agent c.self.invariant))

pub returns-in-Some-clause-few : goal.returns-in-Some-clause-few
returns-in-Some-clause-few c =
    let demand = c.in-Some.demand.now in
    let number = c.resume-resume.result.number in
    let few : length demand ≤ most_steps = omega (arith, c.steps-steps.ensures.steps, c.steps-steps.ensures.within.most) in
    omega (
      arith,
      ap length c.write_bid.ensures.written,
      length-append c.args.out.now.items (frame_bytes (Bid c.args.child number demand)),
      bid_few c.args.child number demand few,
    )
