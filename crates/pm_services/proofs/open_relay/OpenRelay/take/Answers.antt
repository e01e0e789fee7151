-- Of `OpenRelay::take`: what the call of `take_bid` requires.
use Rattle.std.proofs.Common.{◌≡◌, ◌∙◌, ap, subst, Some}
use Rattle.pm_wire.specs.declared.frame.Frame.TheVariants.{Bid}
use Rattle.pm_frames.specs.declared.relay.RelayFrame.{RelayFrame}
use Rattle.pm_frames.specs.declared.relay.RelayFrame.TheVariants.{Child}
use Rattle.pm_services.specs.RelayStands.{MayStandWithSteps}
use Rattle.pm_services.proofs.RelayPlaces.{bid_stands}
use Rattle.pm_services.proofs.open_relay.OpenRelay.take.Goals as goal

pub take_bid-requires-clause-small : goal.take_bid-requires-clause-small
take_bid-requires-clause-small c =
    let h : c.in-Child-Bid.field-0 ≡ Bid c.in-Child-Bid.child c.in-Child-Bid.number c.in-Child-Bid.demand =
    rw c.in-Child-Bid.is at c.in-Child-Bid.field-0-is in
    let steps = c.args.self.now.setup.basis.steps in
    let may = subst (λ (frame : RelayFrame). MayStandWithSteps (Some steps) frame) (c.in-Child-Bid.is ∙ ap Child h) c.requires.stands in
    (bid_stands steps _ _ _ may).small
