-- Of `OpenRoot::take`: what the call of `take_bid` requires.
use Rattle.std.proofs.Common.{◌≡◌, ◌∙◌, ap, subst, Some}
use Rattle.pm_wire.specs.declared.frame.Frame.TheVariants.{Bid}
use Rattle.pm_frames.specs.declared.root.RootFrame.{RootFrame}
use Rattle.pm_frames.specs.declared.root.RootFrame.TheVariants.{Market}
use Rattle.pm_services.specs.RootStands.{MayStandWithSteps}
use Rattle.pm_services.proofs.RootPlaces.{bid_small}
use Rattle.pm_services.proofs.open_root.OpenRoot.take.Goals as goal

pub take_bid-requires-clause-small : goal.take_bid-requires-clause-small
take_bid-requires-clause-small c =
    let bid : c.in-Market-Bid.field-0 ≡ Bid c.in-Market-Bid.child c.in-Market-Bid.number c.in-Market-Bid.demand =
    rw c.in-Market-Bid.is at c.in-Market-Bid.field-0-is in
    let known = Some c.args.self.now.basis.steps in
    let stands = subst (λ (frame : RootFrame). MayStandWithSteps known frame) (c.in-Market-Bid.is ∙ ap Market bid) c.requires.stands in
    bid_small known c.in-Market-Bid.child c.in-Market-Bid.number c.in-Market-Bid.demand stands
