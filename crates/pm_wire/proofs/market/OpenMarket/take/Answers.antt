-- Of `OpenMarket::take`: its clause `few`; what the call of `count` requires.
use Rattle.std.proofs.Common.{subst, arith}
use Rattle.std.proofs.lemmas.Grind.{common_steps}
use Rattle.pm_wire.specs.declared.frame.Frame.{Frame}
use Rattle.pm_wire.specs.Frames.{IsAccepted}
use Rattle.pm_wire.proofs.Markets.{accepted_small}
use Rattle.pm_wire.proofs.Replies.{clear_few, longer_by_few}
use Rattle.pm_wire.proofs.market.OpenMarket.take.Goals as goal

pub count-requires-clause-small : goal.count-requires-clause-small
count-requires-clause-small c =
    let P : Frame → Type 0 = λ frame. IsAccepted frame in
    accepted_small _ _ (subst P c.in-Bid.is c.requires.stands.accepted).1

pub count-requires-in-Gone-clause-steps : goal.count-requires-in-Gone-clause-steps
count-requires-in-Gone-clause-steps c = grind (arith, common_steps)

pub returns-in-Clear-clause-few : goal.returns-in-Clear-clause-few
returns-in-Clear-clause-few c =
    longer_by_few c.clear.result _ _ _ c.clear.ensures.answered (clear_few c.args.self.now c.requires.sound.children)
