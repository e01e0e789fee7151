-- Of `read_offer`: what it ensures.
use Rattle.pm_frames.proofs.ReadNodes.{nothing_offered, some_offered}
use Rattle.pm_frames.proofs.ReadOffers.{offer_refused, offer_read}
use Rattle.pm_frames.proofs.offer.read_offer.Goals as goal

pub returns-in-None-clause-one : goal.returns-in-None-clause-one
returns-in-None-clause-one g c = offer_refused _ _ c.requires.open (nothing_offered _ _ _ _ c.steps.ensures c.in-None.is c.in_ok-demand.ensures.one)

pub returns-in-Some-clause-one : goal.returns-in-Some-clause-one
returns-in-Some-clause-one g c =
    offer_read _ _ _ c.requires.open (some_offered _ _ _ _ c.in-Some.demand c.steps.ensures c.in-Some.is c.in_ok-demand.ensures.one)
