-- Of `array_of`: its clause `bid`.
use Rattle.pm_frames.proofs.PointArrays.{array_is_bid}
use Rattle.pm_frames.proofs.offer.array_of.Goals as goal

pub returns-clause-bid : goal.returns-clause-bid
returns-clause-bid g c = array_is_bid _ _ _ c.fill_array.ensures.sound c.requires c.fill_array.ensures.array
