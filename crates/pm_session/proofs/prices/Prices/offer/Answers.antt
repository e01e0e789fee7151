-- Of `Prices::offer`: the turns of its loop over `child`.
use Rattle.std.proofs.Common.{arith}
use Rattle.std.proofs.lemmas.Grind.{elements}
use Rattle.pm_session.proofs.prices.Prices.offer.Goals as goal

pub loop-child-preserved : goal.loop-child-preserved
loop-child-preserved c = grind (arith, elements)
