-- Of `best`: it is small.
use Rattle.std.proofs.Common.{arith}
use Rattle.std.proofs.lemmas.Int.{ints}
use Rattle.pm_guard.specs.Bands.{AreBidBands, least_power}
use Rattle.pm_guard.proofs.Ends.{least_small, total_small}
use Rattle.pm_guard.proofs.guard.Guard.best.Goals as goal

pub returns-clause-small : goal.returns-clause-small
returns-clause-small c =
    let inside = c.self.invariant in
    let small = total_small least_power c.self.inside.children.items AreBidBands (λ held are. least_small held are) inside.bands in
    omega (arith, ints, small, inside.few, inside.is_best)
