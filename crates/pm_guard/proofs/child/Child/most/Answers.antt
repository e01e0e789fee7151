-- Of `most`: it is small.
use Rattle.std.proofs.Common.{arith}
use Rattle.std.proofs.lemmas.Int.{ints}
use Rattle.pm_base.specs.Limits.{IsWithin, demand_limit}
use Rattle.pm_guard.specs.Bands.{greatest_power}
use Rattle.pm_guard.proofs.Ends.{most_small}
use Rattle.pm_guard.proofs.child.Child.most.Goals as goal

pub returns-clause-small : goal.returns-clause-small
returns-clause-small c =
    let inside = c.self.invariant in
    let small : IsWithin demand_limit (greatest_power c.self.inside.held.items) = most_small c.self.inside.held.items inside.bands in
    omega (arith, ints, small, inside.is_most)
