-- Of `without_ends`: what its loop over `part` keeps.
use Rattle.std.proofs.Common.{◌≡◌, All, Contains, [], ◌++◌}
use Rattle.pm_phase.specs.Ends.{AreOf}
use Rattle.pm_phase.specs.Beginning.{StartsFrom}
use Rattle.pm_phase.specs.Nodes.{numbers_of_parts, numbers_of_nodes}
use Rattle.pm_phase.proofs.opening.without_ends.Given as goal

abbrev pub invariant-loop-part : goal.invariant-loop-part
invariant-loop-part l =
    All (AreOf []) l.nodes.items × (numbers_of_nodes l.nodes.items ++ numbers_of_parts l.part-iterator.rest.items ≡ numbers_of_parts l.fn.parts.items)
    × All (StartsFrom l.fn.parts.items) l.nodes.items
    × All (Contains l.fn.parts.items) l.part-iterator.rest.items
