-- Of `open_links`: what its loop over `number` keeps.
use Rattle.std.proofs.Common.{◌≡◌, ◌+◌, All, length}
use Rattle.pm_phase.specs.Ends.{AreOf, ArePlaced}
use Rattle.pm_phase.specs.Nodes.{numbers_of_parts, numbers_of_nodes}
use Rattle.pm_phase.specs.Beginning.{IsOpenedNode}
use Rattle.pm_phase.specs.Closing.{IsEmptyPlace}
use Rattle.pm_phase.proofs.opening.open_links.Given as goal

abbrev pub invariant-loop-number : goal.invariant-loop-number
invariant-loop-number l =
    All (AreOf l.links.items) l.nodes.items
    × ArePlaced l.links.items l.places.items
    × (numbers_of_nodes l.nodes.items ≡ numbers_of_parts l.fn.parts.items)
    × (length l.links.items + 1 ≡ l.number)
    × All IsEmptyPlace l.places.items
    × All (IsOpenedNode l.plan l.fn.parts.items) l.nodes.items
