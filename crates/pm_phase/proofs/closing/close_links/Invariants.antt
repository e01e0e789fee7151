-- Of `close_links`: what its loop over `node` keeps.
use Rattle.std.proofs.Common.{◌≡◌, ◌++◌, All, Contains}
use Rattle.pm_phase.specs.Ends.{AreOf, ArePlaced}
use Rattle.pm_phase.specs.Closing.{AreReturned, parts_of_nodes}
use Rattle.pm_phase.specs.Nodes.{numbers_of_parts, numbers_of_nodes}
use Rattle.pm_phase.proofs.closing.close_links.Given as goal

abbrev pub invariant-loop-node : goal.invariant-loop-node
invariant-loop-node l =
    All (AreOf l.links.items) l.node-iterator.rest.items
    × ArePlaced l.links.items l.places.items
    × (numbers_of_parts l.parts.items ++ numbers_of_nodes l.node-iterator.rest.items ≡ numbers_of_nodes l.fn.nodes.items)
    × All (Contains l.fn.nodes.items) l.node-iterator.rest.items
    × AreReturned l.fn.nodes.items l.places.items
    × (l.parts.items ++ parts_of_nodes l.node-iterator.rest.items ≡ parts_of_nodes l.fn.nodes.items)
