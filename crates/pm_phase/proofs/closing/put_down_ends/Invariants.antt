-- Of `put_down_ends`: what its loop over `down` keeps.
use Rattle.std.proofs.Common.{◌≡◌, All, List, Contains}
use Rattle.pm_phase.specs.Ends.{IsDownOf, ArePlaced}
use Rattle.pm_phase.specs.Closing.{AreReturned}
use Rattle.pm_phase.specs.declared.node.FreeNode.{FreeNode}
use Rattle.pm_phase.proofs.closing.put_down_ends.Given as goal

abbrev pub invariant-loop-down : goal.invariant-loop-down
invariant-loop-down l =
    All (IsDownOf l.links) l.down-iterator.rest.items
    × ArePlaced l.links l.places.items
    × All (Contains l.fn.downs.items) l.down-iterator.rest.items
    × ((nodes : List FreeNode) (node : FreeNode) → Contains nodes node → node.downs.items ≡ l.fn.downs.items →
    AreReturned nodes l.fn.places.items → AreReturned nodes l.places.items)
