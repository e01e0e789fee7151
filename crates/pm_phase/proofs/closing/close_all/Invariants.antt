-- Of `close_all`: what its loop over `link` keeps.
use Rattle.std.proofs.Common.{◌≡◌, ◌+◌, List, All, length}
use Rattle.std.specs.Prelude.{IfSome}
use Rattle.pm_phase.specs.Ends.{ArePlaced}
use Rattle.pm_phase.specs.Logs.{IsLogOfLink}
use Rattle.pm_phase.specs.Closing.{AreReturned}
use Rattle.pm_phase.specs.declared.node.FreeNode.{FreeNode}
use Rattle.pm_phase.proofs.EndsCome.{LogsFrom}
use Rattle.pm_phase.proofs.closing.close_all.Given as goal

abbrev pub invariant-loop-link : goal.invariant-loop-link
invariant-loop-link l =
    ArePlaced l.links.items l.places.items
    × (length l.logs.items + length l.links.items ≡ length l.fn.links.items)
    × All (λ log. IfSome log IsLogOfLink) l.logs.items
    × ((nodes : List FreeNode) → AreReturned nodes l.fn.places.items →
    AreReturned nodes l.places.items × LogsFrom nodes (length l.links.items) l.logs.items)

abbrev pub decreases-loop-link : goal.decreases-loop-link
decreases-loop-link l = length l.links.items
