-- Which node has work.
use Rattle.std.specs.Prelude.{◌==◌, ◌&&◌, ◌||◌, nat_lt, not, Bool, false}
use Rattle.pm_waking.specs.declared.node.NodeSort.{NodeSort}
use Rattle.pm_waking.specs.declared.node.NodeSort.TheVariants.{Device, Parent}
use Rattle.pm_waking.specs.declared.node.NodePending.{NodePending}
use Rattle.pm_waking.specs.declared.node.ParentPending.{ParentPending}

-- a child's number waits to be learnt, or something was learnt and is not sent
abbrev pub parent_has_news : ParentPending → Bool
parent_has_news parent = nat_lt 0 parent.bids || parent.learnt

-- a device has a change to make; a node with children has news, no child owes it anything, and its last turn found a move
abbrev pub sort_has_work : NodeSort → Bool
sort_has_work (Device device) = device.changes
sort_has_work (Parent parent) = (parent.below == 0) && not parent.stuck && parent_has_news parent

-- a clearing waits, or its sort gives it work
abbrev pub has_work : NodePending → Bool
has_work node = node.price || sort_has_work node.sort

abbrev pub sort_has_change : NodeSort → Bool
sort_has_change (Device device) = device.changes
sort_has_change (Parent parent) = false

-- a device with a change to make in the open phase
abbrev pub has_change : NodePending → Bool
has_change node = sort_has_change node.sort

abbrev pub sort_has_unsent : NodeSort → Bool
sort_has_unsent (Device device) = false
sort_has_unsent (Parent parent) = parent.learnt

-- a node with children that learnt something that it has not sent
abbrev pub has_unsent : NodePending → Bool
has_unsent node = sort_has_unsent node.sort
