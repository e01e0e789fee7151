-- The tree of the nodes of a file, or its refusal.
use Rattle.std.specs.Prelude.{List, map, Result, Ok, Err}
use Rattle.pm_tree.specs.Entries.{Entry, checked_tree}
use Rattle.pm_tree.specs.declared.fault.TreeFault.{TreeFault}
use Rattle.pm_tree.specs.declared.fault.TreeFault.TheVariants.{TooMany, BadName, Twice, NoParent, TooDeep, NoMemory}
use Rattle.pm_plan.specs.Parts.{NodePart, is_device}
use Rattle.pm_plan.specs.Refusals.{refuse}
use Rattle.pm_plan.specs.declared.refusal.Cause.TheVariants as cause
use Rattle.pm_plan.specs.declared.refusal.Place.TheVariants.{Document, Node}
use Rattle.pm_plan.specs.declared.refusal.Refusal.{Refusal}
use Rattle.pm_scene.specs.Nodes.{NamedPart}

-- a node as an entry of the tree: the devices are the leaves
abbrev pub entry_in : NamedPart → Entry
entry_in node = record { name = node.name; parent = node.parent; leaf = is_device node.part }

abbrev pub entries_in : List NamedPart → List Entry
entries_in nodes = map entry_in nodes

abbrev pub parts_in : List NamedPart → List NodePart
parts_in nodes = map (λ node. node.part) nodes

-- an allocation failure is no refusal of a tree: `checked_tree` never gives it
abbrev pub tree_or_refuse : Result (List Entry) TreeFault → Result (List Entry) Refusal
tree_or_refuse (Ok tree) = Ok tree
tree_or_refuse (Err (TooMany have)) = refuse cause.TooManyNodes Document
tree_or_refuse (Err (BadName at)) = refuse cause.BadName (Node at)
tree_or_refuse (Err (Twice at)) = refuse cause.NameTwice (Node at)
tree_or_refuse (Err (NoParent at)) = refuse cause.UnknownParent (Node at)
tree_or_refuse (Err (TooDeep at)) = refuse cause.TooDeep (Node at)
tree_or_refuse (Err NoMemory) = refuse cause.TooManyNodes Document

abbrev pub tree_of : List Entry → Result (List Entry) Refusal
tree_of entries = tree_or_refuse (checked_tree entries)
