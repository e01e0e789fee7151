-- The parts of the nodes are those of the tree's entries.
use Rattle.std.proofs.Common.{◌≡◌, ◌∙◌, List, [], ◌∷◌, map, Option, None, Some, Ok, refl, ap, Bool, rules}
use Rattle.pm_tree.specs.Entries.{Entry, leaves_of, first_refusal, tree_unless}
use Rattle.pm_tree.specs.declared.fault.TreeFault.{TreeFault}
use Rattle.pm_tree.specs.declared.fault.TreeFault.TheVariants.{TooMany, BadName, Twice, NoParent, TooDeep, NoMemory}
use Rattle.pm_plan.specs.Parts.{AreNodesOf, is_device}
use Rattle.pm_scene.specs.Nodes.{NamedPart}
use Rattle.pm_scene.specs.Trees.{entries_in, parts_in, tree_of, tree_or_refuse}

-- a tree is the list of its entries
kept : (entries tree : List Entry) (fault : Option TreeFault) → tree_or_refuse (tree_unless entries fault) ≡ Ok tree → entries ≡ tree
kept entries tree None h = search rules
kept entries tree (Some (TooMany have)) h = search rules
kept entries tree (Some (BadName at)) h = search rules
kept entries tree (Some (Twice at)) h = search rules
kept entries tree (Some (NoParent at)) h = search rules
kept entries tree (Some (TooDeep at)) h = search rules
kept entries tree (Some NoMemory) h = search rules

devices : (nodes : List NamedPart) → map is_device (parts_in nodes) ≡ map (λ (entry : Entry). entry.leaf) (entries_in nodes)
devices [] = refl
devices (node ∷ nodes) = ap (λ (ls : List Bool). is_device node.part ∷ ls) (devices nodes)

devices_are_leaves : (nodes : List NamedPart) → map is_device (parts_in nodes) ≡ leaves_of (entries_in nodes)
unfolding leaves_of
devices_are_leaves nodes = devices nodes

-- where the entries of some named parts make a tree, these are the parts of the nodes of that tree
pub are_nodes : (nodes : List NamedPart) (tree : List Entry) → tree_of (entries_in nodes) ≡ Ok tree → AreNodesOf tree (parts_in nodes)
are_nodes nodes tree h = devices_are_leaves nodes ∙ ap leaves_of (kept (entries_in nodes) tree (first_refusal (entries_in nodes)) h)
