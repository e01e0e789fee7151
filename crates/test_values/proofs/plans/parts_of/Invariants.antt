-- Of `parts_of`: what its loop over `line` keeps.
use Rattle.std.proofs.Common.{◌≡◌, map}
use Rattle.pm_tree.specs.Entries.{entries_of, leaves_of}
use Rattle.pm_plan.specs.Parts.{is_device, node_part}
use Rattle.test_values.proofs.plans.parts_of.Given as goal

abbrev pub invariant-loop-line : goal.invariant-loop-line
invariant-loop-line g l = map is_device (map node_part l.nodes.items) ≡ leaves_of (entries_of l.entries.items)
