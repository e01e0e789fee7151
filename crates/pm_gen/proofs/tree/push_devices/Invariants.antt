-- Of `push_devices`: what its loop over `place` keeps.
use Rattle.std.proofs.Common.{◌≡◌, ◌++◌}
use Rattle.pm_tree.specs.Entries.{entries_of}
use Rattle.pm_gen.specs.Nodes.{device_entries}
use Rattle.pm_gen.proofs.tree.push_devices.Given as goal

abbrev pub invariant-loop-place : goal.invariant-loop-place
invariant-loop-place l = entries_of l.entries.items ≡ entries_of l.fn.entries.items ++ device_entries l.count l.place
