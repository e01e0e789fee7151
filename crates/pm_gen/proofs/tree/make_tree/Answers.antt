-- Of `make_tree`: what the call of `allocation_failure` requires.
use Rattle.pm_tree.specs.Entries.{entries_of}
use Rattle.pm_gen.proofs.Trees.{fault_is_memory}
use Rattle.pm_gen.proofs.tree.make_tree.Goals as goal

pub allocation_failure-requires : goal.allocation_failure-requires
allocation_failure-requires c = fault_is_memory c.args.size (entries_of c.in_ok-entries.field-0.items) c.new.result c.in-Err.fault
    c.requires.some c.requires.few c.in_ok-entries.ensures c.new.ensures.tree c.in-Err.is
