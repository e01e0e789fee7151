-- Of `push_devices`: the turns of its loop over `place`.
use Rattle.pm_tree.specs.Entries.{entry_of, entries_of}
use Rattle.pm_gen.specs.Nodes.{device_entry}
use Rattle.pm_gen.proofs.Ranges.{map-pushed}
use Rattle.pm_gen.proofs.tree.push_devices.Goals as goal

pub loop-place-preserved : goal.loop-place-preserved
loop-place-preserved c = map-pushed entry_of (device_entry c.args.count)
    (entries_of c.args.entries.now.items) c.loop-place.entries.items c.push.new.self.items c.in_ok-device.field-0 c.loop-place.place
    c.in_ok-push.ensures.items c.in_ok-device.ensures c.loop-place.invariant
