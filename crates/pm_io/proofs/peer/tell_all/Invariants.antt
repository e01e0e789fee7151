-- Of `tell_all`: what its loop over `written` keeps.
use Rattle.std.proofs.Common.{length, ◌-◌, ◌≤◌, ◌≡◌, take}
use Rattle.std.specs.Io.KnownBytes.{Appends}
use Rattle.pm_io.proofs.peer.tell_all.Given as goal

abbrev pub invariant-loop-written : goal.invariant-loop-written
invariant-loop-written g l = record {
  within : l.written ≤ length l.bytes;
  count : g.W.Peer.write_faults l.initial.wire ≤ g.W.Peer.write_faults l.wire;
  appended : Appends (g.W.Peer.held l.initial.wire) (g.W.Peer.held l.wire) (take l.written l.bytes);
  left : g.W.Peer.left l.wire ≡ g.W.Peer.left l.initial.wire;
  read_faults : g.W.Peer.read_faults l.wire ≡ g.W.Peer.read_faults l.initial.wire;
  becomes : g.W.Peer.becomes l.initial.wire l.wire;
}

abbrev pub decreases-loop-written : goal.decreases-loop-written
decreases-loop-written g l = length l.bytes - l.written
