-- Of `run`: what its loop over `taken` keeps.
use Rattle.std.proofs.Common.{◌≡◌, ◌<◌, ◌≤◌, ◌-◌, ◌+◌, [], length}
use Rattle.pm_wire.specs.Memory.{piece_limit, rest_limit}
use Rattle.pm_wire.specs.Services.{Serving, stream_limit}
use Rattle.pm_wire.proofs.stream.run.Given as goal

abbrev pub invariant-loop-taken : goal.invariant-loop-taken
invariant-loop-taken g l = record {
  serving : Serving g.F.StreamFrame.framing l.initial.decoder.place g.V.Service.answers l.initial.service (g.W.Peer.left l.initial.wire)
      (g.W.Peer.left l.wire) (g.W.Peer.held l.initial.wire) (g.W.Peer.held l.wire) l.decoder l.service l.taken;
  within : l.taken ≤ stream_limit + piece_limit;
  empty : l.out.items ≡ [];
  rest : length l.decoder.rest < g.F.StreamFrame.framing.most_bytes;
  held : l.decoder.held < rest_limit g.F.StreamFrame.framing.most_bytes;
  becomes : g.W.Peer.becomes l.initial.wire l.wire;
  source_count : g.W.Peer.read_faults l.initial.wire ≤ g.W.Peer.read_faults l.wire;
  sink_count : g.W.Peer.write_faults l.initial.wire ≤ g.W.Peer.write_faults l.wire;
  refusals : g.M.Memory.refusals l.initial.memory ≤ g.M.Memory.refusals l.memory;
}

abbrev pub decreases-loop-taken : goal.decreases-loop-taken
decreases-loop-taken g l = stream_limit + piece_limit + 1 - l.taken
