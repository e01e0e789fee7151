-- Of `take_frames`: what its loop over `frame` keeps.
use Rattle.std.proofs.Common.{◌+◌, ◌*◌, ◌≤◌, length}
use Rattle.pm_wire.specs.Taking.{TakesSome}
use Rattle.pm_wire.proofs.pieces.take_frames.Given as goal

abbrev pub invariant-loop-frame : goal.invariant-loop-frame
invariant-loop-frame g l = record {
  taken : TakesSome g.F.StreamFrame.framing g.V.Service.answers l.fn.decoder l.decoder l.fn.service l.service l.fn.out.items l.out.items;
  answers : length l.out.items + g.V.Service.most_answers * length l.decoder.rest
      ≤ length l.fn.out.items + g.V.Service.most_answers * length l.fn.decoder.rest;
  refusals : g.M.Memory.refusals l.fn.memory ≤ g.M.Memory.refusals l.memory;
}

abbrev pub decreases-loop-frame : goal.decreases-loop-frame
decreases-loop-frame g l = length l.decoder.rest
