-- Of `Run::stop_at`: what its loop over `phase` keeps.
use Rattle.std.proofs.Common.{◌-◌}
use Rattle.pm_walk.specs.Cuts.{AreStops}
use Rattle.pm_walk.specs.Runs.{IsAtEnd}
use Rattle.pm_walk.proofs.run.Run.stop_at.Given as goal

abbrev pub invariant-loop-phase : goal.invariant-loop-phase
invariant-loop-phase l = record {
  run : IsAtEnd l.plan (l.phase - 1) l.self;
  stops : AreStops l.plan l.cut (l.phase - 1) l.stops;
}
