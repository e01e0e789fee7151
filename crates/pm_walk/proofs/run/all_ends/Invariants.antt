-- Of `all_ends`: what its loop over `phase` keeps.
use Rattle.std.proofs.Common.{◌-◌}
use Rattle.pm_walk.specs.Runs.{IsAtEnd, AreEnds}
use Rattle.pm_walk.proofs.run.all_ends.Given as goal

abbrev pub invariant-loop-phase : goal.invariant-loop-phase
invariant-loop-phase l = record {
  run : IsAtEnd l.plan (l.phase - 1) l.run;
  ends : AreEnds l.plan (l.phase - 1) l.ends.items;
}
