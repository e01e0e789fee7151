-- Of `make_changes`: what lasts from turn to turn.
use Rattle.std.proofs.Common.{◌≡◌, ◌+◌}
use Rattle.pm_walk.specs.Standing.{HasCome}
use Rattle.pm_walk.proofs.changes.make_changes.Given as goal

abbrev pub invariant-loop : goal.invariant-loop
invariant-loop l = record {
  reached : HasCome l.plan l.device.0 l.here;
  count : l.here.count ≡ l.fn.before.count + l.counter;
}
