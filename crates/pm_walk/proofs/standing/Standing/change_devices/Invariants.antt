-- Of `Standing::change_devices`: what its loop over `number` keeps.
use Rattle.std.proofs.Common.{◌≡◌, ◌-◌, false}
use Rattle.pm_plan.specs.Plans.{end_cut}
use Rattle.pm_walk.proofs.Standings.{IsAlong}
use Rattle.pm_walk.proofs.standing.Standing.change_devices.Given as goal

abbrev pub invariant-loop-number : goal.invariant-loop-number
invariant-loop-number l = record {
  along : IsAlong l.plan l.number l.self l.spare (end_cut l.plan l.phase) (end_cut l.plan (l.phase - 1));
  same : l.changed ≡ false → l.self ≡ l.fn.self;
}
