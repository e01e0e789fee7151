-- Of `change_stops`: what its loop over `number` keeps.
use Rattle.std.proofs.Common.{◌-◌}
use Rattle.pm_plan.specs.Plans.{end_cut}
use Rattle.pm_walk.specs.Cuts.{file_cut, earlier_cut}
use Rattle.pm_walk.specs.Standing.{HaveCome}
use Rattle.pm_walk.proofs.Standings.{AreBetween}
use Rattle.pm_walk.proofs.stops.change_stops.Given as goal

abbrev pub invariant-loop-number : goal.invariant-loop-number
invariant-loop-number l = record {
  reached : HaveCome l.plan l.stops;
  between : AreBetween l.number l.stops (earlier_cut (file_cut l.cut) (end_cut l.plan l.phase)) (earlier_cut (file_cut l.cut) (end_cut l.plan (l.phase - 1)));
}
