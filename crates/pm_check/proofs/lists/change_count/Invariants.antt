-- Of `change_count`: what its loop over `phase` keeps.
use Rattle.std.proofs.Common.{◌≡◌, ◌-◌}
use Rattle.pm_plan.specs.Plans.{end_cut}
use Rattle.pm_check.proofs.lists.change_count.Given as goal

abbrev pub invariant-loop-phase : goal.invariant-loop-phase
invariant-loop-phase l = l.count ≡ end_cut l.plan (l.phase - 1) l.device.0
