-- Of `bill_of_run`: what its loop over `phase` keeps.
use Rattle.std.proofs.Common.{◌≡◌, ◌-◌}
use Rattle.pm_bill.specs.Runs.{bill_over}
use Rattle.pm_bill.proofs.RunBills.{ticks_to}
use Rattle.pm_bill.proofs.run.bill_of_run.Given as goal

abbrev pub invariant-loop-phase : goal.invariant-loop-phase
invariant-loop-phase l = l.bill ≡ bill_over l.plan (ticks_to l.plan (l.phase - 1))
