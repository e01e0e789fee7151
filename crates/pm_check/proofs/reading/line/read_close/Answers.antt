-- Of `read_close`: what it ensures.
use Rattle.std.proofs.Common.{ap, Some, None}
use Rattle.pm_check.proofs.MoveLines.{reads_close}
use Rattle.pm_check.proofs.reading.line.read_close.Goals as goal

pub returns-in_err-phase : goal.returns-in_err-phase
returns-in_err-phase c = reads_close c.args.plan.now c.args.rest.now c.from_residual.result None c.from_residual.ensures c.in_err-phase.ensures

pub returns : goal.returns
returns c = reads_close c.args.plan.now c.args.rest.now _ (Some c.in_ok-phase.phase) (ap Some c.unheld.ensures) c.in_ok-phase.ensures
