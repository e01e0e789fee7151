-- Of `read_clear`: what it ensures.
use Rattle.std.proofs.Common.{ap, Some, None}
use Rattle.pm_check.proofs.MoveLines.{reads_clear}
use Rattle.pm_check.proofs.reading.line.read_clear.Goals as goal

pub returns-in_err-index : goal.returns-in_err-index
returns-in_err-index c = reads_clear c.args.plan.now c.args.rest.now c.from_residual.result None c.from_residual.ensures c.in_err-index.ensures

pub returns : goal.returns
returns c = reads_clear c.args.plan.now c.args.rest.now _ (Some c.in_ok-index.index) (ap Some c.unheld.ensures) c.in_ok-index.ensures
