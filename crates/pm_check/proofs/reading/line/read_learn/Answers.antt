-- Of `read_learn`: what it ensures.
use Rattle.std.proofs.Common.{ap, Some, None}
use Rattle.pm_check.proofs.MoveLines.{reads_learn}
use Rattle.pm_check.proofs.reading.line.read_learn.Goals as goal

pub returns-in_err-child : goal.returns-in_err-child
returns-in_err-child c = reads_learn c.args.plan.now c.args.rest.now c.from_residual.result None c.from_residual.ensures c.in_err-child.ensures

pub returns : goal.returns
returns c = reads_learn c.args.plan.now c.args.rest.now _ (Some (c.in_ok-child.child, c.in_ok-child.number)) (ap Some c.unheld.ensures) c.in_ok-child.ensures
