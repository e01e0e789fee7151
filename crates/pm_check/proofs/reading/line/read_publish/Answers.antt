-- Of `read_publish`: what it ensures.
use Rattle.std.proofs.Common.{ap, Some, None}
use Rattle.pm_check.proofs.MoveLines.{reads_publish}
use Rattle.pm_check.proofs.reading.line.read_publish.Goals as goal

pub returns-in_err-node : goal.returns-in_err-node
returns-in_err-node c = reads_publish c.args.plan.now c.args.rest.now c.from_residual.result None c.from_residual.ensures c.in_err-node.ensures

pub returns : goal.returns
returns c = reads_publish c.args.plan.now c.args.rest.now _ (Some (c.in_ok-node.node, c.in_ok-node.number)) (ap Some c.unheld.ensures) c.in_ok-node.ensures
