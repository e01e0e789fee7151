-- Of `read_pass`: what it ensures.
use Rattle.std.proofs.Common.{refl, Some, None}
use Rattle.pm_check.proofs.MoveLines.{reads_pass}
use Rattle.pm_check.proofs.reading.line.read_pass.Goals as goal

pub returns-in_err-node : goal.returns-in_err-node
returns-in_err-node c = reads_pass c.args.plan.now c.args.rest.now c.from_residual.result None c.from_residual.ensures c.in_err-node.ensures

pub returns : goal.returns
returns c = reads_pass c.args.plan.now c.args.rest.now _ (Some (c.in_ok-node.node, c.in_ok-node.index, c.in_ok-node.held)) refl c.in_ok-node.ensures
