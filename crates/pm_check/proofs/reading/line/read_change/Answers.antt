-- Of `read_change`: what it ensures.
use Rattle.std.proofs.Common.{ap, Some, None}
use Rattle.pm_check.proofs.MoveLines.{reads_change}
use Rattle.pm_check.proofs.reading.line.read_change.Goals as goal

pub returns-in_err-device : goal.returns-in_err-device
returns-in_err-device c = reads_change c.args.plan.now c.args.rest.now c.from_residual.result None c.from_residual.ensures c.in_err-device.ensures

pub returns : goal.returns
returns c = reads_change c.args.plan.now c.args.rest.now _ (Some (c.in_ok-device.device, c.in_ok-device.number))
    (ap Some c.unheld.ensures) c.in_ok-device.ensures
