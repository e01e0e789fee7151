-- Of `change_stop`: its clause `count`.
use Rattle.std.proofs.Common.{◌-◌, arith}
use Rattle.pm_plan.proofs.Ends.{end-rises}
use Rattle.pm_walk.proofs.stops.change_stop.Goals as goal

pub returns-then-many-eq0-clause-count : goal.returns-then-many-eq0-clause-count
returns-then-many-eq0-clause-count c =
    let rises = end-rises c.args.plan.now (c.args.phase - 1) c.args.phase c.args.device.0 (omega arith) in
    omega (arith, rises, c.changes_of.ensures, c.min-many.ensures, c.requires.begun)
