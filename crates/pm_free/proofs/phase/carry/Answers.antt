-- Of `carry`: its clauses `stand` and `over`.
use Rattle.std.specs.Prelude.{IfSome}
use Rattle.pm_free.specs.Nodes.{StandAfter, IsOutcome}
use Rattle.pm_free.specs.OverLinks.{CameOverLinks}
use Rattle.pm_free.proofs.CameOver.{ok_too, run_leaves}
use Rattle.pm_free.proofs.phase.carry.Goals as goal

pub returns-clause-stand : goal.returns-clause-stand
returns-clause-stand g c =
    let run = c.in_ok-run.run' in
    let came = c.in_ok-carried.carried in
    ok_too (λ left. IsOutcome run.parts run.links came left.0 left.1) (λ left. StandAfter c.args.plan.now c.args.phase left.0) c.outcome.result
    (λ left is. (run_leaves c.args.plan.now c.basis-basis.ensures.sound c.args.phase c.args.nodes.parts.items c.args.nodes.made c.args.changes.now run came
    left.0 left.1 c.requires.first c.requires.stand c.requires.told c.in_ok-run.ensures.ran c.in_ok-carried.ensures.settled
    c.in_ok-carried.ensures.read is).stand) c.outcome.ensures

pub returns-clause-over : goal.returns-clause-over
returns-clause-over g c =
    let run = c.in_ok-run.run' in
    let came = c.in_ok-carried.carried in
    ok_too (λ left. IsOutcome run.parts run.links came left.0 left.1)
    (λ left. IfSome left.1.end (λ end. CameOverLinks c.args.plan.now c.args.phase c.args.nodes.parts.items left.0.parts.items left.1 end.end))
    c.outcome.result
    (λ left is. (run_leaves c.args.plan.now c.basis-basis.ensures.sound c.args.phase c.args.nodes.parts.items c.args.nodes.made c.args.changes.now run came
    left.0 left.1 c.requires.first c.requires.stand c.requires.told c.in_ok-run.ensures.ran c.in_ok-carried.ensures.settled
    c.in_ok-carried.ensures.read is).over) c.outcome.ensures
