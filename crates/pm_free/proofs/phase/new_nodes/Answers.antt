-- Of `new_nodes`: its clause `stand`.
use Rattle.pm_free.proofs.NewNodes.{new_after}
use Rattle.pm_free.proofs.phase.new_nodes.Goals as goal

pub returns-clause-stand : goal.returns-clause-stand
returns-clause-stand c =
    new_after c.args.plan.now c.basis-basis.ensures.sound c.in_ok-parts.parts.items c.in_ok-made.made.items _ c.in_ok-parts.ensures.new c.in_ok-made.ensures
