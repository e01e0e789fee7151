-- Of `hand_up`: its clause `numbers`.
use Rattle.std.proofs.Common.{ap, ◌∙◌}
use Rattle.pm_phase.proofs.Numbers.{numbers_set}
use Rattle.pm_phase.specs.declared.node.FreeNode.{FreeNode}
use Rattle.pm_phase.proofs.opening.hand_up.Goals as goal

pub returns-clause-numbers : goal.returns-clause-numbers
returns-clause-numbers c =
    numbers_set c.args.nodes.now.items c.args.number c.add_up.new.node c.index_mut.result.now
    (ap (λ p. p.number) c.add_up.ensures.part ∙ ap (λ (n : FreeNode). n.part.number) c.index_mut.ensures.value)
