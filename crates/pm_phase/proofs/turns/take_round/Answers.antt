-- Of `take_round`: the turns of its loop over `at`.
use Rattle.std.proofs.Common.{◌∙◌, set, subst}
use Rattle.std.proofs.lemmas.List.Elements.{All-set}
use Rattle.pm_phase.specs.Ends.{AreOf}
use Rattle.pm_phase.specs.Telling.{StepsOn}
use Rattle.pm_phase.specs.declared.node.FreeNode.{FreeNode}
use Rattle.std.proofs.lemmas.List.{get_or_default}
use Rattle.pm_phase.proofs.StepsOn.{all_trans, all_set}
use Rattle.pm_phase.proofs.Numbers.{numbers_set}
use Rattle.pm_phase.proofs.turns.take_round.Goals as goal

pub loop-at-preserved : goal.loop-at-preserved
loop-at-preserved g c =
    let (of_links, numbers, steps) = c.loop-at.invariant in
    let plan = c.args.phase.now.plan.now in
    let changes = c.args.phase.now.changes.now in (
      All-set (AreOf c.args.links.now) _ _ _ c.take_turn-here.ensures.links of_links,
      numbers_set c.loop-at.nodes c.loop-at.at c.take_turn-here.new.node _ c.take_turn-here.ensures.number ∙ numbers,
      all_trans plan changes c.args.nodes.now c.loop-at.nodes (set c.loop-at.nodes c.loop-at.at c.take_turn-here.new.node) steps
          (all_set plan changes c.loop-at.nodes c.loop-at.at c.take_turn-here.new.node c.loop-at-test.true (λ d.
          subst (λ (n : FreeNode). StepsOn plan changes n c.take_turn-here.new.node)
          (get_or_default c.loop-at.nodes c.loop-at.at _ d c.loop-at-test.true) c.take_turn-here.ensures.steps)),
    )
