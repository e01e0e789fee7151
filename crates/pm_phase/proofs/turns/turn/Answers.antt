-- Of `turn`: its clause `steps`.
use Rattle.pm_phase.proofs.NodesMove.{device_steps, parent_steps}
use Rattle.pm_phase.proofs.turns.turn.Goals as goal

pub returns-in-Device-clause-steps : goal.returns-in-Device-clause-steps
returns-in-Device-clause-steps g c =
    device_steps c.args.phase.now.plan.now c.args.phase.now.changes.now c.args.node.now _ _ _ c.in-Device.is c.device_turn.ensures.here
    c.device_turn.ensures.keeps

pub returns-then-sent-clause-steps : goal.returns-then-sent-clause-steps
returns-then-sent-clause-steps g c =
    parent_steps c.args.phase.now.plan.now c.args.phase.now.changes.now c.args.node.now c.in-Parent.parent c.children_turn-with_children.new.parent
    c.send-sent.new.parent c.parent_turn-with_parent.new.parent c.parent_turn-with_parent.new.up c.children_turn-with_children.new.downs c.in-Parent.is
    c.children_turn-with_children.ensures.moves c.send-sent.ensures.moves c.parent_turn-with_parent.ensures.moves

pub returns-else-sent-clause-steps : goal.returns-else-sent-clause-steps
returns-else-sent-clause-steps g c =
    parent_steps c.args.phase.now.plan.now c.args.phase.now.changes.now c.args.node.now c.in-Parent.parent c.children_turn-with_children.new.parent
    c.send-sent.new.parent c.parent_turn-with_parent.new.parent c.parent_turn-with_parent.new.up c.children_turn-with_children.new.downs c.in-Parent.is
    c.children_turn-with_children.ensures.moves c.send-sent.ensures.moves c.parent_turn-with_parent.ensures.moves
