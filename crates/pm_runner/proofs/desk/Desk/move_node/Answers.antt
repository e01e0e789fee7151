-- Of `Desk::move_node`: what the call of `turn` requires.
use Rattle.std.proofs.Common.{◌∙◌, ap, length, arith}
use Rattle.pm_plan.proofs.MarketLists.{nodes_are}
use Rattle.pm_runner.proofs.desk.Desk.move_node.Goals as goal

pub turn-requires : goal.turn-requires
turn-requires c = record {
  inside = omega (
    arith,
    c.if-node-len.false,
    c.len.ensures.len,
    nodes_are c.args.self.now.board.plan,
    ap length (c.tree.ensures.tree ∙ ap (λ p. p.entries) c.plan-plan.ensures.plan),
  );
}
