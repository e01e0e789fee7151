-- Of `take_turns`: what the call of `turn_of` requires.
use Rattle.std.proofs.Common.{length, ap, arith}
use Rattle.pm_plan.specs.Plans.{PlanData}
use Rattle.pm_plan.proofs.MarketLists.{nodes_are}
use Rattle.pm_free.proofs.planning.take_turns.Goals as goal

pub turn_of-requires-clause-inside : goal.turn_of-requires-clause-inside
turn_of-requires-clause-inside c =
    let many = λ (plan : PlanData). length plan.entries in
    omega (
      arith,
      c.if-node-len.false,
      c.len.ensures.len,
      ap length c.tree.ensures.tree,
      ap many c.plan.ensures.plan,
      ap many c.loop.invariant,
      nodes_are c.loop.board.plan,
    )
