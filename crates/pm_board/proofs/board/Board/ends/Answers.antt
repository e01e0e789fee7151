-- Of `Board::ends`: what the call of `slice_bounds` requires.
use Rattle.std.proofs.Common.{ap, length, arith}
use Rattle.std.proofs.lemmas.List.{length-take}
use Rattle.pm_plan.proofs.MarketLists.{phases-is}
use Rattle.pm_board.proofs.board.Board.ends.Goals as goal

pub slice_bounds-result-end : goal.slice_bounds-result-end
slice_bounds-result-end c =
    let stands = c.self.invariant.run.stands in
    omega (
      arith,
      length-take c.closed.result c.deref.result.now,
      c.closed.ensures.closed,
      stands.closed,
      stands.sound.closed_within,
      phases-is c.self.inside.cluster.plan,
      c.self.invariant.one_each,
      ap length c.deref.ensures.value,
    )
