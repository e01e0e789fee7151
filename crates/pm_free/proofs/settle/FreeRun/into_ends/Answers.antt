-- Of `into_ends`: what the call of `put_ends` requires.
use Rattle.std.proofs.Common.{◌∙◌, ap}
use Rattle.pm_board.specs.Boards.{kept_ends}
use Rattle.pm_plan.specs.Plans.{phases}
use Rattle.pm_free.proofs.SameEnds.{over_same}
use Rattle.pm_free.proofs.settle.FreeRun.into_ends.Goals as goal

pub put_ends-requires : goal.put_ends-requires
put_ends-requires c =
    let board = c.args.self.board in
    record {
      same = over_same board.plan c.args.self.phases.items (kept_ends c.into_parts-journal.result.1.items) (phases board.plan) c.requires.over
          c.requires.one_each (ap kept_ends c.into_parts-journal.ensures.ends ∙ c.requires.settled.ends);
    }
