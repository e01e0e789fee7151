-- Of `is_settled`: what it ensures.
use Rattle.std.proofs.Common.{subst}
use Rattle.pm_plan.specs.Kept.{IsPlan}
use Rattle.pm_turns.proofs.Finishing.{settled}
use Rattle.pm_turns.proofs.one_thread.is_settled.Goals as goal

pub returns : goal.returns
returns c = record {
  settled = settled c.args.board.now (subst IsPlan c.plan.ensures.plan c.basis-plan.ensures.sound) c.journal-journal.ensures.journal
      c.ends-ends.ensures.kept c.requires.done;
}
