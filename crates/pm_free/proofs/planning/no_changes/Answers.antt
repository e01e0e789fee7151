-- Of `no_changes`: its turns.
use Rattle.std.proofs.Common.{sym, subst}
use Rattle.pm_free.specs.Counting.{AreTold}
use Rattle.pm_free.proofs.Told.{told_more}
use Rattle.pm_free.proofs.planning.no_changes.Goals as goal

pub loop-preserved : goal.loop-preserved
loop-preserved c = subst (AreTold c.args.plan.now) (sym c.in_ok-push.ensures.items)
    (told_more c.args.plan.now c.loop.changes.items c.new.result c.new.ensures.items c.loop.invariant)
