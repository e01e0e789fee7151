-- Of `make_parts`: the turns of its loop over `number`.
use Rattle.std.proofs.Common.{sym, subst, arith}
use Rattle.pm_free.proofs.NewNodes.{NewTo, parts_more}
use Rattle.pm_free.proofs.phase.make_parts.Goals as goal

pub loop-number-preserved : goal.loop-number-preserved
loop-number-preserved c = (
  omega (arith, c.loop-number.invariant.0, c.in_ok-push.ensures.len),
  subst (NewTo c.args.plan.now) (sym c.in_ok-push.ensures.items)
      (parts_more c.args.plan.now c.loop-number.number c.loop-number.parts.items c.in_ok-part.part c.loop-number.invariant.0 c.loop-number.invariant.1
      c.in_ok-part.ensures.number c.in_ok-part.ensures.duty),
)
