-- Of `choose`: the turns of its loop.
use Rattle.std.proofs.Common.{rules, ◌∙◌, sym}
use Rattle.std.proofs.lemmas.Int.{to_z-of_z}
use Rattle.pm_guard.specs.Guards.{may_choose}
use Rattle.pm_guard.proofs.Ends.{false_next}
use Rattle.pm_guard.proofs.guard.Guard.choose.Goals as goal

pub loop-child-preserved : goal.loop-child-preserved
loop-child-preserved c =
    false_next (may_choose c.args.self.now c.args.targets.now) c.loop-child.child c.loop-child.invariant
    (sym (c.may_choose.ensures c.args.targets.now (search (rules, to_z-of_z))) ∙ c.if-may_choose.false)
