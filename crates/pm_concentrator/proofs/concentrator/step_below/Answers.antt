-- Of `step_below`: what the call of `local_step` requires.
use Rattle.std.proofs.Common.{◌≡◌, ◌∙◌, ap, sym, length, Some, arith}
use Rattle.std.specs.Option.{option_copied}
use Rattle.pm_session.specs.Windows.{steps_of}
use Rattle.pm_concentrator.proofs.concentrator.step_below.Goals as goal

pub local_step-requires : goal.local_step-requires
local_step-requires c =
    let read : Some c.in-Some-sum.sum.now ≡ c.args.sent.now.sum = ap option_copied (sym c.in-Some-sum.is) ∙ c.sum.ensures.sum in
    let steps : Some (length c.in-Some-sum.sum.now) ≡ Some (length c.in-Some.limits.announced)
    = ap steps_of read ∙ c.requires.sums c.in-Some.limits c.in-Some.is in
    let same : length c.in-Some-sum.sum.now ≡ length c.in-Some.limits.announced = cc steps in
    omega (arith, same, c.requires.step c.in-Some.limits c.in-Some.is)
