-- Of `split_target`: its clauses `none` and `some`.
use Rattle.std.proofs.Common.{arith}
use Rattle.std.proofs.lemmas.Grind.{common_steps}
use Rattle.pm_envelope.proofs.FirstLines.{same_first_line}
use Rattle.pm_ask.proofs.TargetLines.{target_is_first_line}
use Rattle.pm_ask.proofs.target.split_target.Goals as goal

pub returns-in_err-target-clause-none : goal.returns-in_err-target-clause-none
returns-in_err-target-clause-none c = rw c.from_residual-in_err-target.ensures (λ begins.
    let first = target_is_first_line begins.0 begins.1.0 c.args.text.now begins.1.1.0 begins.1.1.1 in
    let same = same_first_line c.args.text.now _ _ _ _ c.in_ok-line.ensures.some first in
    c.in_err-target.ensures.none begins.0 begins.1.1.0 same.0)

pub returns-clause-some : goal.returns-clause-some
returns-clause-some c = grind (arith, common_steps)
