-- Of `negative_of`: its clauses `none`, `negative` and `text`.
use Rattle.std.proofs.Common.{◌≡◌, arith, ap, sym, ◌∙◌}
use Rattle.std.specs.Prelude.{decimal}
use Rattle.std.proofs.lemmas.Fmt.{decimal_injective}
use Rattle.pm_ask.proofs.TargetLines.{negated}
use Rattle.pm_ask.proofs.target.negative_of.Goals as goal

pub returns-in_err-magnitude-clause-none : goal.returns-in_err-magnitude-clause-none
returns-in_err-magnitude-clause-none c = rw c.from_residual.ensures (λ target within is.
    let number = negated c.args.digits.now target within is in
    c.in_err-magnitude.ensures.none number.0 number.1.small number.1.written)

pub returns-in-0-clause-none : goal.returns-in-0-clause-none
returns-in-0-clause-none c = λ target within is.
    let number = negated c.args.digits.now target within is in
    let zero : decimal 0 ≡ decimal number.0 = ap decimal (sym c.in-0.is) ∙ sym c.in_ok-magnitude.ensures.text ∙ number.1.written in
    absurd (omega (arith, number.1.positive, decimal_injective 0 number.0 (omega arith) (omega (arith, number.1.small)) zero))

pub returns-in-0-clause-negative : goal.returns-in-0-clause-negative
returns-in-0-clause-negative c = tt

pub returns-in-0-clause-text : goal.returns-in-0-clause-text
returns-in-0-clause-text c = tt
