-- Of `read_line`: what it ensures.
use Rattle.std.proofs.Common.{◌∙◌, sym, refl, None}
use Rattle.pm_check.proofs.MoveLines.{no_kind, no_first}
use Rattle.pm_check.proofs.Readings.{reads_none}
use Rattle.pm_check.proofs.reading.line.read_line.Goals as goal

pub returns-in_err-what : goal.returns-in_err-what
returns-in_err-what c = reads_none _ _ c.args.line.now c.from_residual.result c.from_residual.ensures
    (no_first c.args.plan.now c.args.line.now (c.in_err-what.ensures.none refl))

pub returns-else-is_same-6 : goal.returns-else-is_same-6
returns-else-is_same-6 c =
    let split = c.in_ok-what.ensures.told in
    let other = no_kind c.args.plan.now c.in_ok-what.what.now c.in_ok-what.rest.now split.0
    (λ e. c.is_same.ensures.differ c.if-is_same.false (e ∙ sym c.as_slice.ensures))
    (λ e. c.is_same-else-is_same.ensures.differ c.if-is_same-2.false (e ∙ sym c.as_slice-else-is_same.ensures))
    (λ e. c.is_same-else-is_same-2.ensures.differ c.if-is_same-3.false (e ∙ sym c.as_slice-else-is_same-2.ensures))
    (λ e. c.is_same-else-is_same-3.ensures.differ c.if-is_same-4.false (e ∙ sym c.as_slice-else-is_same-3.ensures))
    (λ e. c.is_same-else-is_same-4.ensures.differ c.if-is_same-5.false (e ∙ sym c.as_slice-else-is_same-4.ensures))
    (λ e. c.is_same-else-is_same-5.ensures.differ c.if-is_same-6.false (e ∙ sym c.as_slice-else-is_same-5.ensures)) in
    reads_none _ _ c.args.line.now None refl (λ one fits same. other one fits (same ∙ split.1))
