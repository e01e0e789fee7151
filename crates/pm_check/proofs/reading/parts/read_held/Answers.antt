-- Of `read_held`: what it ensures.
use Rattle.std.proofs.Common.{◌≡◌, ◌∙◌, sym, refl, None, Some, ℕ, Option}
use Rattle.pm_report.specs.Words.{text_line}
use Rattle.pm_report.specs.Trace.{held_words}
use Rattle.pm_check.specs.MoveReading.{IsHolding}
use Rattle.pm_check.proofs.Readings.{reads_none, reads_some}
use Rattle.pm_check.proofs.reading.parts.read_held.Goals as goal

pub returns-then-is_same : goal.returns-then-is_same
returns-then-is_same c =
    reads_some _ _ c.args.rest.now _ _ refl (record { step = tt; number = tt }) (sym (c.is_same.ensures.same c.if-is_same.true ∙ c.as_slice.ensures))

pub returns-in_err-held : goal.returns-in_err-held
returns-in_err-held c =
    reads_none _ _ c.args.rest.now c.from_residual.result c.from_residual.ensures (λ held fits same. none held fits same)
  where
    none : (held : Option (ℕ × ℕ)) → IsHolding c.args.basis.now held → text_line (held_words c.args.basis.now held) ≡ c.args.rest.now → ⊥
    none None fits same = c.is_same.ensures.differ c.if-is_same.false (sym same ∙ sym c.as_slice.ensures)
    none (Some pair) fits same = c.in_err-held.ensures.none refl pair (fits.step, fits.number) same

pub returns : goal.returns
returns c =
    let told = c.in_ok-held.ensures.told in
    reads_some _ _ c.args.rest.now _ _ refl (record { step = told.0.0; number = told.0.1 }) told.1
