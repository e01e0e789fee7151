-- Of `read_device_pass`: what it ensures.
use Rattle.std.proofs.Common.{◌<◌, ◌^◌, refl, ◌∷◌, ℕ, Option}
use Rattle.std.specs.Prelude.{decimal}
use Rattle.pm_basis.specs.Prices.{BasisValue}
use Rattle.pm_report.specs.Words.{text_line}
use Rattle.pm_report.specs.Trace.{held_words}
use Rattle.pm_check.specs.MoveReading.{IsHolding}
use Rattle.pm_check.proofs.Readings.{AreParted, none_split, none_parts, some_parts, number_word, held_line}
use Rattle.pm_check.proofs.reading.parts.read_device_pass.Goals as goal

-- the index comes first
parted : (basis : BasisValue) → AreParted (λ (read : ℕ × Option (ℕ × ℕ)). (read.0 < 2 ^ 32) × IsHolding basis read.1)
    (λ read. text_line (decimal read.0 ∷ held_words basis read.1)) (λ read. decimal read.0) (λ read. text_line (held_words basis read.1))
parted basis = record { words = λ read fits. number_word read.0 fits.0; parts = λ read. held_line basis (decimal read.0) read.1 }

pub returns-in_err-word : goal.returns-in_err-word
returns-in_err-word c = none_split (parted c.args.basis.now) _ _ c.from_residual.ensures (c.in_err-word.ensures.none refl)

pub returns-in_err-index : goal.returns-in_err-index
returns-in_err-index c =
    none_parts (parted c.args.basis.now) _ _ c.from_residual-in_err-index.ensures _ _ c.in_ok-word.ensures.told
    (λ read fits same. c.in_err-index.ensures.none refl read.0 fits.0 same.word)

pub returns-in_err-held : goal.returns-in_err-held
returns-in_err-held c =
    none_parts (parted c.args.basis.now) _ _ c.from_residual-in_err-held.ensures _ _ c.in_ok-word.ensures.told
    (λ read fits same. c.in_err-held.ensures.none refl read.1 fits.1 same.rest)

pub returns : goal.returns
returns c =
    let index = c.in_ok-index.ensures.told in
    let held = c.in_ok-held.ensures.told in
    some_parts (parted c.args.basis.now) _ _ (index.0, held.0) _ _ c.in_ok-word.ensures.told index.1 held.1
