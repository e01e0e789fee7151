-- Of `read_priced`: what it ensures.
use Rattle.std.proofs.Common.{◌<◌, ◌^◌, refl, ◌∷◌, [], ℕ}
use Rattle.std.specs.Prelude.{codes, decimal}
use Rattle.std.specs.Fmt.{signed_decimal}
use Rattle.pm_basis.specs.Prices.{BasisValue, IsBasis, price_at}
use Rattle.pm_report.specs.Words.{text_line}
use Rattle.pm_check.proofs.StepPrices.{step_word}
use Rattle.pm_check.proofs.Readings.{AreParted, none_split, none_parts, some_parts}
use Rattle.pm_check.proofs.reading.parts.read_priced.Goals as goal

-- the price comes first
parted : (basis : BasisValue) → IsBasis basis → AreParted (λ (read : ℕ × ℕ). (read.0 < basis.steps) × (read.1 < 2 ^ 32))
    (λ read. text_line (signed_decimal (price_at basis read.0) ∷ codes "bid" ∷ decimal read.1 ∷ []))
    (λ read. signed_decimal (price_at basis read.0)) (λ read. text_line (codes "bid" ∷ decimal read.1 ∷ []))
parted basis is = record { words = λ read fits. step_word basis is read.0 fits.0; parts = λ read. refl }

pub returns-in_err-price : goal.returns-in_err-price
returns-in_err-price c = none_split (parted c.args.basis.now c.requires) _ _ c.from_residual.ensures (c.in_err-price.ensures.none refl)

pub returns-in_err-step : goal.returns-in_err-step
returns-in_err-step c =
    none_parts (parted c.args.basis.now c.requires) _ _ c.from_residual-in_err-step.ensures _ _ c.in_ok-price.ensures.told
    (λ read fits same. c.in_err-step.ensures.none refl read.0 fits.0 same.word)

pub returns-in_err-number : goal.returns-in_err-number
returns-in_err-number c =
    none_parts (parted c.args.basis.now c.requires) _ _ c.from_residual-in_err-number.ensures _ _ c.in_ok-price.ensures.told
    (λ read fits same. c.in_err-number.ensures.none refl read.1 fits.1 same.rest)

pub returns : goal.returns
returns c =
    let step = c.in_ok-step.ensures.told in
    let number = c.in_ok-number.ensures.told in
    some_parts (parted c.args.basis.now c.requires) _ _ (step.0, number.0) _ _ c.in_ok-price.ensures.told step.1 number.1
