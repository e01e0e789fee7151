-- Of `read_step`: what it ensures.
use Rattle.std.proofs.Common.{rules, refl}
use Rattle.pm_basis.specs.Prices.{price_at}
use Rattle.pm_check.proofs.StepPrices.{price_size, reads_written}
use Rattle.pm_check.proofs.Readings.{reads_none}
use Rattle.pm_check.proofs.reading.prices.read_step.Goals as goal

pub returns-in_err-price : goal.returns-in_err-price
returns-in_err-price c =
    reads_none _ _ c.args.word.now c.from_residual.result c.from_residual.ensures (λ k inside same.
    c.in_err-price.ensures.none refl (price_at c.args.basis.now k) (price_size c.args.basis.now c.requires k inside) same)

pub returns : goal.returns
returns c =
    let read = reads_written c.args.basis.now c.requires c.in_ok-price.price c.args.word.now c.step_of.result
    c.in_ok-price.ensures.told.0 c.in_ok-price.ensures.told.1 in
    search (rules, read)
