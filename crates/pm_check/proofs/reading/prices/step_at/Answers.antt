-- Of `step_at`: what it ensures; what the call of `nonzero_rem` requires.
use Rattle.std.proofs.Common.{refl, None}
use Rattle.pm_check.proofs.StepPrices.{some_spacing, step_at_rise, rise_is_divided}
use Rattle.pm_check.proofs.Readings.{reads_none, reads_some}
use Rattle.pm_check.proofs.reading.prices.step_at.Goals as goal

pub nonzero_rem-rise : goal.nonzero_rem-rise
nonzero_rem-rise c = some_spacing c.args.range c.args.last c.requires.last.0 c.requires.range c.requires.even

pub returns-then-rise-spacing-ne0 : goal.returns-then-rise-spacing-ne0
returns-then-rise-spacing-ne0 c =
    reads_none _ _ c.args.rise None refl (λ k within same.
    c.if-rise-spacing-ne0.true (rise_is_divided c.args.range c.args.last c.args.rise k c.requires.last.0 c.requires.even same))

pub returns : goal.returns
returns c =
    let told = step_at_rise c.args.range c.args.last c.args.rise c.requires.last.0 c.requires.range c.requires.even
    c.requires.within c.if-rise-spacing-ne0.false in
    reads_some _ _ c.args.rise _ _ refl told.0 told.1
