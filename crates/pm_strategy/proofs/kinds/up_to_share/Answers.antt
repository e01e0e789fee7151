-- Of `up_to_share`: what it ensures.
use Rattle.std.proofs.Common.{arith, ap, ◌∙◌, pos, w64, FitsSigned, ◌+ℤ◌, rules}
use Rattle.std.proofs.lemmas.Int.{ints, to_z-of_z}
use Rattle.pm_strategy.specs.Steps.{up_to}
use Rattle.pm_strategy.proofs.LevelLaws.{before-up_to}
use Rattle.pm_strategy.proofs.kinds.up_to_share.Goals as goal

pub returns : goal.returns
returns c = λ step.
    let power = c.ranges.power in
    let part = c.ranges.part in
    let whole = c.ranges.whole in
    let end : FitsSigned w64 c.share.result = search rules in
    let next : FitsSigned w64 (c.share.result +ℤ pos 1) = omega (arith, ints) in
    simp to_z-of_z at (c.split.ensures step)
    ∙ (before-up_to c.args.power c.share.result step ∙ ap (λ z. up_to c.args.power z step) (simp to_z-of_z at c.share.ensures.step))
