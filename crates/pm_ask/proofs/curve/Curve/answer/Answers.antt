-- Of `Curve::answer`: its clause `total`.
use Rattle.std.proofs.Common.{◌≡◌, ◌∙◌, sym, ap, ◌-ℤ◌, w64, to_z, of_z, arith}
use Rattle.std.proofs.lemmas.Int.{ints, to_z-of_z}
use Rattle.pm_bid.specs.Bids.{demand_at}
use Rattle.pm_ask.specs.Asked.{less_target, asked_step, asked_total}
use Rattle.pm_ask.proofs.Targets.{less_target-at}
use Rattle.pm_ask.proofs.curve.Curve.answer.Goals as goal

pub returns-clause-total : goal.returns-clause-total
returns-clause-total g c =
    let total = c.self.inside.total in
    let target = c.args.target in
    let step = c.find_step-step.result in
    let kept : to_z w64 (of_z w64 target) ≡ target = to_z-of_z w64 target c.ranges.target in
    let computed : to_z w64 (of_z w64 (to_z w64 (of_z w64 c.at.result) -ℤ to_z w64 (of_z w64 target))) ≡ c.at.result -ℤ target =
    omega (arith, ints, c.at.ensures.within, c.requires) in
    computed ∙ ap (λ z. z -ℤ target) c.at.ensures.demand
    ∙ sym (less_target-at target total step c.find_step-step.ensures.inside)
    ∙ ap (demand_at (less_target target total)) (c.find_step-step.ensures.step ∙ ap (λ z. asked_step z total) kept)
    ∙ ap (asked_total target) c.self.view_is
