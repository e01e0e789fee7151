-- Of `find_rise`: what it ensures.
use Rattle.std.proofs.Common.{rules, arith, ◌≡◌, ◌∙◌, ◌-◌, true, FitsSigned, w64}
use Rattle.std.specs.Prelude.{int_lt}
use Rattle.std.proofs.lemmas.Int.{ints}
use Rattle.pm_bid.specs.Bids.{demand_at}
use Rattle.pm_bid.proofs.FoundStep.{first_rising_found, first_rising_none}
use Rattle.pm_ask.proofs.rise.find_rise.Goals as goal

pub returns-then-at : goal.returns-then-at
returns-then-at c =
    let total = c.args.total.now in
    let step = c.loop-step.step in
    let before : FitsSigned w64 c.at.result = search rules in
    let here : FitsSigned w64 c.at-in-loop-step.result = search rules in
    let found : int_lt (demand_at total (step - 1)) (demand_at total step) ≡ true =
    grind (arith, ints, c.at.ensures.demand, c.at-in-loop-step.ensures.demand, c.if-at.true) in
    first_rising_found total step (omega arith) (omega arith) c.loop-step.invariant found

pub returns : goal.returns
returns c = c.steps.ensures.steps ∙ first_rising_none c.args.total.now (omega arith) (λ k h. c.loop-step.invariant k (omega arith))
