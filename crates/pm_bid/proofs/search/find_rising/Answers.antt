-- Of `find_rising`: what it ensures.
use Rattle.std.proofs.Common.{rules, arith, ◌≡◌, ◌-◌, true, FitsSigned, w64}
use Rattle.std.specs.Prelude.{int_lt}
use Rattle.std.proofs.lemmas.Int.{ints}
use Rattle.pm_bid.specs.Bids.{demand_at}
use Rattle.pm_bid.proofs.search.find_rising.Goals as goal
use Rattle.pm_bid.proofs.FoundStep.{first_rising_found, first_rising_none}

pub returns-then-demands-step : goal.returns-then-demands-step
returns-then-demands-step c =
    let before : FitsSigned w64 (demand_at c.args.demands.now (c.loop-step.step - 1)) = search rules in
    let here : FitsSigned w64 (demand_at c.args.demands.now c.loop-step.step) = search rules in
    let found : int_lt (demand_at c.args.demands.now (c.loop-step.step - 1)) (demand_at c.args.demands.now c.loop-step.step) ≡ true = grind (arith, ints) in
    first_rising_found _ _ (omega arith) (omega arith) c.loop-step.invariant found

pub returns : goal.returns
returns c = first_rising_none _ (omega arith) (λ k h. c.loop-step.invariant k (omega arith))
