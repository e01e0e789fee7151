-- Of `find_at_least`: its clause `step`.
use Rattle.std.proofs.Common.{rules, arith, ◌≡◌, ◌∙◌, ap, ◌-◌, false, FitsSigned, w64, to_z, of_z}
use Rattle.std.specs.Prelude.{int_lt}
use Rattle.std.proofs.lemmas.Int.{ints, to_z-of_z}
use Rattle.pm_bid.specs.Bids.{demand_at}
use Rattle.pm_bid.specs.Clearing.{last_at_least}
use Rattle.pm_bid.proofs.search.find_at_least.Goals as goal
use Rattle.pm_bid.proofs.FoundStep.{last_at_least_found, last_at_least_none}

pub returns-then-demands-step-clause-step : goal.returns-then-demands-step-clause-step
returns-then-demands-step-clause-step g c =
    let bid = c.args.demands.now in
    let step = c.loop-step.step - 1 in
    let fits : FitsSigned w64 (demand_at bid step) = search rules in
    let found : int_lt (demand_at bid step) (to_z w64 (of_z w64 c.args.limit)) ≡ false = grind (arith, ints) in
    last_at_least_found (to_z w64 (of_z w64 c.args.limit)) bid step (omega arith) (λ k after inside. c.loop-step.invariant.below k (omega arith) inside) found
    ∙ ap (λ limit. last_at_least limit bid) (to_z-of_z w64 c.args.limit c.ranges.limit)

pub returns-clause-step : goal.returns-clause-step
returns-clause-step g c =
    last_at_least_none (to_z w64 (of_z w64 c.args.limit)) c.args.demands.now (λ k h. c.loop-step.invariant.below k (omega arith) h)
    ∙ ap (λ limit. last_at_least limit c.args.demands.now) (to_z-of_z w64 c.args.limit c.ranges.limit)
