-- Of `find_at_most`: its clause `step`.
use Rattle.std.proofs.Common.{rules, arith, ◌≡◌, ◌∙◌, ap, false, FitsSigned, w64, to_z, of_z}
use Rattle.std.specs.Prelude.{int_lt}
use Rattle.std.proofs.lemmas.Int.{ints, to_z-of_z}
use Rattle.pm_bid.specs.Bids.{demand_at}
use Rattle.pm_bid.specs.Clearing.{first_at_most}
use Rattle.pm_bid.proofs.search.find_at_most.Goals as goal
use Rattle.pm_bid.proofs.FoundStep.{first_at_most_found, first_at_most_none}

pub returns-then-demand-limit-clause-step : goal.returns-then-demand-limit-clause-step
returns-then-demand-limit-clause-step g c =
    let bid = c.args.demands.now in
    let step = c.loop-step.step in
    let fits : FitsSigned w64 (demand_at bid step) = search rules in
    let found : int_lt (to_z w64 (of_z w64 c.args.limit)) (demand_at bid step) ≡ false = grind (arith, ints) in
    first_at_most_found (to_z w64 (of_z w64 c.args.limit)) bid step (omega arith) c.loop-step.invariant.above found
    ∙ ap (λ limit. first_at_most limit bid) (to_z-of_z w64 c.args.limit c.ranges.limit)

pub returns-clause-step : goal.returns-clause-step
returns-clause-step g c =
    first_at_most_none (to_z w64 (of_z w64 c.args.limit)) c.args.demands.now (λ k h. c.loop-step.invariant.above k (omega arith))
    ∙ ap (λ limit. first_at_most limit c.args.demands.now) (to_z-of_z w64 c.args.limit c.ranges.limit)
