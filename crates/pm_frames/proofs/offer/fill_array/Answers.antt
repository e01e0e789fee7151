-- Of `fill_array`: its clause `array`; the turns of its loop over `step`.
use Rattle.std.proofs.Common.{rules, ◌≡◌, ◌∙◌, sym, ap, subst, ◌+◌, ℤ, List, FitsSigned, w64, to_z, of_z, arith}
use Rattle.std.proofs.lemmas.Int.{to_z-of_z}
use Rattle.pm_basis.specs.Prices.{price_at}
use Rattle.pm_points.specs.Points.{demand_at_price}
use Rattle.pm_points.proofs.Falls.{Filled, filled_more, filled_all}
use Rattle.pm_frames.proofs.offer.fill_array.Goals as goal

pub loop-step-preserved : goal.loop-step-preserved
loop-step-preserved c =
    let points = c.args.bid.now in
    let basis = c.args.basis.now in
    let step = c.loop-step.step in
    let price_fits : FitsSigned w64 c.price.result = search rules in
    let price : to_z w64 (of_z w64 c.price.result) ≡ price_at basis step = to_z-of_z w64 c.price.result price_fits ∙ c.price.ensures.price in
    let demand_fits : FitsSigned w64 c.demand_at-demand.result = search rules in
    let demand : to_z w64 (of_z w64 c.demand_at-demand.result) ≡ demand_at_price points (price_at basis step) =
    to_z-of_z w64 c.demand_at-demand.result demand_fits ∙ c.demand_at-demand.ensures.demand ∙ ap (λ z. demand_at_price points z) price in
    record {
      filled = subst (λ (array : List ℤ). Filled points basis array (step + 1)) (sym c.set.ensures.bid)
          (filled_more points basis c.loop-step.array step (to_z w64 (of_z w64 c.demand_at-demand.result)) (omega arith) c.loop-step.invariant.filled demand);
      all = c.steps-steps.ensures.steps;
    }

pub returns-clause-array : goal.returns-clause-array
returns-clause-array c = filled_all c.args.bid.now c.args.basis.now c.loop-step.array c.loop-step.step (omega arith) c.loop-step.invariant.filled
