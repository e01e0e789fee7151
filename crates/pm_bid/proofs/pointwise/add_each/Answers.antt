-- Of `add_each`: its clause `sum`; the turns of its loop over `step`; that its numbers fit.
use Rattle.std.proofs.Common.{rules, arith, FitsSigned, ◌+ℤ◌, w64, to_z, of_z}
use Rattle.pm_bid.specs.Bids.{demand_at, pairwise_sum}
use Rattle.pm_bid.proofs.EachStep.{Computes, length-added, next_added, progress_more, progress_all}
use Rattle.pm_bid.proofs.pointwise.add_each.Given.{Over}
use Rattle.pm_bid.proofs.pointwise.add_each.Goals as goal
use Rattle.pm_bid.proofs.pointwise.add_each.Goals.{In-loop-step}

-- what the loop computes in a step
computes : (g : Over) (c : In-loop-step g) →
    FitsSigned w64 (demand_at c.loop-step.demands c.loop-step.step) → FitsSigned w64 (demand_at c.args.others.now c.loop-step.step) → Computes
    (to_z w64 (of_z w64 (demand_at c.loop-step.demands c.loop-step.step)) +ℤ to_z w64 (of_z w64 (demand_at c.args.others.now c.loop-step.step)))
    (demand_at (pairwise_sum c.args.demands.now c.args.others.now) c.loop-step.step)
computes g c = next_added _ _ _ _ c.requires.equal_lengths c.loop-step.auto.demands c.loop-step-test.true c.requires.within c.loop-step.invariant.progress

pub overflow_add-demand : goal.overflow_add-demand
overflow_add-demand g c = (computes g (goal.at.overflow_add-demand g c).In-loop-step (search rules) (search rules)).fits

pub loop-step-preserved : goal.loop-step-preserved
loop-step-preserved g c =
    let step = computes g (goal.at.loop-step-preserved g c).In-loop-step (search rules) (search rules) in
    record { progress = progress_more _ _ _ _ _ (omega arith) c.loop-step.invariant.progress step.is; cost = omega arith }

pub returns-clause-sum : goal.returns-clause-sum
returns-clause-sum g c =
    progress_all _ _ _ c.loop-step.step (omega arith)
    (omega (arith, length-added c.args.demands.now c.args.others.now c.requires.equal_lengths)) c.loop-step.invariant.progress
