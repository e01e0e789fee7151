-- Of `exchange_each`: its clause `exchanged`; the turns of its loop over `step`; that its numbers fit.
use Rattle.std.proofs.Common.{rules, arith, FitsSigned, w64}
use Rattle.pm_bid.specs.Bids.{demand_at}
use Rattle.pm_bid.proofs.EachStep.{length-exchanged, next_exchanged, progress_more, progress_all}
use Rattle.pm_bid.proofs.pointwise.exchange_each.Goals as goal

pub overflow_add-demand : goal.overflow_add-demand
overflow_add-demand g c =
    let new : FitsSigned w64 (demand_at c.args.news.now c.loop-step.step) = search rules in
    (next_exchanged _ _ _ _ _ c.requires.old_length c.requires.new_length (omega arith) c.requires.demands_within c.requires.olds_within
    c.requires.within c.loop-step.invariant.progress new).fits

pub loop-step-preserved : goal.loop-step-preserved
loop-step-preserved g c =
    let new : FitsSigned w64 (demand_at c.args.news.now c.loop-step.step) = search rules in
    let step = next_exchanged _ _ _ _ _ c.requires.old_length c.requires.new_length (omega arith) c.requires.demands_within c.requires.olds_within
    c.requires.within c.loop-step.invariant.progress new in
    record { progress = progress_more _ _ _ _ _ (omega arith) c.loop-step.invariant.progress step.is; cost = omega arith }

pub returns-clause-exchanged : goal.returns-clause-exchanged
returns-clause-exchanged g c =
    progress_all _ _ _ c.loop-step.step (omega arith)
    (omega (
      arith,
      length-exchanged c.args.demands.now c.args.olds.now c.args.news.now c.requires.old_length
          c.requires.new_length,
    )) c.loop-step.invariant.progress
