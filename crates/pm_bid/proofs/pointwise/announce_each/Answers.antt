-- Of `announce_each`: its clauses `said` and `within`; the turns of its loop over `step`.
use Rattle.std.proofs.Common.{rules, arith, ◌≡◌, ◌∙◌, ap, sym, subst, ℕ, List, ℤ, FitsSigned, w64}
use Rattle.std.specs.Prelude.{min, max}
use Rattle.std.proofs.lemmas.Int.{to_z-of_z}
use Rattle.pm_bid.specs.Bids.{demand_at, AllWithinLimit}
use Rattle.pm_bid.specs.Taken.{nearest_said, said_between}
use Rattle.pm_base.specs.Limits.{sum_limit}
use Rattle.pm_bid.proofs.pointwise.announce_each.Given.{Over}
use Rattle.pm_bid.proofs.pointwise.announce_each.Goals as goal
use Rattle.pm_bid.proofs.EachStep.{progress_more, progress_all, within_sums}
use Rattle.pm_bid.proofs.Taken.{said_between-at, length-said, said_small}

pub loop-step-preserved : goal.loop-step-preserved
loop-step-preserved g c =
    let bid = c.args.demands.now in
    let step = c.loop-step.step in
    let at : c.max-settled.result ≡ max c.args.first (min step c.args.last) = search rules in
    let demand : FitsSigned w64 (demand_at bid c.max-settled.result) = search rules in
    let nearest_one : FitsSigned w64 c.clamp.result = search rules in
    record {
      progress = progress_more _ _ _ _ _ (omega arith) c.loop-step.invariant.progress
          (to_z-of_z w64 c.clamp.result nearest_one ∙ c.clamp.ensures.value
          ∙ ap nearest_said (to_z-of_z w64 (demand_at bid c.max-settled.result) demand)
          ∙ ap (λ (i : ℕ). nearest_said (demand_at bid i)) at ∙ sym (said_between-at c.args.first c.args.last bid step (omega arith)));
      cost = omega arith;
    }

-- the targets, once the loop has ended
targets_are : (g : Over) (c : goal.After-loop-step g) → c.loop-step.targets ≡ said_between c.args.first c.args.last c.args.demands.now
targets_are g c =
    progress_all _ _ _ c.loop-step.step (omega arith)
    (omega (arith, length-said c.args.first c.args.last c.args.demands.now)) c.loop-step.invariant.progress

pub returns-clause-said : goal.returns-clause-said
returns-clause-said g c = targets_are g c

pub returns-clause-within : goal.returns-clause-within
returns-clause-within g c =
    let P : List ℤ → Type 0 = λ bid. AllWithinLimit sum_limit bid in
    subst P (sym (targets_are g c))
    (within_sums (said_between c.args.first c.args.last c.args.demands.now) (said_small c.args.first c.args.last c.args.demands.now))
