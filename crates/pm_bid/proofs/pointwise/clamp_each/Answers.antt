-- Of `clamp_each`: its clauses `clamped` and `within`; the turns of its loop over `step`.
use Rattle.std.proofs.Common.{rules, arith, ◌≡◌, ◌∙◌, ap, sym, subst, List, ℤ, FitsSigned, w64, to_z, of_z}
use Rattle.std.proofs.lemmas.Int.{to_z-of_z}
use Rattle.pm_bid.specs.Bids.{demand_at, nearest_in_range, clamp, AllWithinLimit}
use Rattle.pm_base.specs.Limits.{sum_limit}
use Rattle.pm_bid.proofs.pointwise.clamp_each.Given.{Over}
use Rattle.pm_bid.proofs.pointwise.clamp_each.Goals as goal
use Rattle.pm_bid.proofs.EachStep.{clamp-at, length-clamped, clamped_within, progress_more, progress_all}

pub loop-step-preserved : goal.loop-step-preserved
loop-step-preserved g c =
    let bid = c.args.demands.now in
    let step = c.loop-step.step in
    let low = to_z w64 (of_z w64 c.args.floor) in
    let high = to_z w64 (of_z w64 c.args.ceiling) in
    let demand : FitsSigned w64 (demand_at bid step) = search rules in
    let nearest_one : FitsSigned w64 c.clamp.result = search rules in
    record {
      progress = progress_more _ _ _ _ _ (omega arith) c.loop-step.invariant.progress
          (to_z-of_z w64 c.clamp.result nearest_one ∙ c.clamp.ensures.value
          ∙ ap (λ z. nearest_in_range low high z) (to_z-of_z w64 (demand_at bid step) demand) ∙ sym (clamp-at low high bid step (omega arith)));
      cost = omega arith;
    }

-- the targets, once the loop has ended
targets_are : (g : Over) (c : goal.After-loop-step g) → c.loop-step.targets ≡ clamp c.args.floor c.args.ceiling c.args.demands.now
targets_are g c =
    progress_all _ _ _ c.loop-step.step (omega arith)
    (omega (arith, length-clamped (to_z w64 (of_z w64 c.args.floor)) (to_z w64 (of_z w64 c.args.ceiling)) c.args.demands.now))
    c.loop-step.invariant.progress
    ∙ ap (λ floor. clamp floor (to_z w64 (of_z w64 c.args.ceiling)) c.args.demands.now) (to_z-of_z w64 c.args.floor c.ranges.floor)
    ∙ ap (λ ceiling. clamp c.args.floor ceiling c.args.demands.now) (to_z-of_z w64 c.args.ceiling c.ranges.ceiling)

pub returns-clause-clamped : goal.returns-clause-clamped
returns-clause-clamped g c = targets_are g c

pub returns-clause-within : goal.returns-clause-within
returns-clause-within g c =
    let P : List ℤ → Type 0 = λ bid. AllWithinLimit sum_limit bid in
    subst P (sym (targets_are g c)) (clamped_within c.args.floor c.args.ceiling c.args.demands.now c.requires.order
    c.requires.floor_within c.requires.ceiling_within)
