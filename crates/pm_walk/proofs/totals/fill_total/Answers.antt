-- Of `fill_total`: its clauses `total` and `steps`; the turns of its loop over `number`.
use Rattle.std.proofs.Common.{◌∙◌, ◌≡◌, ◌-◌, ap, sym, arith, length}
use Rattle.pm_plan.specs.States.{state}
use Rattle.pm_walk.specs.Parts.{total_to}
use Rattle.pm_walk.specs.Standing.{cut_made}
use Rattle.pm_walk.proofs.Standings.{standing_fits}
use Rattle.pm_walk.proofs.GroupTotals.{total_to-none, total_to-all, total_to-steps}
use Rattle.pm_walk.proofs.totals.fill_total.Goals as goal

pub loop-number-init : goal.loop-number-init
loop-number-init c = record {
  total = c.copy_into.ensures.bid ∙ c.sum.ensures.sum
      ∙ sym (total_to-none c.args.plan.now (state c.args.plan.now) (cut_made c.args.standing.now.progress)
      (standing_fits c.args.plan.now c.args.standing.now c.requires.stands));
  spare = c.requires.spare;
}

pub returns-clause-total : goal.returns-clause-total
returns-clause-total c =
    let plan = c.args.plan.now in
    let all : c.loop-number.number - 1 ≡ length plan.nodes =
    omega (arith, c.tree.ensures.sound.nodes.one_each, c.len-number-end.ensures.len, ap (λ e. length e) c.tree.ensures.tree) in
    c.loop-number.invariant.total ∙ ap (total_to plan (state plan) (cut_made c.args.standing.now.progress)) all
    ∙ total_to-all plan (state plan) (cut_made c.args.standing.now.progress)

pub returns-clause-steps : goal.returns-clause-steps
returns-clause-steps c =
    let plan = c.args.plan.now in
    ap (λ l. length l) c.loop-number.invariant.total ∙ total_to-steps plan (state plan) (cut_made c.args.standing.now.progress)
    (c.loop-number.number - 1) (standing_fits plan c.args.standing.now c.requires.stands)
