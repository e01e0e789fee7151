-- Of `Draft::plan`: its clause `planned`.
use Rattle.std.proofs.Common.{◌∙◌, ap, arith, length}
use Rattle.std.proofs.lemmas.Result.{on_ok_weaker}
use Rattle.pm_plan.specs.Plans.{PlanData}
use Rattle.pm_plan.specs.Building.{with_change_of}
use Rattle.pm_plan.proofs.Drafts.{changed_is}
use Rattle.pm_plan.proofs.draft.Draft.plan.Goals as goal

pub returns-clause-planned : goal.returns-clause-planned
returns-clause-planned c =
    let before : PlanData = record {
      basis = c.self.inside.basis;
      entries = c.self.inside.tree;
      nodes = c.self.inside.nodes.items;
      arrays = c.self.inside.arrays.items;
      minutes = c.self.inside.minutes.items;
    } in
    on_ok_weaker c.plan.result
    (λ made.
    changed_is before c.args.device c.args.phase c.args.what c.index_mut.result.now c.plan.new.self c.requires.first
    (omega (arith, ap (λ (plan : PlanData). length plan.nodes) c.self.view_is)) c.index_mut.ensures.value made
    ∙ ap (λ (plan : PlanData). with_change_of plan c.args.device c.args.phase c.args.what) c.self.view_is)
    c.plan.ensures.ok
