-- Of `parents_of`: its clauses `parents` and `one_each`; the turns of its loop over `at`.
use Rattle.std.proofs.Common.{◌∙◌, ◌≤◌, ap, length, arith}
use Rattle.std.proofs.lemmas.List.{take_all}
use Rattle.pm_tree.specs.Entries.{parents_of}
use Rattle.pm_tree.proofs.Named.{length-parents_of}
use Rattle.pm_check.proofs.PlanLists.{next_parent}
use Rattle.pm_check.proofs.lists.parents_of.Goals as goal

pub loop-at-preserved : goal.loop-at-preserved
loop-at-preserved c =
    c.in_ok-push.ensures.items
    ∙ next_parent c.tree-tree.result.now c.loop-at.parents.items c.loop-at.at _ (omega (arith, c.len-at-end.ensures.len)) c.loop-at.invariant
    c.parent.ensures.parent

pub returns-clause-parents : goal.returns-clause-parents
returns-clause-parents c =
    let all : length (parents_of c.tree-tree.result.now) ≤ c.loop-at.at = omega (arith, length-parents_of c.tree-tree.result.now, c.len-at-end.ensures.len) in
    c.loop-at.invariant ∙ take_all _ (parents_of c.tree-tree.result.now) all ∙ ap parents_of c.tree-tree.ensures.tree

pub returns-clause-one_each : goal.returns-clause-one_each
returns-clause-one_each c =
    let all : length (parents_of c.tree-tree.result.now) ≤ c.loop-at.at = omega (arith, length-parents_of c.tree-tree.result.now, c.len-at-end.ensures.len) in
    ap (λ l. length l) (c.loop-at.invariant ∙ take_all _ (parents_of c.tree-tree.result.now) all ∙ ap parents_of c.tree-tree.ensures.tree)
    ∙ length-parents_of c.args.plan.now.entries
