-- Of `leaves_of`: its clauses `leaves` and `one_each`; the turns of its loop over `at`.
use Rattle.std.proofs.Common.{◌∙◌, ◌≤◌, ap, length, arith}
use Rattle.std.proofs.lemmas.List.{take_all}
use Rattle.pm_tree.specs.Entries.{leaves_of}
use Rattle.pm_tree.proofs.Named.{length-leaves_of}
use Rattle.pm_check.proofs.PlanLists.{next_leaf}
use Rattle.pm_check.proofs.lists.leaves_of.Goals as goal

pub loop-at-preserved : goal.loop-at-preserved
loop-at-preserved c =
    c.in_ok-push.ensures.items
    ∙ next_leaf c.tree-tree.result.now c.loop-at.leaves.items c.loop-at.at _ (omega (arith, c.len-at-end.ensures.len)) c.loop-at.invariant c.is_leaf.ensures

pub returns-clause-leaves : goal.returns-clause-leaves
returns-clause-leaves c =
    let all : length (leaves_of c.tree-tree.result.now) ≤ c.loop-at.at = omega (arith, length-leaves_of c.tree-tree.result.now, c.len-at-end.ensures.len) in
    c.loop-at.invariant ∙ take_all _ (leaves_of c.tree-tree.result.now) all ∙ ap leaves_of c.tree-tree.ensures.tree

pub returns-clause-one_each : goal.returns-clause-one_each
returns-clause-one_each c =
    let all : length (leaves_of c.tree-tree.result.now) ≤ c.loop-at.at = omega (arith, length-leaves_of c.tree-tree.result.now, c.len-at-end.ensures.len) in
    ap (λ l. length l) (c.loop-at.invariant ∙ take_all _ (leaves_of c.tree-tree.result.now) all ∙ ap leaves_of c.tree-tree.ensures.tree)
    ∙ length-leaves_of c.args.plan.now.entries
