-- Of `start_of`: its clause `reached`.
use Rattle.std.proofs.Common.{◌∙◌, sym, ap, refl}
use Rattle.pm_tree.specs.Entries.{is_leaf_at}
use Rattle.pm_walk.proofs.Standings.{reached-start}
use Rattle.pm_walk.proofs.standing.start_of.Goals as goal

pub returns-then-is_leaf-clause-reached : goal.returns-then-is_leaf-clause-reached
returns-then-is_leaf-clause-reached c = reached-start c.args.plan.now c.args.at.0 _ refl refl (λ leaf. c.start-state.ensures)

pub returns-else-is_leaf-clause-reached : goal.returns-else-is_leaf-clause-reached
returns-else-is_leaf-clause-reached c = reached-start c.args.plan.now c.args.at.0 _ refl refl
    (λ leaf. absurd (cc (sym leaf ∙ ap (λ e. is_leaf_at e c.args.at.0) (sym c.tree.ensures.tree) ∙ sym c.is_leaf.ensures ∙ c.if-is_leaf.false)))
