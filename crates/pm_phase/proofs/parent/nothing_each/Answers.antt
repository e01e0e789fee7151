-- Of `nothing_each`: the turns of its loop over `child`.
use Rattle.std.proofs.Common.{◌∙◌, ap, ◌∷◌, [], ◌++◌, None}
use Rattle.std.proofs.lemmas.List.{replicate_more}
use Rattle.pm_phase.proofs.parent.nothing_each.Goals as goal

pub loop-child-preserved : goal.loop-child-preserved
loop-child-preserved g c =
    c.in_ok-push.ensures.items ∙ ap (λ each. each ++ None ∷ []) c.loop-child.invariant ∙ replicate_more c.loop-child._child None
