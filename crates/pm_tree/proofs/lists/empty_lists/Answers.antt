-- Of `empty_lists`: what it ensures; what the call of `loop` requires.
use Rattle.std.proofs.Common.{◌≡◌, ◌∙◌, ap, [], replicate, arith}
use Rattle.pm_tree.proofs.TableLists.{none_more, all_empty}
use Rattle.pm_tree.proofs.lists.empty_lists.Goals as goal

pub loop-preserved : goal.loop-preserved
loop-preserved c = none_more _ _ _ _ c.in_ok-push.ensures.items c.new.ensures.items c.loop.invariant

pub returns : goal.returns
returns c =
    let all : c.loop.counter ≡ c.args.count = omega arith in
    all_empty c.args.count _ (c.loop.invariant ∙ ap (λ n. replicate n []) all)
