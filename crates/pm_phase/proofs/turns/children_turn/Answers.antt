-- Of `children_turn`: the turns of its loop over `place`.
use Rattle.std.proofs.Common.{◌∙◌, ◌<◌, length, subst, arith}
use Rattle.std.proofs.lemmas.List.{get_or_default}
use Rattle.std.proofs.lemmas.List.Elements.{All-set}
use Rattle.pm_phase.specs.Ends.{IsDownOf}
use Rattle.pm_phase.specs.KeepingParents.{ChildMovesOn}
use Rattle.pm_phase.specs.declared.ends.DownEnd.{DownEnd}
use Rattle.pm_phase.proofs.Moves.{children_refl, children_more}
use Rattle.pm_phase.proofs.turns.children_turn.Goals as goal

pub loop-place-init : goal.loop-place-init
loop-place-init c = (c.requires, children_refl c.args.downs.now.items c.args.parent.now)

pub loop-place-preserved : goal.loop-place-preserved
loop-place-preserved c =
    let (of_links, moves) = c.loop-place.invariant in
    let downs = c.loop-place.downs.items in
    let place = c.loop-place.place in
    let down = c.child_turn-with_child.new.down in
    let inside : place < length downs = omega (arith, c.loop-place-test.true, c.len.ensures, c.loop-place.downs.ok.0) in (
      All-set (IsDownOf c.args.links.now) downs place down c.child_turn-with_child.ensures.link of_links,
      children_more c.args.downs.now.items downs c.args.parent.now c.loop-place.parent c.child_turn-with_child.new.parent place down moves inside
          (λ d. subst (λ (e : DownEnd). ChildMovesOn place e down c.loop-place.parent c.child_turn-with_child.new.parent)
          (c.index_mut.ensures.value ∙ get_or_default downs place c.index_mut.result.now d inside) c.child_turn-with_child.ensures.moves),
    )
