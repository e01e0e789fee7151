-- Of `put_down_ends`: the turns of its loop over `down`.
use Rattle.std.proofs.Common.{sym, subst, refl, List, All, Contains}
use Rattle.std.proofs.lemmas.List.Elements.{All-head, All-tail, All-contains_itself}
use Rattle.pm_phase.specs.Ends.{IsDownOf}
use Rattle.pm_phase.specs.declared.ends.DownEnd.{DownEnd}
use Rattle.pm_phase.proofs.closing.put_down_ends.Goals as goal

pub loop-down-init : goal.loop-down-init
loop-down-init c =
    let downs = c.args.downs.items in
    let same = sym c.into_iter-down-iterator.ensures.into_iter_gives.0 in (
      subst (All (IsDownOf c.args.links.now)) same c.requires.downs,
      c.requires.places,
      subst (All (Contains downs)) same (All-contains_itself downs),
      λ nodes node has same from. from,
    )

pub loop-down-preserved : goal.loop-down-preserved
loop-down-preserved c =
    let links = c.args.links.now in
    let downs = c.args.downs.items in
    let rest = c.next.new.self.rest.items in
    let down = c.in-Some.down in
    let of_links = subst (All (IsDownOf links)) c.in-Some.ensures.steps.0 c.loop-down.invariant.0 in
    let among = subst (All (Contains downs)) c.in-Some.ensures.steps.0 c.loop-down.invariant.2 in (
      All-tail (IsDownOf links) down rest of_links,
      c.put_down.ensures.places,
      All-tail (Contains downs) down rest among,
      λ nodes node has same from. c.put_down.ensures.from nodes (record {
        node = node;
        has = has;
        down = down;
        is = subst (λ (ds : List DownEnd). Contains ds down) (sym same) (All-head (Contains downs) down rest among);
        stands = refl;
        same = refl;
      }) (c.loop-down.invariant.3 nodes node has same from),
    )
