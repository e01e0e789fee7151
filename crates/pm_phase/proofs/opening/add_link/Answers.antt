-- Of `add_link`: its clauses `places` and `empty`.
use Rattle.std.proofs.Common.{List, All, sym, subst, refl, ap}
use Rattle.std.proofs.lemmas.List.Elements.{All-push}
use Rattle.pm_phase.specs.Closing.{IsEmptyPlace}
use Rattle.pm_cells.specs.Ends.{TableId, LinkEnd}
use Rattle.pm_phase.specs.Ends.{ArePlaced}
use Rattle.pm_phase.specs.declared.closing.Places.{Places}
use Rattle.pm_phase.proofs.Placing.{ArePlaced-push}
use Rattle.pm_phase.proofs.opening.add_link.Goals as goal

pub returns-clause-places : goal.returns-clause-places
returns-clause-places c =
    let Placed : List TableId × List Places → Type 0 = λ t. ArePlaced t.0 t.1 in
    subst Placed (λ i. (sym c.in_ok-push.ensures.items i, sym c.in_ok-push-2.ensures.items i))
    (ArePlaced-push c.args.links.now.items c.args.places.now.items c.in_ok-link.link c.requires.places)

pub returns-clause-empty : goal.returns-clause-empty
returns-clause-empty c = λ empty.
    subst (All IsEmptyPlace) (sym c.in_ok-push-2.ensures.items) (All-push IsEmptyPlace c.args.places.now.items _ empty (record { up = refl; down = refl }))

pub returns-clause-fresh_up : goal.returns-clause-fresh_up
returns-clause-fresh_up c = record {
  sent = ap (λ (e : LinkEnd). e.known.up.sent) c.in_ok-link.ensures.child;
  received = ap (λ (e : LinkEnd). e.known.down.received) c.in_ok-link.ensures.child;
  takes = ap (λ (e : LinkEnd). e.known.down.takes) c.in_ok-link.ensures.child;
}

pub returns-clause-fresh_down : goal.returns-clause-fresh_down
returns-clause-fresh_down c = record {
  received = ap (λ (e : LinkEnd). e.known.up.received) c.in_ok-link.ensures.parent;
  sent = ap (λ (e : LinkEnd). e.known.down.sent) c.in_ok-link.ensures.parent;
}
