-- Of `close_links`: the turns of its loop over `node`; its clause `parts`.
use Rattle.std.proofs.Common.{◌∙◌, ◌++◌, List, All, Contains, ap, sym, subst, arith}
use Rattle.std.proofs.lemmas.List.{append-nil}
use Rattle.std.proofs.lemmas.List.Elements.{All-head, All-tail, All-contains_itself}
use Rattle.pm_cells.specs.Ends.{TableId}
use Rattle.pm_phase.specs.Ends.{AreOf, ArePlaced}
use Rattle.pm_phase.specs.Closing.{parts_of_nodes}
use Rattle.pm_phase.proofs.EndsCome.{none_came, part_back}
use Rattle.pm_phase.specs.Nodes.{numbers_of_parts, numbers_of_nodes}
use Rattle.pm_phase.proofs.Numbers.{part_moved, none_left}
use Rattle.pm_phase.proofs.closing.close_links.Goals as goal

pub loop-node-init : goal.loop-node-init
loop-node-init c =
    let nodes = c.args.nodes.items in
    let same = sym c.into_iter-node-iterator.ensures.into_iter_gives.0 in
    let none = c.in_ok-parts.ensures.items in (
      subst (All (AreOf c.args.links.items)) same c.requires.nodes,
      c.requires.places,
      ap (λ ps. numbers_of_parts ps ++ numbers_of_nodes c.into_iter-node-iterator.result.rest.items) none ∙ ap numbers_of_nodes (sym same),
      subst (All (Contains nodes)) same (All-contains_itself nodes),
      none_came nodes c.args.places.items c.requires.empty,
      ap (λ ps. ps ++ parts_of_nodes c.into_iter-node-iterator.result.rest.items) none ∙ ap parts_of_nodes (sym same),
    )

pub loop-node-preserved : goal.loop-node-preserved
loop-node-preserved c =
    let links = c.args.links.items in
    let nodes = c.args.nodes.items in
    let parts = c.loop-node.parts.items in
    let rest = c.next.new.self.rest.items in
    let all = subst (All (AreOf links)) c.in-Some.ensures.steps.0 c.loop-node.invariant.0 in
    let placed = subst (λ (ls : List TableId). ArePlaced ls c.take_ends.new.places.items) c.deref.ensures.value c.take_ends.ensures.places in
    let numbers = ap (λ ps. numbers_of_parts ps ++ numbers_of_nodes rest) c.in_ok-push.ensures.items
    ∙ part_moved parts c.take_ends.result c.in-Some.node rest c.take_ends.ensures.part
    ∙ ap (λ ns. numbers_of_parts parts ++ numbers_of_nodes ns) (sym c.in-Some.ensures.steps.0)
    ∙ c.loop-node.invariant.2 in
    let among = subst (All (Contains nodes)) c.in-Some.ensures.steps.0 c.loop-node.invariant.3 in
    let back = ap (λ ps. ps ++ parts_of_nodes rest) c.in_ok-push.ensures.items
    ∙ part_back parts c.take_ends.result c.in-Some.node rest c.take_ends.ensures.part
    ∙ ap (λ ns. parts ++ parts_of_nodes ns) (sym c.in-Some.ensures.steps.0)
    ∙ c.loop-node.invariant.5 in (
      All-tail (AreOf links) _ _ all,
      placed,
      numbers,
      All-tail (Contains nodes) c.in-Some.node rest among,
      c.take_ends.ensures.from nodes (All-head (Contains nodes) c.in-Some.node rest among) c.loop-node.invariant.4,
      back,
    )

pub returns-clause-parts : goal.returns-clause-parts
returns-clause-parts c =
    let parts = c.loop-node.parts.items in
    let rest = c.loop-node.node-iterator.rest in
    let none = none_left rest.items (omega (arith, c.in-None.ensures.steps.0, rest.ok.0)) in
    sym (append-nil (numbers_of_parts parts)) ∙ ap (λ ns. numbers_of_parts parts ++ numbers_of_nodes ns) (sym none) ∙ c.loop-node.invariant.2

pub returns-clause-same : goal.returns-clause-same
returns-clause-same c =
    let parts = c.loop-node.parts.items in
    let rest = c.loop-node.node-iterator.rest in
    let none = none_left rest.items (omega (arith, c.in-None.ensures.steps.0, rest.ok.0)) in
    sym (append-nil parts) ∙ ap (λ ns. parts ++ parts_of_nodes ns) (sym none) ∙ c.loop-node.invariant.5

pub returns-clause-closed : goal.returns-clause-closed
returns-clause-closed c = c.in_ok-links.ensures.closed c.args.nodes.items c.loop-node.invariant.4
