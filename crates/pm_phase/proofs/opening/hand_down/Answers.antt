-- Of `hand_down`: its clauses `numbers` and `opened`.
use Rattle.std.proofs.Common.{ap, ◌∙◌, ◌<◌, All, set, sym, subst, length, arith}
use Rattle.std.proofs.lemmas.List.Elements.{All-set}
use Rattle.pm_phase.specs.Beginning.{IsOpenedNode, OpenUp}
use Rattle.pm_phase.proofs.OpenKeeps.{ok_then}
use Rattle.pm_phase.proofs.Numbers.{numbers_set}
use Rattle.pm_phase.specs.declared.node.FreeNode.{FreeNode}
use Rattle.pm_phase.proofs.opening.hand_down.Goals as goal

pub returns-clause-numbers : goal.returns-clause-numbers
returns-clause-numbers c =
    numbers_set c.args.nodes.now.items c.args.above c.add_down.new.node c.index_mut.result.now
    (c.add_down.ensures.number ∙ ap (λ (n : FreeNode). n.part.number) c.index_mut.ensures.value)

pub returns-clause-opened : goal.returns-clause-opened
returns-clause-opened c = λ plan parts node link fresh fresh' all.
    let nodes = c.args.nodes.now.items in
    let inside : c.args.above < length nodes = omega (arith, c.if-above-len.false, c.len.ensures, c.args.nodes.now.ok.0) in
    ok_then (IsOpenedNode plan parts c.add_down.new.node) (OpenUp plan parts node c.add_down.new.up)
    (All (IsOpenedNode plan parts) (set nodes c.args.above c.add_down.new.node)) c.add_down.result
    (c.add_down.ensures.opened plan parts node link fresh fresh'
    (subst (IsOpenedNode plan parts) (sym c.index_mut.ensures.value) (all c.args.above c.index_mut.result.now inside)))
    (λ new. All-set (IsOpenedNode plan parts) nodes c.args.above c.add_down.new.node new all)
