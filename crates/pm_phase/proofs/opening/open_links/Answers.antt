-- Of `open_links`: what the call of `hand_out` requires; the turns of its loop over `number`; its clauses `numbers` and `each`.
use Rattle.std.proofs.Common.{◌∷◌, [], List, All, sym, ◌∙◌, subst, ap, arith, length}
use Rattle.std.proofs.lemmas.List.{length-append}
use Rattle.pm_cells.specs.Ends.{TableId}
use Rattle.pm_phase.specs.Ends.{AreOf}
use Rattle.pm_tree.specs.Entries.{parent_of, place_of}
use Rattle.pm_phase.proofs.Placing.{AreOf-more}
use Rattle.pm_phase.proofs.opening.open_links.Goals as goal

pub hand_out-requires-clause-nodes : goal.hand_out-requires-clause-nodes
hand_out-requires-clause-nodes c =
    let added = c.in_ok-up.ensures.one_more in
    subst (λ (ls : List TableId). All (AreOf ls) c.loop-number.nodes.items) (sym (c.deref.ensures.value ∙ added.1))
    (AreOf-more _ _ _ c.loop-number.invariant.0)

pub loop-number-preserved : goal.loop-number-preserved
loop-number-preserved c = (
  subst (λ (ls : List TableId). All (AreOf ls) c.hand_out.new.nodes.items) c.deref.ensures.value c.in_ok-hand_out.ensures.nodes,
  c.in_ok-up.ensures.places,
  c.in_ok-hand_out.ensures.numbers ∙ c.loop-number.invariant.2,
  omega (
    arith,
    ap length c.in_ok-up.ensures.one_more.1,
    length-append c.loop-number.links.items (c.in_ok-up.ensures.one_more.0 ∷ []),
    c.loop-number.invariant.3,
  ),
  c.in_ok-up.ensures.empty c.loop-number.invariant.4,
  c.in_ok-hand_out.ensures.opened c.args.plan.now c.args.parts.items (record {
    above = c.parent-above.ensures.parent ∙ ap (λ es. parent_of es c.loop-number.number) c.tree-in-loop-number.ensures.tree;
    stands = c.place-place.ensures ∙ ap (λ es. place_of es c.loop-number.number) c.tree-in-loop-number-2.ensures.tree;
    up = omega (arith, c.in_ok-up.ensures.up_at, c.loop-number.invariant.3);
    down = omega (arith, c.in_ok-up.ensures.down_at, c.loop-number.invariant.3);
  }) c.in_ok-up.ensures.fresh_up c.in_ok-up.ensures.fresh_down c.loop-number.invariant.5,
)

pub returns-clause-numbers : goal.returns-clause-numbers
returns-clause-numbers c = c.loop-number.invariant.2

pub returns-clause-each : goal.returns-clause-each
returns-clause-each c =
    omega (
      arith,
      c.loop-number.invariant.3,
      c.loop-number-test.false,
      c.loop-number.auto.number-end,
      c.len-number-end.ensures.len,
      ap length c.tree.ensures.tree,
    )
