-- Of `run_nodes`: its clauses `links` and `numbers`.
use Rattle.std.proofs.Common.{arith, sym, ap, ◌∙◌, subst}
use Rattle.pm_phase.specs.Ends.{AreOf}
use Rattle.pm_phase.specs.Telling.{StepsOn}
use Rattle.pm_phase.specs.declared.node.FreeNode.{FreeNode}
use Rattle.pm_phase.proofs.Numbers.{numbers_by_place, number_at, as_many}
use Rattle.pm_phase.proofs.threads.run_nodes.Goals as goal

pub returns-clause-links : goal.returns-clause-links
returns-clause-links g c = λ k d inside.
    let at = (c.for_each_chunk_mut.ensures.by_index k d (omega (arith, inside, c.for_each_chunk_mut.auto.s))).1 in
    subst (AreOf c.args.links.now) at.new_element
    (at.call.0 at.offset d (omega (arith, at.offset_in_chunk, as_many at.after_call.now at.argument.now at.call.1)))

pub returns-clause-numbers : goal.returns-clause-numbers
returns-clause-numbers g c = numbers_by_place _ _ c.for_each_chunk_mut.auto.s (λ k d inside.
    let at = (c.for_each_chunk_mut.ensures.by_index k d (omega (arith, inside, c.for_each_chunk_mut.auto.s))).1 in
    let many = as_many at.after_call.now at.argument.now at.call.1 in
    ap (λ (n : FreeNode). n.part.number) (sym at.new_element)
    ∙ number_at at.after_call.now at.argument.now at.offset d at.call.1 (omega (arith, at.offset_in_chunk, many))
    ∙ ap (λ (n : FreeNode). n.part.number) at.old_element)

pub returns-clause-steps : goal.returns-clause-steps
returns-clause-steps g c = record {
  many = c.for_each_chunk_mut.auto.s;
  each = λ k d inside.
      let at = (c.for_each_chunk_mut.ensures.by_index k d inside).1 in
      let plan = c.args.phase.now.plan.now in
      let changes = c.args.phase.now.changes.now in
      subst (λ (p : FreeNode × FreeNode). StepsOn plan changes p.0 p.1) (λ i. (at.old_element i, at.new_element i))
      (at.call.2.each at.offset d at.offset_in_chunk);
}
