-- Of `add_due`: its clause `after`; what the call of `changes_of` requires; the turns of its loop over `number`; that its numbers fit.
use Rattle.std.proofs.Common.{◌∙◌, sym, ap, subst, ℕ, ◌+◌, ◌<◌, length, Vec, Global, arith, refl}
use Rattle.std.proofs.lemmas.Bool.{both_ways}
use Rattle.std.proofs.lemmas.List.{get_or_read}
use Rattle.pm_market.specs.Lists.{is_leaf, IsLeaf}
use Rattle.pm_plan.specs.Market.{plan_lists}
use Rattle.pm_cluster.proofs.Parents.{nodes_are, leaf_inside, leaf_is}
use Rattle.pm_cluster.proofs.DueMore.{one_phase_more, few_due, IsDueTo, due_set, due_skip}
use Rattle.pm_cluster.proofs.ends.add_due.Goals as goal
use Rattle.pm_cluster.proofs.ends.add_due.Goals.{then-is_device, else-is_device}

pub loop-number-init : goal.loop-number-init
loop-number-init c = record {
  same_length = refl;
  after = λ d leaf low. absurd (omega (arith, low, (leaf_inside c.args.plan.now c.phases.ensures.sound d leaf).0));
  before = λ d leaf low. c.requires.before d leaf;
}

pub overflow_add-index_mut : goal.overflow_add-index_mut
overflow_add-index_mut c =
    let plan = c.args.plan.now in
    let n : ℕ = c.loop-number.number in
    let leaf : IsLeaf (plan_lists plan) n = sym c.is_device.ensures ∙ c.if-is_device.true in
    let inside = (leaf_inside plan c.phases.ensures.sound n leaf).1 in
    let count = get_or_read c.loop-number.due.items n c.index_mut.result.now
    (omega (arith, inside, c.loop-number.invariant.same_length, c.requires.same_length)) c.index_mut.ensures.value 0
    ∙ c.loop-number.invariant.before n leaf (omega arith) in
    omega (
      arith,
      one_phase_more plan c.args.closed n c.index_mut.result.now c.changes_of.result count c.changes_of.ensures,
      few_due plan c.phases.ensures.sound (c.args.closed + 1) n,
    )

pub loop-number-preserved : goal.loop-number-preserved
loop-number-preserved c =
    let plan = c.args.plan.now in
    let n : ℕ = c.loop-number.number in
    elim c.if-is_device.branch [
      | then-is_device w ↦
          let leaf : IsLeaf (plan_lists plan) n = sym c.is_device.ensures ∙ w.if-is_device.true in
          let inside : n < length c.loop-number.due.items =
          omega (arith, (leaf_inside plan c.phases.ensures.sound n leaf).1, c.loop-number.invariant.same_length, c.requires.same_length) in
          let count = get_or_read c.loop-number.due.items n w.index_mut.result.now inside w.index_mut.ensures.value 0
          ∙ c.loop-number.invariant.before n leaf (omega arith) in
          subst (λ (v : Vec ℕ Global). IsDueTo plan c.args.closed (n + 1) c.args.due.now.items v.items) (sym w.due-is)
          (due_set plan c.args.closed n c.args.due.now.items c.loop-number.due.items (w.index_mut.result.now + w.changes_of.result)
          c.loop-number.invariant inside
          (one_phase_more plan c.args.closed n w.index_mut.result.now w.changes_of.result count w.changes_of.ensures))
      | else-is_device w ↦
          subst (λ (v : Vec ℕ Global). IsDueTo plan c.args.closed (n + 1) c.args.due.now.items v.items) (sym w.due-is)
          (due_skip plan c.args.closed n c.args.due.now.items c.loop-number.due.items c.loop-number.invariant
          (λ leaf. both_ways (is_leaf (plan_lists plan) n) (sym c.is_device.ensures ∙ w.if-is_device.false) leaf))
    ]

pub returns-clause-after : goal.returns-clause-after
returns-clause-after c = λ some d leaf. c.loop-number.invariant.after d leaf
    (omega (
      arith,
      (leaf_inside c.args.plan.now c.phases.ensures.sound d leaf).1,
      nodes_are c.args.plan.now,
      c.loop-number-test.false,
      c.len-number-end.ensures.len,
      ap length c.tree.ensures.tree,
    ))

pub changes_of-requires-clause-leaf : goal.changes_of-requires-clause-leaf
changes_of-requires-clause-leaf c = leaf_is c.args.plan.now c.loop-number.number ∙ sym c.is_device.ensures ∙ c.if-is_device.true

pub index_mut-requires : goal.index_mut-requires
index_mut-requires c =
    let here = leaf_inside c.args.plan.now c.phases.ensures.sound c.loop-number.number (sym c.is_device.ensures ∙ c.if-is_device.true) in
    omega (arith, here.1, c.loop-number.due.ok.0, c.loop-number.invariant.same_length, c.requires.same_length)
