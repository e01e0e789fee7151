-- Of `change_stops`: what it ensures; what the calls of `bounds` and `change_stop` require; the turns of its loop over `number`.
use Rattle.std.proofs.Common.{◌≡◌, ◌∙◌, ◌-◌, ◌+◌, ◌<◌, ◌≤◌, ap, sym, subst, ℕ, zero, suc, false, List, length, arith, get_or}
use Rattle.std.specs.Prelude.{min}
use Rattle.pm_tree.specs.Entries.{is_leaf_at}
use Rattle.pm_plan.specs.Plans.{is_leaf, end_cut}
use Rattle.pm_base.specs.Cuts.{Cut}
use Rattle.pm_walk.specs.declared.changes.Progress.{Progress}
use Rattle.pm_walk.specs.Cuts.{file_cut, earlier_cut}
use Rattle.pm_walk.specs.Standing.{HaveCome, cut_made}
use Rattle.pm_walk.proofs.Nodes.{end-other, end-beyond, end-zero}
use Rattle.pm_walk.proofs.Standings.{AreBetween, first_node, made-here, made-others, reached-set, between-more, between-passed, all_between}
use Rattle.pm_walk.proofs.stops.change_stops.Goals as goal
use Rattle.pm_walk.proofs.stops.change_stops.Goals.{then-is_leaf, else-is_leaf}

cut_of-at : (counts : List ℕ) (x : ℕ) → 1 ≤ x → get_or counts (x - 1) 0 ≡ file_cut counts x
cut_of-at counts zero low = absurd (omega arith)
cut_of-at counts (suc x) low = let e : suc x - 1 ≡ x = omega arith in ap (λ i. get_or counts i 0) e

-- two cuts that go on from the same number stop at the same number
first-same : (cut a b : Cut) (x : ℕ) → a x ≡ b x → earlier_cut cut a x ≡ earlier_cut cut b x
first-same cut a b x same = ap (min (cut x)) same

pub loop-number-init : goal.loop-number-init
loop-number-init c =
    let plan = c.args.plan.now in
    let cut = file_cut c.args.cut.now in
    record {
      reached = c.requires.stops.reached;
      between = record {
        done = λ x below. first_node (cut_made c.args.stops.now) (earlier_cut cut (end_cut plan c.args.phase)) x below
            (ap (λ (f : Cut). f 0) c.requires.stops.cut
            ∙ first-same cut (end_cut plan (c.args.phase - 1)) (end_cut plan c.args.phase) 0 (end-zero plan (c.args.phase - 1)
            ∙ sym (end-zero plan c.args.phase)));
        left = λ x from. ap (λ (f : Cut). f x) c.requires.stops.cut;
      };
    }

pub bounds-powers-at : goal.bounds-powers-at
bounds-powers-at c =
    omega (arith, c.tree-tree.ensures.sound.nodes.one_each, c.len-number-end.ensures.len, ap (λ e. length e) c.tree-tree.ensures.tree)

pub bounds-cut-at : goal.bounds-cut-at
bounds-cut-at c =
    omega (arith, c.tree-tree.ensures.sound.nodes.one_each, c.len-number-end.ensures.len, ap (λ e. length e) c.tree-tree.ensures.tree)

pub change_stop-requires-clause-leaf : goal.change_stop-requires-clause-leaf
change_stop-requires-clause-leaf c =
    ap (λ e. is_leaf_at e c.loop-number.number) (sym c.tree-tree.ensures.tree) ∙ sym c.is_leaf.ensures ∙ c.if-is_leaf.true

pub change_stop-requires-clause-reached : goal.change_stop-requires-clause-reached
change_stop-requires-clause-reached c =
    c.loop-number.invariant.reached.reached c.loop-number.number
    (omega (arith, c.tree-tree.ensures.sound.nodes.one_each, c.len-number-end.ensures.len, ap (λ e. length e) c.tree-tree.ensures.tree))

pub change_stop-requires-clause-begun : goal.change_stop-requires-clause-begun
change_stop-requires-clause-begun c =
    let n = c.loop-number.number in
    c.loop-number.invariant.between.left n (omega arith)
    ∙ ap (λ m. min m (end_cut c.args.plan.now (c.args.phase - 1) n)) (sym (cut_of-at c.args.cut.now n (omega arith)))

pub bounds-stops-at : goal.bounds-stops-at
bounds-stops-at c =
    omega (
      arith,
      c.loop-number.invariant.reached.one_each,
      c.tree-tree.ensures.sound.nodes.one_each,
      c.len-number-end.ensures.len,
      ap (λ e. length e) c.tree-tree.ensures.tree,
    )

pub loop-number-preserved : goal.loop-number-preserved
loop-number-preserved c =
    let plan = c.args.plan.now in
    let cut = file_cut c.args.cut.now in
    let n = c.loop-number.number in
    let old = c.loop-number.stops in
    let is = c.tree-tree.ensures.sound in
    let after = earlier_cut cut (end_cut plan c.args.phase) in
    let before = earlier_cut cut (end_cut plan (c.args.phase - 1)) in
    let inside : n ≤ length plan.nodes = omega (arith, is.nodes.one_each, c.len-number-end.ensures.len, ap (λ e. length e) c.tree-tree.ensures.tree) in
    elim c.if-is_leaf.branch [
      | then-is_leaf w ↦
          let there : n < length old = omega (arith, c.loop-number.invariant.reached.one_each) in
          let here = made-here old c.if-is_leaf.stops n w.change_stop.result there w.stops-is ∙ w.change_stop.ensures.count
          ∙ ap (λ m. min m (end_cut plan c.args.phase n)) (cut_of-at c.args.cut.now n c.loop-number.auto.number) in
          record {
            reached = subst (HaveCome plan) (sym w.stops-is)
                (reached-set plan old n w.change_stop.result inside c.loop-number.invariant.reached w.change_stop.ensures.reached);
            between = between-more n old c.if-is_leaf.stops after before c.loop-number.invariant.between here
                (λ x other. made-others old c.if-is_leaf.stops n x w.change_stop.result w.stops-is other);
          }
      | else-is_leaf w ↦
          let other : is_leaf plan n ≡ false = ap (λ e. is_leaf_at e n) (sym c.tree-tree.ensures.tree) ∙ sym c.is_leaf.ensures ∙ w.if-is_leaf.false in
          record {
            reached = subst (HaveCome plan) (sym w.stops-is) c.loop-number.invariant.reached;
            between = subst (λ (l : List Progress). AreBetween (n + 1) l after before) (sym w.stops-is)
                (between-passed n old after before c.loop-number.invariant.between
                (first-same cut (end_cut plan (c.args.phase - 1)) (end_cut plan c.args.phase) n
                (end-other plan (c.args.phase - 1) n is other ∙ sym (end-other plan c.args.phase n is other))));
          }
    ]

pub returns : goal.returns
returns c =
    let plan = c.args.plan.now in
    let cut = file_cut c.args.cut.now in
    let all : length plan.nodes < c.loop-number.number =
    omega (arith, c.tree-tree.ensures.sound.nodes.one_each, c.len-number-end.ensures.len, ap (λ e. length e) c.tree-tree.ensures.tree) in
    record {
      reached = c.loop-number.invariant.reached;
      cut = all_between c.loop-number.number c.loop-number.stops (earlier_cut cut (end_cut plan c.args.phase))
          (earlier_cut cut (end_cut plan (c.args.phase - 1))) c.loop-number.invariant.between
          (λ x from. first-same cut (end_cut plan (c.args.phase - 1)) (end_cut plan c.args.phase) x
          (end-beyond plan (c.args.phase - 1) x (omega arith) ∙ sym (end-beyond plan c.args.phase x (omega arith))));
    }
