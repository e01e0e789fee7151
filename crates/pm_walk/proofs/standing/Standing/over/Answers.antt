-- Of `Standing::over`: its clauses `cut` and `stands`; what the calls of `bounds` and `reach` require; the turns of its loop over `number`.
use Rattle.std.proofs.Common.{◌≡◌, ◌∙◌, ◌<◌, ◌≤◌, ap, sym, false, length, arith}
use Rattle.std.proofs.lemmas.Result.{IfOk-from_err}
use Rattle.pm_bid.proofs.Sums.{length-zeros}
use Rattle.pm_tree.specs.Entries.{is_leaf_at}
use Rattle.pm_plan.specs.Plans.{is_leaf}
use Rattle.pm_walk.specs.Standing.{cut_made}
use Rattle.pm_walk.proofs.Standings.{first_node, made-zero, made-here, made-others, made-other, made-beyond, along-more, along-passed, all_between}
use Rattle.pm_walk.proofs.standing.Standing.over.Goals as goal
use Rattle.pm_walk.proofs.standing.Standing.over.Goals.{then-is_leaf, else-is_leaf}

pub returns-in_err-standing : goal.returns-in_err-standing
returns-in_err-standing c =
    let fails = c.from_residual.ensures.0 in
    record { stands = IfOk-from_err c.from_residual.result _ fails; cut = IfOk-from_err c.from_residual.result _ fails }

pub returns-in_err-spare : goal.returns-in_err-spare
returns-in_err-spare c =
    let fails = c.from_residual-in_err-spare.ensures.0 in
    let r = c.from_residual-in_err-spare.result in
    record { stands = IfOk-from_err r _ fails; cut = IfOk-from_err r _ fails }

pub loop-number-init : goal.loop-number-init
loop-number-init c = record {
  stands = c.in_ok-standing.ensures.stands;
  between = record {
    done = λ x below. first_node (cut_made c.in_ok-standing.standing.progress) (cut_made c.args.progress.now) x below
        (c.in_ok-standing.ensures.none 0 ∙ sym (made-zero c.args.plan.now c.args.progress.now c.requires));
    left = λ x from. c.in_ok-standing.ensures.none x;
  };
  spare = ap (λ l. length l) c.in_ok-spare.ensures.bid ∙ length-zeros c.steps.result ∙ c.steps.ensures.steps ∙ ap (λ b. b.steps) c.basis.ensures.basis;
}

pub bounds-progress-number : goal.bounds-progress-number
bounds-progress-number c =
    omega (arith, c.tree-tree.ensures.sound.nodes.one_each, c.len-number-end.ensures.len, ap (λ e. length e) c.tree-tree.ensures.tree)

pub reach-requires : goal.reach-requires
reach-requires c =
    let n = c.loop-number.number in
    let inside : n ≤ length c.args.plan.now.nodes =
    omega (arith, c.tree-tree.ensures.sound.nodes.one_each, c.len-number-end.ensures.len, ap (λ e. length e) c.tree-tree.ensures.tree) in
    record {
      leaf = ap (λ e. is_leaf_at e n) (sym c.tree-tree.ensures.tree) ∙ sym c.is_leaf.ensures ∙ c.if-is_leaf.true;
      inside = inside;
      stands = c.loop-number.invariant.stands;
      reached = c.requires.reached n inside;
      spare = c.loop-number.invariant.spare;
    }

pub loop-number-preserved : goal.loop-number-preserved
loop-number-preserved c =
    let plan = c.args.plan.now in
    let n = c.loop-number.number in
    let kept = c.loop-number.standing in
    let spare = c.loop-number.spare in
    let stops = c.args.progress.now in
    let is = c.tree-tree.ensures.sound in
    let inside : n ≤ length plan.nodes = omega (arith, is.nodes.one_each, c.len-number-end.ensures.len, ap (λ e. length e) c.tree-tree.ensures.tree) in
    elim c.if-is_leaf.branch [
      | then-is_leaf w ↦
          let reached = w.reach.ensures in
          let there : n < length kept.progress = omega (arith, c.loop-number.invariant.stands.progress.one_each) in
          along-more plan n kept _ _ spare _ _ (cut_made stops) (λ _. 0) c.loop-number.invariant reached.stands
          (made-here kept.progress _ n _ there reached.progress) (λ x other. made-others kept.progress _ n x _ reached.progress other)
          reached.spare w.standing-is w.spare-is
      | else-is_leaf w ↦
          let other : is_leaf plan n ≡ false = ap (λ e. is_leaf_at e n) (sym c.tree-tree.ensures.tree) ∙ sym c.is_leaf.ensures ∙ w.if-is_leaf.false in
          along-passed plan n kept _ spare _ (cut_made stops) (λ _. 0) c.loop-number.invariant
          (sym (made-other plan stops n is c.requires inside other)) w.standing-is w.spare-is
    ]

pub returns-clause-cut : goal.returns-clause-cut
returns-clause-cut c =
    let plan = c.args.plan.now in
    let stops = c.args.progress.now in
    let all : length plan.nodes < c.loop-number.number =
    omega (arith, c.tree-tree.ensures.sound.nodes.one_each, c.len-number-end.ensures.len, ap (λ e. length e) c.tree-tree.ensures.tree) in
    all_between c.loop-number.number c.loop-number.standing.progress (cut_made stops) (λ _. 0) c.loop-number.invariant.between
    (λ x from. sym (made-beyond plan stops x c.requires (omega arith)))

pub returns-clause-stands : goal.returns-clause-stands
returns-clause-stands c = c.loop-number.invariant.stands
