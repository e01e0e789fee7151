-- Of `ends_row`: what it ensures; what the call of `bounds` requires; the turns of its loop over `at`; that its numbers fit.
use Rattle.std.proofs.Common.{◌≡◌, ◌∙◌, ◌-◌, ◌+◌, ◌<◌, ap, List, ℕ, length, map, get_or, arith}
use Rattle.std.specs.List.{range_with_len}
use Rattle.std.proofs.lemmas.List.FromFn.{length-map-range_with_len, get_or-map-range_with_len}
use Rattle.pm_plan.specs.Plans.{end_cut}
use Rattle.pm_plan.proofs.Ends.{end-rises, end-within}
use Rattle.pm_plan.proofs.PlannedChanges.{few_changes}
use Rattle.pm_check.proofs.PlanLists.{next_mapped}
use Rattle.pm_check.proofs.lists.ends_row.Goals as goal

pub bounds-before-at : goal.bounds-before-at
bounds-before-at c =
    let inside : c.loop-at.at < length c.args.plan.now.nodes =
    omega (arith, c.tree.ensures.sound.nodes.one_each, c.len-at-end.ensures.len, ap (λ e. length e) c.tree.ensures.tree) in
    omega (
      arith,
      inside,
      ap (λ (l : List ℕ). length l) c.requires.before,
      length-map-range_with_len (end_cut c.args.plan.now (c.args.phase - 1)) 1
          (length c.args.plan.now.nodes),
    )

pub overflow_add-before : goal.overflow_add-before
overflow_add-before c =
    let plan = c.args.plan.now in
    let at = c.loop-at.at in
    let inside : at < length
    plan.nodes = omega (arith, c.tree.ensures.sound.nodes.one_each, c.len-at-end.ensures.len, ap (λ e. length e) c.tree.ensures.tree) in
    let read : get_or c.args.before.now at 0 ≡ end_cut plan (c.args.phase - 1) (at + 1) =
    ap (λ (l : List ℕ). get_or l at 0) c.requires.before
    ∙ get_or-map-range_with_len (end_cut plan (c.args.phase - 1)) 1 (length plan.nodes) at (at + 1) 0 inside (omega arith) in
    omega (
      arith,
      read,
      c.phase_changes-made.ensures,
      end-rises plan (c.args.phase - 1) c.args.phase (at + 1) (omega arith),
      end-within plan c.args.phase (at + 1),
      few_changes plan (at + 1) c.tree.ensures.sound,
    )

pub loop-at-preserved : goal.loop-at-preserved
loop-at-preserved c =
    let plan = c.args.plan.now in
    let at = c.loop-at.at in
    let inside : at < length
    plan.nodes = omega (arith, c.tree.ensures.sound.nodes.one_each, c.len-at-end.ensures.len, ap (λ e. length e) c.tree.ensures.tree) in
    let read : get_or c.args.before.now at 0 ≡ end_cut plan (c.args.phase - 1) (at + 1) =
    ap (λ (l : List ℕ). get_or l at 0) c.requires.before
    ∙ get_or-map-range_with_len (end_cut plan (c.args.phase - 1)) 1 (length plan.nodes) at (at + 1) 0 inside (omega arith) in
    c.in_ok-push.ensures.items
    ∙ next_mapped (end_cut plan c.args.phase) c.loop-at.row.items at _ c.loop-at.invariant
    (omega (arith, read, c.phase_changes-made.ensures, end-rises plan (c.args.phase - 1) c.args.phase (at + 1) (omega arith)))

pub returns : goal.returns
returns c =
    let all : c.loop-at.at ≡ length
    c.args.plan.now.nodes = omega (arith, c.tree.ensures.sound.nodes.one_each, c.len-at-end.ensures.len, ap (λ e. length e) c.tree.ensures.tree) in
    c.loop-at.invariant ∙ ap (λ n. map (end_cut c.args.plan.now c.args.phase) (range_with_len 1 n)) all
