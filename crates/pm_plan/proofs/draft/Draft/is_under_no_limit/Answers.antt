-- Of `Draft::is_under_no_limit`: what it ensures; the turns of its loop over `above`.
use Rattle.std.proofs.Common.{◌≡◌, ◌∙◌, ◌≤◌, ◌==◌, sym, ap, arith, true, false, ℕ}
use Rattle.std.proofs.lemmas.Bool.Decides.{nat_tests}
use Rattle.pm_plan.specs.Plans.{parent, group, is_limited}
use Rattle.pm_plan.proofs.Groups.{group-zero}
use Rattle.pm_plan.proofs.Drafts.{group_is_parent, group_of_parent, limited_is_no_root}
use Rattle.pm_plan.proofs.draft.Draft.is_under_no_limit.Goals as goal

pub returns-then-is_limited : goal.returns-then-is_limited
returns-then-is_limited c =
    let plan = c.args.self.now in
    let up : c.parent-above.result.0 ≡ parent plan c.loop-above.above.0 = c.parent-above.ensures.parent in
    let limited : is_limited plan (parent plan c.loop-above.above.0) ≡ true = ap (is_limited plan) (sym up) ∙ sym c.is_limited.ensures
    ∙ c.if-is_limited.true in
    let is : group plan c.loop-above.above.0 ≡ parent plan c.loop-above.above.0 = group_is_parent plan c.loop-above.above.0 (omega arith) limited in
    let some : 1 ≤ parent plan c.loop-above.above.0 = limited_is_no_root plan (parent plan c.loop-above.above.0) limited in
    let there : 1 ≤ group plan c.args.node.0 = omega (arith, c.loop-above.invariant.same) in
    grind (arith, nat_tests)

pub loop-above-preserved : goal.loop-above-preserved
loop-above-preserved c =
    let plan = c.args.self.now in
    let up : c.parent-above.result.0 ≡ parent plan c.loop-above.above.0 = c.parent-above.ensures.parent in
    let limited : is_limited plan (parent plan c.loop-above.above.0) ≡ false = ap (is_limited plan) (sym up)
    ∙ sym c.is_limited.ensures ∙ c.if-is_limited.false in
    record {
      inside = omega arith;
      before = omega arith;
      same =
          ap (group plan) up
          ∙ group_of_parent plan c.loop-above.above.0 c.requires.lawful (omega arith) c.loop-above.invariant.inside limited
          ∙ c.loop-above.invariant.same;
    }

pub returns : goal.returns
returns c =
    let plan = c.args.self.now in
    let none : group plan c.args.node.0 ≡ 0 = sym c.loop-above.invariant.same ∙ ap (group plan) c.loop-above-test.false ∙ group-zero plan in
    ap (λ (x : ℕ). x == 0) (sym none)
