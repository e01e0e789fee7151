-- Of `Plan::group`: its clause `group`; the turns of its loop over `here`.
use Rattle.std.proofs.Common.{◌≡◌, ◌∙◌, sym, ap, arith, refl, subst, true, false}
use Rattle.std.specs.Prelude.{is_some}
use Rattle.pm_plan.specs.Kept.{IsPlan}
use Rattle.pm_plan.specs.Plans.{node, limits_of, group, parent, is_limited}
use Rattle.pm_base.proofs.Options.{is_some-option_map}
use Rattle.pm_plan.proofs.Groups.{HasCome, found_above, go_on, group_above-none, group-zero}
use Rattle.pm_plan.proofs.plan.Plan.group.Goals as goal

pub loop-here-init : goal.loop-here-init
loop-here-init c = record { inside = omega (arith, c.requires, (subst IsPlan c.self.view_is c.self.invariant).nodes.one_each); same = refl }

pub returns-then-is_some-clause-group : goal.returns-then-is_some-clause-group
returns-then-is_some-clause-group c =
    let come : HasCome c.args.self.now c.args.node.0 c.loop-here.here.0 = record {
      low = omega (arith, c.loop-here-test.true);
      inside = omega (arith, c.loop-here.invariant.inside, (subst IsPlan c.self.view_is c.self.invariant).nodes.one_each);
      same =
          c.loop-here.invariant.same;
    } in
    let some : is_limited c.args.self.now c.parent-here.result.0 ≡ true =
    sym (is_some-option_map _ (limits_of (node c.args.self.now c.parent-here.result.0))) ∙ ap is_some (sym c.limits.ensures) ∙ sym c.is_some.ensures
    ∙ c.if-is_some.true in
    sym (found_above c.args.self.now c.args.node.0 c.loop-here.here.0 c.parent-here.result.0
    (subst IsPlan c.self.view_is c.self.invariant) come (c.parent-here.ensures.parent ∙ ap (λ p. parent p c.loop-here.here.0) c.self.view_is) some)

pub loop-here-preserved : goal.loop-here-preserved
loop-here-preserved c =
    let come : HasCome c.args.self.now c.args.node.0 c.loop-here.here.0 = record {
      low = omega (arith, c.loop-here-test.true);
      inside = omega (arith, c.loop-here.invariant.inside, (subst IsPlan c.self.view_is c.self.invariant).nodes.one_each);
      same =
          c.loop-here.invariant.same;
    } in
    let none : is_limited c.args.self.now c.parent-here.result.0 ≡ false =
    sym (is_some-option_map _ (limits_of (node c.args.self.now c.parent-here.result.0))) ∙ ap is_some (sym c.limits.ensures) ∙ sym c.is_some.ensures
    ∙ c.if-is_some.false in
    record {
      inside = omega (arith, c.parent-here.ensures.earlier, c.loop-here.invariant.inside);
      same = go_on c.args.self.now c.args.node.0 c.loop-here.here.0 c.parent-here.result.0
          (subst IsPlan c.self.view_is c.self.invariant) come (c.parent-here.ensures.parent ∙ ap (λ p. parent p c.loop-here.here.0) c.self.view_is) none;
    }

pub returns-clause-group : goal.returns-clause-group
returns-clause-group c =
    let top : c.loop-here.here.0 ≡ 0 = omega (arith, c.loop-here-test.false) in
    sym (group_above-none c.args.self.now c.args.node.0 (c.loop-here.invariant.same ∙ ap (group c.args.self.now) top ∙ group-zero c.args.self.now))
