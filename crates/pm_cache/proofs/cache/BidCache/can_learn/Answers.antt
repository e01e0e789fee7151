-- Of `BidCache::can_learn`: its clauses `no`, `cost`, `rises` and 2 more; the turns of its loop over `step`.
use Rattle.std.proofs.Common.{◌≡◌, ◌∙◌, ap, subst, ℕ, ◌<◌, length, arith}
use Rattle.std.specs.Prelude.{IfSome}
use Rattle.std.specs.Option.{option_copied}
use Rattle.pm_cache.specs.Learning.{IsWithinAt}
use Rattle.pm_cache.proofs.WithinEachStep.{one_more, can_learn, within_at}
use Rattle.pm_cache.proofs.cache.BidCache.can_learn.Given.{Over}
use Rattle.pm_cache.proofs.cache.BidCache.can_learn.Goals as goal
use Rattle.pm_cache.proofs.cache.BidCache.can_learn.Goals.{Else-not-has_steps}

-- the bid is a child's
inside : (g : Over) (c : Else-not-has_steps g) → c.args.child < length c.args.self.now.heads
inside g c = omega (arith, c.if-child-heads.false, ap length c.heads.ensures.heads)

-- the steps that are counted are the cache's
steps : (g : Over) (c : Else-not-has_steps g) → c.steps-steps.result ≡ c.args.self.now.steps
steps g c = c.steps-steps.ensures.steps ∙ c.aggregate.ensures.steps

-- the demand has the cache's steps
has_steps : (g : Over) (c : Else-not-has_steps g) → IfSome (option_copied c.args.demand) (λ bid. length bid ≡ c.args.self.now.steps)
has_steps g c = subst (λ (n : ℕ). IfSome (option_copied c.args.demand) (λ bid. length bid ≡ n)) (steps g c)
    (c.has_steps.ensures.yes c.if-not-has_steps.false)

pub loop-step-init : goal.loop-step-init
loop-step-init g c = record {
  within = λ k none. absurd (omega (arith, none));
  cost = omega arith;
  passes = omega arith;
  rises = omega arith;
}

pub loop-step-preserved : goal.loop-step-preserved
loop-step-preserved g c = record {
  within = one_more (IsWithinAt c.args.self.now c.args.child (option_copied c.args.demand)) c.loop-step.step c.loop-step.invariant.within
      (c.is_within.ensures.yes c.if-not-is_within.false);
  cost = omega (arith, c.loop-step.invariant.cost, c.is_within.ensures.cost);
  passes = omega (arith, c.loop-step.invariant.passes, c.is_within.ensures.looks);
  rises = omega (arith, c.loop-step.invariant.rises, c.is_within.ensures.rises);
}

pub returns-then-not-is_within-clause-no : goal.returns-then-not-is_within-clause-no
returns-then-not-is_within-clause-no g c = λ _ may.
    let p = (goal.at.returns-then-not-is_within-clause-no g c).Else-not-has_steps in
    c.is_within.ensures.no c.if-not-is_within.true
    (within_at c.args.self.now c.args.child (option_copied c.args.demand) c.aggregate.ensures.sound (inside g p) (has_steps g p) may
    c.loop-step.step (omega (arith, c.loop-step-test.true, steps g p)))

pub returns-then-not-is_within-clause-cost : goal.returns-then-not-is_within-clause-cost
returns-then-not-is_within-clause-cost g c =
    let p = (goal.at.returns-then-not-is_within-clause-cost g c).Else-not-has_steps in
    omega (arith, c.loop-step.invariant.cost, c.is_within.ensures.cost, c.loop-step-test.true, steps g p)

pub returns-then-not-is_within-clause-rises : goal.returns-then-not-is_within-clause-rises
returns-then-not-is_within-clause-rises g c = omega (arith, c.loop-step.invariant.rises, c.is_within.ensures.rises)

pub returns-clause-yes : goal.returns-clause-yes
returns-clause-yes g c = λ _.
    let p = (goal.at.returns-clause-yes g c).Else-not-has_steps in
    can_learn c.args.self.now c.args.child (option_copied c.args.demand) c.aggregate.ensures.sound (inside g p) (has_steps g p)
    (λ k here. c.loop-step.invariant.within k (omega (arith, here, c.loop-step-test.false, steps g p)))

pub returns-clause-cost : goal.returns-clause-cost
returns-clause-cost g c =
    let p = (goal.at.returns-clause-cost g c).Else-not-has_steps in
    omega (arith, c.loop-step.invariant.cost, c.loop-step.auto.step-end, steps g p)

pub returns-clause-passes : goal.returns-clause-passes
returns-clause-passes g c = λ _.
    let p = (goal.at.returns-clause-passes g c).Else-not-has_steps in
    omega (arith, c.loop-step.invariant.passes, c.loop-step-test.false, steps g p)

pub returns-clause-rises : goal.returns-clause-rises
returns-clause-rises g c = c.loop-step.invariant.rises
