-- Of `find_step`: its clauses `step`, `cost` and `least`; the turns of its loop over `low`.
use Rattle.std.proofs.Common.{◌≡◌, subst, arith, ◌∙◌, sym, ap, ◌+◌, ◌-◌, ◌/◌, ◌≤ℤ◌, length, w64, to_z, of_z}
use Rattle.std.specs.Prelude.{◌<ℤ◌}
use Rattle.std.proofs.lemmas.Int.{ints, to_z-of_z}
use Rattle.pm_bid.specs.Bids.{demand_at}
use Rattle.pm_ask.specs.Asked.{asked_step}
use Rattle.pm_ask.proofs.Targets.{meets_is_asked}
use Rattle.pm_ask.proofs.Halving.{between_all, between_lower, between_upper, between_one, looks_all, looks_half}
use Rattle.pm_ask.proofs.Halving.{LooksDue, due_all, due_half, due_none}
use Rattle.pm_ask.proofs.search.find_step.Goals as goal

pub loop-low-init : goal.loop-low-init
loop-low-init g c = record {
  between = between_all _ _ _ (omega arith);
  looks = looks_all _ _ _ (omega arith);
  due = due_all _ _ _ (omega arith);
  rises = omega arith;
}

pub loop-low-preserved-then-at-target : goal.loop-low-preserved-then-at-target
loop-low-preserved-then-at-target g c =
    let total = c.args.total.now in
    let middle = c.loop-low.low + (c.loop-low.high - c.loop-low.low) / 2 in
    let met : demand_at total middle ≤ℤ to_z w64 (of_z w64 c.args.target) = grind (arith, ints) in
    record {
      between = between_lower total _ c.loop-low.low c.loop-low.high middle c.loop-low.invariant.between (omega arith) (omega arith) met;
      looks = looks_half (length total) c.args.counter.now c.loop-low.counter c.at.new.counter (c.loop-low.high - c.loop-low.low) _
          (omega arith) (omega arith) (omega arith) c.loop-low.invariant.looks;
      due = due_half (length total) c.args.counter.now c.loop-low.counter c.at.new.counter (c.loop-low.high - c.loop-low.low) _
          (omega arith) (omega arith) c.loop-low.invariant.due;
      rises = omega arith;
    }

pub loop-low-preserved : goal.loop-low-preserved
loop-low-preserved g c =
    let total = c.args.total.now in
    let middle = c.loop-low.low + (c.loop-low.high - c.loop-low.low) / 2 in
    let above : to_z w64 (of_z w64 c.args.target) <ℤ demand_at total middle = grind (arith, ints) in
    record {
      between = between_upper total _ c.loop-low.low c.loop-low.high middle c.requires c.loop-low.invariant.between (omega arith) (omega arith) above;
      looks = looks_half (length total) c.args.counter.now c.loop-low.counter c.at.new.counter (c.loop-low.high - c.loop-low.low) _
          (omega arith) (omega arith) (omega arith) c.loop-low.invariant.looks;
      due = due_half (length total) c.args.counter.now c.loop-low.counter c.at.new.counter (c.loop-low.high - c.loop-low.low) _
          (omega arith) (omega arith) c.loop-low.invariant.due;
      rises = omega arith;
    }

pub returns-clause-step : goal.returns-clause-step
returns-clause-step g c =
    let total = c.args.total.now in
    let meets = between_one total _ c.loop-low.low c.loop-low.high c.loop-low.invariant.between (omega arith) in
    sym (meets_is_asked _ total c.loop-low.low meets) ∙ ap (λ target. asked_step target total) (to_z-of_z w64 c.args.target c.ranges.target)

pub returns-clause-cost : goal.returns-clause-cost
returns-clause-cost g c = λ looks enough. let left = c.loop-low.invariant.looks looks enough in omega (arith, left.1.0)

pub returns-clause-least : goal.returns-clause-least
returns-clause-least g c =
    let none : c.loop-low.high - c.loop-low.low ≡ 0 = omega arith in
    due_none (length c.args.total.now) c.args.counter.now c.loop-low.counter
    (subst (LooksDue (length c.args.total.now) c.args.counter.now c.loop-low.counter) none c.loop-low.invariant.due)
