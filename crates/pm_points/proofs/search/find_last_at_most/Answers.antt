-- Of `find_last_at_most`: its clauses `place`, `last` and `none`; the turns of its loop over `at`.
use Rattle.std.proofs.Common.{rules, arith, ◌-◌, ◌<ℤ◌, pos, Some, None}
use Rattle.std.proofs.lemmas.Int.{ints}
use Rattle.std.proofs.lemmas.List.Elements.{All-from_get_or}
use Rattle.pm_points.specs.Points.{IsLastAtMost, price_of_point}
use Rattle.pm_points.proofs.LastPoint.{is_last_at_most}
use Rattle.pm_points.proofs.search.find_last_at_most.Goals as goal

pub returns-then-points-at-clause-place : goal.returns-then-points-at-clause-place
returns-then-points-at-clause-place c =
    let last : IsLastAtMost c.args.points.now c.args.price (c.loop-at.at - 1) = search rules in
    is_last_at_most c.args.points.now c.args.price (Some (c.loop-at.at - 1)) last

pub returns-then-points-at-clause-last : goal.returns-then-points-at-clause-last
returns-then-points-at-clause-last c =
    let last : IsLastAtMost c.args.points.now c.args.price (c.loop-at.at - 1) = search rules in last

pub returns-clause-place : goal.returns-clause-place
returns-clause-place c =
    is_last_at_most c.args.points.now c.args.price None (λ k _ inside. let above = c.loop-at.invariant k (omega arith) inside in omega (arith, ints))

pub returns-clause-none : goal.returns-clause-none
returns-clause-none c =
    All-from_get_or (λ point. c.args.price <ℤ price_of_point point) c.args.points.now (pos 0, pos 0)
    (λ k inside. let above = c.loop-at.invariant k (omega arith) inside in omega (arith, ints))

pub loop-at-preserved : goal.loop-at-preserved
loop-at-preserved c = search rules
