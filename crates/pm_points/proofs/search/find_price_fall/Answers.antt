-- Of `find_price_fall`: what it ensures.
use Rattle.std.proofs.Common.{rules, arith, ◌≡◌, ◌-◌, true, FitsSigned, w64}
use Rattle.std.proofs.lemmas.Int.{ints}
use Rattle.pm_points.specs.Points.{point_at, price_of_point}
use Rattle.pm_points.specs.Checks.{price_falls}
use Rattle.pm_points.proofs.search.find_price_fall.Goals as goal
use Rattle.pm_points.proofs.FoundPoint.{first_after_found, first_after_none}

pub returns-then-points-at : goal.returns-then-points-at
returns-then-points-at c =
    let points = c.args.points.now in
    let at = c.loop-at.at in
    let before : FitsSigned w64 (price_of_point (point_at points (at - 1))) = search rules in
    let here : FitsSigned w64 (price_of_point (point_at points at)) = search rules in
    let found : price_falls (point_at points (at - 1)) (point_at points at) ≡ true = grind (arith, ints) in
    first_after_found price_falls points at (omega arith) (omega arith) c.loop-at.invariant found

pub returns : goal.returns
returns c = first_after_none price_falls c.args.points.now (omega arith) (λ k h. c.loop-at.invariant k (omega arith))
