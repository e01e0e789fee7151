-- Of `find_too_large`: what it ensures.
use Rattle.std.proofs.Common.{rules, arith, ◌≡◌, true, pos, FitsSigned, w64, sym}
use Rattle.std.proofs.lemmas.Int.{ints}
use Rattle.std.proofs.lemmas.List.Sums.{position_or_len_is}
use Rattle.pm_bid.specs.Checks.{is_too_large}
use Rattle.pm_points.specs.Points.{point_at, demand_of_point}
use Rattle.pm_points.proofs.search.find_too_large.Goals as goal

pub returns-then-point : goal.returns-then-point
returns-then-point c =
    let points = c.args.points.now in
    let at = c.loop-at.at in
    let fits : FitsSigned w64 (demand_of_point (point_at points at)) = search rules in
    let found : is_too_large (demand_of_point (point_at points at)) ≡ true = grind (arith, ints) in
    sym (position_or_len_is (λ point. is_too_large (demand_of_point point)) points at (pos 0, pos 0) (omega arith) c.loop-at.invariant (λ _. found))

pub returns : goal.returns
returns c = sym (position_or_len_is (λ point. is_too_large (demand_of_point point)) c.args.points.now _ (pos 0, pos 0) (omega arith)
    (λ k h. c.loop-at.invariant k (omega arith)) (λ h. absurd (omega arith)))
