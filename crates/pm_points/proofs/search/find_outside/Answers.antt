-- Of `find_outside`: its clause `position`; the turns of its loop over `at`.
use Rattle.std.proofs.Common.{rules, arith, ◌≡◌, ◌∙◌, true, false, pos, FitsSigned, w64, to_z, of_z, sym, below_more}
use Rattle.std.proofs.lemmas.Int.{ints, to_z-of_z}
use Rattle.std.proofs.lemmas.List.Sums.{position_or_len_is}
use Rattle.pm_points.specs.Points.{point_at, price_of_point}
use Rattle.pm_points.specs.Checks.{is_outside}
use Rattle.pm_points.proofs.search.find_outside.Goals as goal

pub returns-then-point-min-clause-position : goal.returns-then-point-min-clause-position
returns-then-point-min-clause-position c =
    let points = c.args.points.now in
    let at = c.loop-at.at in
    let fits : FitsSigned w64 (price_of_point (point_at points at)) = search rules in
    let least_fits : FitsSigned w64 c.min-min.result = search rules in
    let least : to_z w64 (of_z w64 c.min-min.result) ≡ c.args.basis.now.min = to_z-of_z w64 c.min-min.result least_fits ∙ c.min-min.ensures.min in
    let greatest_fits : FitsSigned w64 c.max-max.result = search rules in
    let greatest : to_z w64 (of_z w64 c.max-max.result) ≡ c.args.basis.now.max = to_z-of_z w64 c.max-max.result greatest_fits ∙ c.max-max.ensures.max in
    let found : is_outside c.args.basis.now (price_of_point (point_at points at)) ≡ true = grind (arith, ints) in
    sym (position_or_len_is (λ point. is_outside c.args.basis.now (price_of_point point)) points at (pos 0, pos 0)
    (omega arith) c.loop-at.invariant (λ _. found))

pub loop-at-preserved : goal.loop-at-preserved
loop-at-preserved c =
    let points = c.args.points.now in
    let at = c.loop-at.at in
    let fits : FitsSigned w64 (price_of_point (point_at points at)) = search rules in
    let least_fits : FitsSigned w64 c.min-min.result = search rules in
    let least : to_z w64 (of_z w64 c.min-min.result) ≡ c.args.basis.now.min = to_z-of_z w64 c.min-min.result least_fits ∙ c.min-min.ensures.min in
    let greatest_fits : FitsSigned w64 c.max-max.result = search rules in
    let greatest : to_z w64 (of_z w64 c.max-max.result) ≡ c.args.basis.now.max = to_z-of_z w64 c.max-max.result greatest_fits ∙ c.max-max.ensures.max in
    let passed : is_outside c.args.basis.now (price_of_point (point_at points at)) ≡ false = grind (arith, ints) in
    below_more _ _ c.loop-at.invariant passed

pub returns-clause-position : goal.returns-clause-position
returns-clause-position c = sym (position_or_len_is (λ point. is_outside c.args.basis.now (price_of_point point)) c.args.points.now _
    (pos 0, pos 0) (omega arith) (λ k h. c.loop-at.invariant k (omega arith)) (λ h. absurd (omega arith)))
