-- Of `PointBid::new`: what it ensures; what the type keeps.
use Rattle.std.proofs.Common.{rules, subst, ◌≤◌, List, length, arith}
use Rattle.pm_points.specs.Points.{Point, max_points}
use Rattle.pm_points.specs.Checks.{first_price_fall, first_rise, first_outside, first_large_demand}
use Rattle.pm_points.proofs.Passed.{passed_all}
use Rattle.pm_points.proofs.point_bid.PointBid.new.Goals as goal

pub returns-then-at-len : goal.returns-then-at-len
returns-then-at-len c = search rules

pub invariant_of-result : goal.invariant_of-result
invariant_of-result c =
    let points = c.args.points.items in
    let some : 1 ≤ length points = subst (λ (ps : List Point). 1 ≤ length ps) c.deref.ensures.value (search rules) in
    let few : length points ≤ max_points = subst (λ (ps : List Point). length ps ≤ max_points) c.deref.ensures.value (omega arith) in
    let fall : length points ≤ first_price_fall points =
    subst (λ (ps : List Point). length ps ≤ first_price_fall ps) c.deref.ensures.value (omega arith) in
    let rise : length points ≤ first_rise points = subst (λ (ps : List Point). length ps ≤ first_rise ps) c.deref-2.ensures.value (omega arith) in
    let large : length points ≤ first_large_demand points =
    subst (λ (ps : List Point). length ps ≤ first_large_demand ps) c.deref-3.ensures.value (omega arith) in
    let outside : length points ≤ first_outside c.args.basis.now points =
    subst (λ (ps : List Point). length ps ≤ first_outside c.args.basis.now ps) c.deref-4.ensures.value (omega arith) in
    passed_all c.args.basis.now points c.find_outside-at.ensures.sound some few fall rise large outside
