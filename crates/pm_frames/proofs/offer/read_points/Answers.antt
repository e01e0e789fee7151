-- Of `read_points`: its clause `one`; what the call of `array_of` requires.
use Rattle.std.proofs.Common.{◌≡◌, sym, subst, List, Ok, arith}
use Rattle.pm_points.specs.Points.{Point}
use Rattle.pm_points.specs.Checks.{checked_points}
use Rattle.pm_frames.proofs.ReadOffers.{points_refused, bid_read, no_point_bid, some_point_bid}
use Rattle.pm_frames.proofs.offer.read_points.Goals as goal

pub returns-in_default-clause-one : goal.returns-in_default-clause-one
returns-in_default-clause-one g c =
    points_refused _ _ _ _ c.basis_of-basis.result c.requires.open c.basis_of-basis.ensures (record {
      size = c.requires.size;
      count = omega (arith, c.in_ok-listed.ensures.count, c.from.ensures);
      spelled = c.in_ok-listed.ensures.bytes;
      fit = c.in_ok-listed.ensures.fit;
    })
    (no_point_bid c.basis_of-basis.result _ _ c.in_default.is c.point_bid.ensures)

pub returns-clause-one : goal.returns-clause-one
returns-clause-one g c =
    bid_read _ _ _ _ _ _ _ _ c.requires.open c.basis_of-basis.ensures (record {
      size = c.requires.size;
      count = omega (arith, c.in_ok-listed.ensures.count, c.from.ensures);
      spelled = c.in_ok-listed.ensures.bytes;
      fit = c.in_ok-listed.ensures.fit;
    })
    c.in-Some.is c.point_bid.ensures c.in_ok-demand.ensures.array c.in_ok-demand.ensures.bid

pub array_of-requires : goal.array_of-requires
array_of-requires g c =
    let both = some_point_bid c.basis_of-basis.result c.in_ok-listed.listed.items c.in-Some.points _ c.in-Some.is c.point_bid.ensures in
    let P : List Point → Type 0 = λ l. checked_points c.basis_of-basis.result l ≡ Ok l in
    subst P (sym both.0) both.1
