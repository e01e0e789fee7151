-- Of `read_point_list`: what its loop over `point` keeps.
use Rattle.std.proofs.Common.{◌≡◌, ◌*◌, ◌+◌, ◌++◌, ◌≤◌, length, vec_len}
use Rattle.std.specs.Prelude.{vec_capacity}
use Rattle.std.specs.List.{AllByRecursion}
use Rattle.pm_frames.specs.OfferForms.{point_list_bytes, PointFits}
use Rattle.pm_frames.proofs.offer.read_point_list.Given as goal

abbrev pub invariant-loop-point : goal.invariant-loop-point
invariant-loop-point g l = record {
  bytes : l.fn.bytes ≡ point_list_bytes l.points.items ++ l.rest;
  left : length l.rest + 8 * l._point ≡ 8 * l.fn.count;
  fit : AllByRecursion PointFits l.points.items;
  count : length l.points.items ≡ l._point;
  filled : vec_len l.points ≡ l._point;
  room : l.fn.count ≤ vec_capacity l.points;
}
