-- Of `read_point_list`: its clause `bytes`; the turns of its loop over `point`.
use Rattle.std.proofs.Common.{◌≡◌, ◌∙◌, ◌+◌, ap, sym, subst, length, ◌∷◌, ◌++◌, [], List, arith}
use Rattle.std.proofs.Common.{length-append}
use Rattle.std.specs.List.{AllByRecursion}
use Rattle.std.proofs.lemmas.Grind.{common_steps}
use Rattle.pm_points.specs.Points.{Point}
use Rattle.pm_wire.specs.Frames.{signed_bytes}
use Rattle.pm_frames.specs.OfferForms.{point_list_bytes, PointFits}
use Rattle.pm_frames.proofs.OneOffer.{points_more, fit_more, pushed_wide}
use Rattle.pm_frames.proofs.offer.read_point_list.Goals as goal

pub loop-point-preserved : goal.loop-point-preserved
loop-point-preserved g c =
    let price = c.read_i32-price.result.0 in
    let middle = c.read_i32-price.result.1.now in
    let demand = c.read_i32-demand.result.0 in
    let after = c.read_i32-demand.result.1.now in
    let before : List Point = c.loop-point.points.items in
    let pushed : c.push.new.self.items ≡ before ++ (price, demand) ∷ [] =
    pushed_wide before _ price demand c.read_i32-price.ensures.fits c.read_i32-demand.ensures.fits c.in-Ok.ensures.items in
    let first : length c.loop-point.rest.now ≡ 4 + length middle = ap length c.read_i32-price.ensures.bytes ∙ length-append (signed_bytes price) middle in
    let second : length middle ≡ 4 + length after = ap length c.read_i32-demand.ensures.bytes ∙ length-append (signed_bytes demand) after in
    record {
      bytes = points_more _ _ middle after before price demand c.loop-point.invariant.bytes c.read_i32-price.ensures.bytes c.read_i32-demand.ensures.bytes
          ∙ ap (λ l. point_list_bytes l ++ after) (sym pushed);
      left = omega (arith, c.loop-point.invariant.left, first, second);
      fit = subst (λ l. AllByRecursion PointFits l) (sym pushed)
          (fit_more before (price, demand) c.loop-point.invariant.fit (c.read_i32-price.ensures.fits, c.read_i32-demand.ensures.fits));
      count = ap length pushed ∙ omega (arith, length-append before ((price, demand) ∷ []), c.loop-point.invariant.count);
      filled = omega (arith, c.in-Ok.ensures.len, c.loop-point.invariant.filled);
      room = omega (arith, c.in-Ok.ensures.capacity, c.loop-point.invariant.room);
    }

pub returns-clause-bytes : goal.returns-clause-bytes
returns-clause-bytes g c = grind (arith, common_steps)
