-- Of `read_demands`: the turns of its loop over `place`.
use Rattle.std.proofs.Common.{◌∙◌, ap, sym, subst, ℤ, List, [], ◌∷◌, ◌++◌, length, take, FitsSigned, arith, length-append}
use Rattle.std.specs.Int.{w32}
use Rattle.std.specs.List.{AllByRecursion}
use Rattle.std.proofs.lemmas.List.{take_more_set, length-set}
use Rattle.pm_wire.specs.Frames.{signed_bytes, demand_bytes}
use Rattle.pm_wire.proofs.OneField.{demands_more, fit_more, wide}
use Rattle.pm_wire.proofs.number_fields.read_demands.Goals as goal

pub loop-place-preserved : goal.loop-place-preserved
loop-place-preserved g c =
    let demand = c.read_i32-demand.result.0 in
    let step = c.loop-place.place-index in
    let passed = take step c.loop-place.place-items in
    let more =
    take_more_set c.loop-place.place-items step _ (omega arith) ∙ ap (λ z. passed ++ z ∷ []) (wide demand c.read_i32-demand.ensures.fits) in
    let P : List ℤ → Type 0 = λ l. AllByRecursion (λ z. FitsSigned w32 z) l in
    record {
      bytes = demands_more _ _ c.read_i32-demand.result.1.now passed demand c.loop-place.invariant.bytes c.read_i32-demand.ensures.bytes
          ∙ ap (λ l. demand_bytes l ++ c.read_i32-demand.result.1.now) (sym more);
      left = omega (
        arith,
        c.loop-place.invariant.left,
        ap length c.read_i32-demand.ensures.bytes,
        length-append (signed_bytes demand)
            c.read_i32-demand.result.1.now,
      );
      fit = subst P (sym more) (fit_more passed demand c.loop-place.invariant.fit c.read_i32-demand.ensures.fits);
      count = length-set c.loop-place.place-items step _ ∙ c.loop-place.invariant.count;
    }
