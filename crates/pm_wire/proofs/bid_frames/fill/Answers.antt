-- Of `fill`: its clause `bid`; the turns of its loop over `step`.
use Rattle.std.proofs.Common.{◌≡◌, ◌∙◌, ap, sym, subst, ◌+◌, ℤ, pos, neg_ℤ, Bool, List, [], ◌∷◌, ◌++◌, length, take}
use Rattle.std.proofs.Common.{Ok, FitsSigned, arith, length-append}
use Rattle.std.specs.Prelude.{int_le, ◌&&◌}
use Rattle.std.specs.Int.{w32}
use Rattle.std.specs.Bool.{Decides}
use Rattle.std.specs.List.{AllByRecursion}
use Rattle.std.proofs.lemmas.List.{take_more_set, take_all, length-set}
use Rattle.pm_base.specs.Limits.{demand_limit}
use Rattle.pm_bid.specs.Checks.{checked_bid}
use Rattle.pm_wire.specs.Frames.{signed_bytes, demand_bytes}
use Rattle.pm_wire.proofs.Falling.{falls_from, last_from, last_from-more, falls_from-more, falls_within, falls_within-tells}
use Rattle.pm_wire.proofs.OneField.{demands_more, fit_more, wide}
use Rattle.pm_wire.proofs.bid_frames.fill.Goals as goal
use Rattle.pm_wire.proofs.bid_frames.fill.Goals.{then-falls, else-falls}

pub loop-step-preserved : goal.loop-step-preserved
loop-step-preserved c =
    let demand = c.read_i32-demand.result.0 in
    let step = c.loop-step.step in
    let passed = take step c.loop-step.bid in
    let is = wide demand c.read_i32-demand.ensures.fits in
    let more : take (step + 1) c.set.new.self ≡ passed ++ demand ∷ [] =
    ap (λ l. take (step + 1) l) c.set.ensures.bid ∙ take_more_set c.loop-step.bid step _ (omega arith) ∙ ap (λ z. passed ++ z ∷ []) is in
    let P : List ℤ → Type 0 = λ l. AllByRecursion (λ z. FitsSigned w32 z) l in
    record {
      bytes = demands_more _ _ c.read_i32-demand.result.1.now passed demand c.loop-step.invariant.bytes c.read_i32-demand.ensures.bytes
          ∙ ap (λ l. demand_bytes l ++ c.read_i32-demand.result.1.now) (sym more);
      left = omega (
        arith,
        c.loop-step.invariant.left,
        ap length c.read_i32-demand.ensures.bytes,
        length-append (signed_bytes demand)
            c.read_i32-demand.result.1.now,
      );
      fit = subst P (sym more) (fit_more passed demand c.loop-step.invariant.fit c.read_i32-demand.ensures.fits);
      steps = ap length c.set.ensures.bid ∙ omega (arith, length-set {A = ℤ});
      before = rw (is, more) (sym (last_from-more (pos demand_limit) passed demand));
      falls = rw (is, c.loop-step.invariant.before, c.loop-step.invariant.falls, more) (sym (falls_from-more (pos demand_limit) passed demand));
    }

pub returns-clause-bid : goal.returns-clause-bid
returns-clause-bid c =
    let demand = c.loop-step.bid in
    let all : take c.loop-step.step demand ≡ demand = take_all c.loop-step.step demand (omega arith) in
    let falls : c.loop-step.falls ≡ falls_from (pos demand_limit) demand =
    c.loop-step.invariant.falls ∙ ap (λ l. falls_from (pos demand_limit) l) all in
    let last = c.loop-step.invariant.before ∙ ap (λ l. last_from (pos demand_limit) l) all in
    let low = int_le (neg_ℤ (pos demand_limit)) (last_from (pos demand_limit) demand) in
    let P : Bool → Type 0 = λ b. Decides b (checked_bid (length demand) demand ≡ Ok demand) in
    let is : c.if-falls.result ≡ falls_within demand = elim c.if-falls.branch [
      | then-falls w ↦ w.result-is ∙ ap (λ z. int_le (neg_ℤ (pos demand_limit)) z) last ∙ ap (λ b. b && low) (sym (sym falls ∙ w.if-falls.true))
      | else-falls w ↦ w.result-is ∙ w.if-falls.false ∙ ap (λ b. b && low) (sym (sym falls ∙ w.if-falls.false))
    ] in
    subst P (sym is) (falls_within-tells demand (omega arith))
