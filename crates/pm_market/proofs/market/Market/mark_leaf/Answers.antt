-- Of `Market::mark_leaf`: its clause `marks`.
use Rattle.std.proofs.Common.{◌||◌, Bool, false, get_or, sym, ◌∙◌, ap, arith}
use Rattle.pm_base.specs.Cuts.{Cut, cut_of}
use Rattle.pm_market.specs.Market.{market_lists}
use Rattle.pm_market.proofs.Loops.{number_marks, no_number_passes, no_leaf_passes, marked_none}
use Rattle.pm_market.proofs.market.Market.mark_leaf.Goals as goal
use Rattle.pm_market.proofs.market.Market.mark_leaf.Goals.{else-is_leaf-via-then-is_leaf+else-item_at-gt0, else-is_leaf-via-else-is_leaf}

pub returns-then-item_at-gt0-clause-marks : goal.returns-then-item_at-gt0-clause-marks
returns-then-item_at-gt0-clause-marks c x within =
    let cut : Cut = cut_of c.args.cut.now in
    c.mark_above.ensures.marks x within ∙ ap (λ (b : Bool). get_or c.args.marks.now x false || b)
    (sym (number_marks (market_lists c.args.self.now) x c.args.device cut (sym c.is_leaf.ensures ∙ c.if-is_leaf.true)
    (omega (arith, c.item_at.ensures, c.if-item_at-gt0.true))))

pub returns-else-is_leaf-clause-marks : goal.returns-else-is_leaf-clause-marks
returns-else-is_leaf-clause-marks c x within =
    let cut : Cut = cut_of c.args.cut.now in
    marked_none _ _ (elim c.else-is_leaf.branch [
      | else-is_leaf-via-then-is_leaf+else-item_at-gt0 w ↦ no_number_passes (market_lists c.args.self.now) x c.args.device cut
          (omega (arith, w.item_at.ensures, w.if-item_at-gt0.false))
      | else-is_leaf-via-else-is_leaf w ↦ no_leaf_passes (market_lists c.args.self.now) x c.args.device cut (sym c.is_leaf.ensures ∙ w.if-is_leaf.false)
    ])
