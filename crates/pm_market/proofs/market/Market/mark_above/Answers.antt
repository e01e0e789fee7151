-- Of `Market::mark_above`: its clause `marks`; the turns of its loop over `step`.
use Rattle.std.proofs.Common.{◌≡◌, ◌+◌, ◌-◌, ◌||◌, ℕ, Bool, false, get_or, refl, sym, ◌∙◌, ap, arith}
use Rattle.pm_market.specs.Lists.{is_below, is_below_in}
use Rattle.pm_market.specs.Market.{market_lists}
use Rattle.pm_market.proofs.Loops.{below_marked, below_ends, below_last}
use Rattle.pm_market.proofs.market.Market.mark_above.Goals as goal

pub loop-step-init : goal.loop-step-init
unfolding is_below
loop-step-init c =
    let all : c.args.below - 0 ≡ c.args.below = omega arith in record {
      size = refl;
      marks = λ k inside. ap (λ (levels : ℕ). get_or c.args.marks.now k false || is_below_in (market_lists c.args.self.now) levels k c.args.below) all;
    }

pub loop-step-preserved : goal.loop-step-preserved
loop-step-preserved c =
    let lists = market_lists c.args.self.now in
    let levels : ℕ = c.args.below - (c.loop-step._step + 1) in record {
      size = omega (arith, c.mark.ensures.length, c.loop-step.invariant.size);
      marks = λ k inside. ap (λ (at : ℕ). get_or c.mark.new.marks k false || is_below_in lists levels k at) c.parent-at.ensures
          ∙ below_marked lists levels (c.args.below - c.loop-step._step) k c.loop-step.at _ _ _ (omega arith)
          (c.mark.ensures.marks k (omega (arith, inside, c.loop-step.invariant.size))) (c.loop-step.invariant.marks k inside);
    }

pub returns-then-at-eq0-clause-marks : goal.returns-then-at-eq0-clause-marks
returns-then-at-eq0-clause-marks c x inside =
    let levels : ℕ = c.args.below - c.loop-step._step in
    c.mark.ensures.marks x (omega (arith, inside, c.loop-step.invariant.size))
    ∙ ap (λ (b : Bool). get_or c.loop-step.marks x false || b) (sym (below_ends (market_lists c.args.self.now) levels x c.loop-step.at c.if-at-eq0.true))
    ∙ c.loop-step.invariant.marks x inside

pub returns-clause-marks : goal.returns-clause-marks
returns-clause-marks c x inside =
    let levels : ℕ = c.args.below - c.loop-step._step in
    c.mark-2.ensures.marks x (omega (arith, inside, c.loop-step.invariant.size))
    ∙ ap (λ (b : Bool). get_or c.loop-step.marks x false || b) (sym (below_last (market_lists c.args.self.now) levels x c.loop-step.at (omega arith)))
    ∙ c.loop-step.invariant.marks x inside
