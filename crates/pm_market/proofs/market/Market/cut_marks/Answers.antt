-- Of `Market::cut_marks`: what it ensures; the turns of its loop over `before`.
use Rattle.std.proofs.Common.{rules, ◌≡◌, false, refl, ◌∙◌, arith}
use Rattle.std.proofs.lemmas.List.{with_items_is}
use Rattle.pm_market.specs.Lists.{nodes}
use Rattle.pm_market.specs.State.{is_same_on, all_to}
use Rattle.pm_market.specs.Market.{market_lists}
use Rattle.pm_market.proofs.Loops.{marked_more}
use Rattle.pm_market.proofs.Tables.{all_one}
use Rattle.pm_market.proofs.market.Market.cut_marks.Goals as goal

pub loop-before-init : goal.loop-before-init
unfolding all_to
loop-before-init c = record {
  length = search rules;
  marks = λ x within. all_one _ _ false (c.in_ok-marks.ensures.items_if_clones_equal (λ y e. e)) x;
}

pub loop-before-preserved : goal.loop-before-preserved
loop-before-preserved c = record {
  length = c.loop-before.invariant.length;
  marks = λ x within.
      let items = with_items_is c.loop-before.marks c.mark_leaf.new.marks (c.mark_leaf.ensures.length ∙ c.deref_mut.ensures.len) in
      let marked = c.mark_leaf.ensures.marks x (omega (arith, within, c.deref_mut.ensures.len, c.loop-before.invariant.length)) in
      marked_more _ _ _ _ _ refl (c.loop-before.invariant.marks x within) (cc (items, marked, c.deref_mut.ensures.value));
}

pub returns : goal.returns
unfolding is_same_on
returns c x within =
    let all : c.loop-before.before ≡ nodes (market_lists c.args.self.now) = omega arith in
    cc (all, c.loop-before.invariant.marks x within)
