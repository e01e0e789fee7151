-- Of `Market::cut_marks`: what its loop over `before` keeps.
use Rattle.std.proofs.Common.{◌≡◌, ◌≤◌, ◌+◌, ℕ, not, true, false, cond, eqb, get_or, vec_len}
use Rattle.pm_base.specs.Cuts.{cut_of}
use Rattle.pm_market.specs.Lists.{nodes, is_leaf_of}
use Rattle.pm_market.specs.State.{all_to}
use Rattle.pm_market.specs.Market.{market_lists}
use Rattle.pm_market.proofs.market.Market.cut_marks.Given as goal

abbrev pub invariant-loop-before : goal.invariant-loop-before
invariant-loop-before l = record {
  length : vec_len l.marks ≡ nodes (market_lists l.self) + 1;
  marks : (x : ℕ) → x ≤ nodes (market_lists l.self) →
      get_or l.marks.items x false ≡ not (all_to l.before (λ d. cond (is_leaf_of (market_lists l.self) x d) (eqb (cut_of l.cut d) 0) true));
}
