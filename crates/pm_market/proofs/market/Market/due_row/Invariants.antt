-- Of `Market::due_row`: what its loop over `node` keeps.
use Rattle.std.proofs.Common.{◌≡◌, ◌<◌, ℕ, get_or, vec_len}
use Rattle.pm_base.specs.Cuts.{cut_of}
use Rattle.pm_market.specs.Due.{due_after}
use Rattle.pm_market.specs.Market.{market_lists, market_due}
use Rattle.pm_market.proofs.market.Market.due_row.Given as goal

abbrev pub invariant-loop-node : goal.invariant-loop-node
invariant-loop-node l = record {
  length : vec_len l.row ≡ l.node;
  due : (x : ℕ) → x < l.node → get_or l.row.items x 0 ≡ due_after (market_lists l.self) (market_due l.self) l.reached l.index (cut_of l.cut) x;
}
