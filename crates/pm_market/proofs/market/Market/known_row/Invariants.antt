-- Of `Market::known_row`: what its loop over `device` keeps.
use Rattle.std.proofs.Common.{◌≡◌, ◌<◌, ℕ, get_or, vec_len}
use Rattle.pm_market.specs.State.{knowledge}
use Rattle.pm_market.specs.Market.{market_lists, market_state}
use Rattle.pm_market.proofs.market.Market.known_row.Given as goal

abbrev pub invariant-loop-device : goal.invariant-loop-device
invariant-loop-device l = record {
  length : vec_len l.row ≡ l.device;
  numbers : (d : ℕ) → d < l.device → get_or l.row.items d 0 ≡ knowledge (market_lists l.self) (market_state l.self) l.node d;
}
