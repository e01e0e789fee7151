-- Of `Market::count`: its clause `state`.
use Rattle.std.proofs.Common.{ap, arith, ℕ}
use Rattle.pm_market.specs.Market.{market_state}
use Rattle.pm_market.proofs.Tables.{number_set}
use Rattle.pm_market.proofs.market.Market.count.Goals as goal

pub returns-clause-state : goal.returns-clause-state
returns-clause-state c =
    let m = c.args.self.now in
    ap (λ (counts : ℕ → ℕ). record (market_state m) { counts = counts }) (number_set m.counts.items c.args.device c.args.number (omega arith))
