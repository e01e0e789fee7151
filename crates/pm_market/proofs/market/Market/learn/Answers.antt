-- Of `Market::learn`: its clause `state`.
use Rattle.std.proofs.Common.{ap, arith, ℕ}
use Rattle.pm_market.specs.Market.{market_state}
use Rattle.pm_market.proofs.Tables.{number_set}
use Rattle.pm_market.proofs.market.Market.learn.Goals as goal

pub returns-clause-state : goal.returns-clause-state
returns-clause-state c =
    let m = c.args.self.now in
    ap (λ (learnt : ℕ → ℕ). record (market_state m) { learnt = learnt }) (number_set m.learnt.items c.args.child c.args.number (omega arith))
