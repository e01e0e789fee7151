-- Of `sums_of_ends`: its clauses `prices` and `totals`; the turns of its loop over `end`.
use Rattle.std.proofs.lemmas.Grind.{common_steps}
use Rattle.std.proofs.Common.{arith}
use Rattle.std.proofs.lemmas.Int.{ints}
use Rattle.pm_plan.specs.Auction.{EndData}
use Rattle.pm_report.proofs.Reports.{next_sum}
use Rattle.pm_report.proofs.summary.sums_of_ends.Goals as goal

pub loop-end-preserved : goal.loop-end-preserved
loop-end-preserved c = record {
  prices = next_sum (λ (end : EndData). end.price) c.args.ends.now c.loop-end.end-index c.end-item.result _ _ c.loop-end-test.true c.end-item.is
      c.loop-end.invariant.prices (omega (arith, ints));
  totals = next_sum (λ (end : EndData). end.total) c.args.ends.now c.loop-end.end-index c.end-item.result _ _ c.loop-end-test.true c.end-item.is
      c.loop-end.invariant.totals (omega (arith, ints));
  price_bounds = (omega (arith, ints), omega (arith, ints));
  total_bounds = (omega (arith, ints), omega (arith, ints));
}

pub returns-clause-prices : goal.returns-clause-prices
returns-clause-prices c = grind (arith, common_steps)

pub returns-clause-totals : goal.returns-clause-totals
returns-clause-totals c = grind (arith, common_steps)
