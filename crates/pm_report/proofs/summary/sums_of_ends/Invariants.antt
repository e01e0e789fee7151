-- Of `sums_of_ends`: what its loop over `end` keeps.
use Rattle.std.proofs.Common.{◌≡◌, ℕ, ◌*◌, ℤ, pos, neg_ℤ, ◌≤ℤ◌, take}
use Rattle.pm_report.specs.Report.{ends_of}
use Rattle.pm_report.specs.Summary.{sum_over}
use Rattle.pm_report.proofs.summary.sums_of_ends.Given as goal

-- a sum of so many numbers of 64 bits
abbrev pub IsSumOf : ℕ → ℤ → Type 0
IsSumOf count sum = (neg_ℤ (pos (count * 9223372036854775808)) ≤ℤ sum) × (sum ≤ℤ pos (count * 9223372036854775808))

abbrev pub invariant-loop-end : goal.invariant-loop-end
invariant-loop-end l = record {
  prices : l.prices ≡ sum_over (λ end. end.price) (ends_of (take l.end-index l.ends));
  totals : l.totals ≡ sum_over (λ end. end.total) (ends_of (take l.end-index l.ends));
  price_bounds : IsSumOf l.end-index l.prices;
  total_bounds : IsSumOf l.end-index l.totals;
}
