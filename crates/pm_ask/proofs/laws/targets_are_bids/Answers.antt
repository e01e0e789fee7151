-- Of `targets_are_bids`: its clauses `auction`, `clears`, `only` and 3 more.
use Rattle.std.proofs.Common.{ap, List, ℤ}
use Rattle.pm_bid.specs.Bids.{demand_at}
use Rattle.pm_bid.specs.Clearing.{clearing_step}
use Rattle.pm_ask.specs.Asked.{asked_step}
use Rattle.pm_ask.proofs.TargetBids.{less_target-added, less_target-sum_of, target_clears, target_clears_only, left_over_is, asked_step_is_first}
use Rattle.pm_ask.proofs.laws.targets_are_bids.Goals as goal

pub returns-clause-auction : goal.returns-clause-auction
returns-clause-auction c = λ target steps bids all. ap clearing_step (less_target-sum_of target steps bids all)

pub returns-clause-clears : goal.returns-clause-clears
returns-clause-clears c = target_clears

pub returns-clause-only : goal.returns-clause-only
returns-clause-only c = target_clears_only

pub returns-clause-left_over : goal.returns-clause-left_over
returns-clause-left_over c = λ target steps total same.
    ap (λ (rest : List ℤ). demand_at rest (asked_step target total)) (less_target-added target steps total same)

pub returns-clause-less : goal.returns-clause-less
returns-clause-less c = left_over_is

pub returns-clause-first : goal.returns-clause-first
returns-clause-first c = asked_step_is_first
