-- Of `find_too_large`: what it ensures.
use Rattle.std.proofs.Common.{rules, arith, ◌≡◌, true, pos, FitsSigned, w64, sym}
use Rattle.std.proofs.lemmas.Int.{ints}
use Rattle.std.proofs.lemmas.List.Sums.{position_or_len_is}
use Rattle.pm_bid.specs.Bids.{demand_at}
use Rattle.pm_bid.specs.Checks.{is_too_large}
use Rattle.pm_bid.proofs.search.find_too_large.Goals as goal

pub returns-then-demand-gt-DEMAND_LIMIT : goal.returns-then-demand-gt-DEMAND_LIMIT
returns-then-demand-gt-DEMAND_LIMIT c =
    let fits : FitsSigned w64 (demand_at c.args.demands.now c.loop-step.step) = search rules in
    let found : is_too_large (demand_at c.args.demands.now c.loop-step.step) ≡ true = grind (arith, ints) in
    sym (position_or_len_is is_too_large c.args.demands.now c.loop-step.step (pos 0) (omega arith) c.loop-step.invariant (λ _. found))

pub returns : goal.returns
returns c = sym (position_or_len_is is_too_large c.args.demands.now _ (pos 0) (omega arith)
    (λ k h. c.loop-step.invariant k (omega arith)) (λ h. absurd (omega arith)))
