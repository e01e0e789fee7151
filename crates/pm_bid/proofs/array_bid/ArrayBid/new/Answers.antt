-- Of `ArrayBid::new`: its clauses `falls`, `small` and `bid`; what the type keeps.
use Rattle.std.proofs.Common.{◌≡◌, ◌<◌, ◌≤◌, ◌∙◌, ap, ℕ, ℤ, List, length, Ok, Err, arith}
use Rattle.std.proofs.lemmas.Bool.Decides.{nat_tests}
use Rattle.pm_bid.specs.Checks.{first_rising, first_too_large, checked_bid}
use Rattle.pm_bid.specs.declared.fault.BidFault.TheVariants.{Rising, TooLarge}
use Rattle.pm_bid.proofs.array_bid.ArrayBid.new.Goals as goal
use Rattle.pm_bid.proofs.EachStep.{all_small, within_sums}
use Rattle.pm_bid.proofs.FoundStep.{never_rises}

pub invariant_of-result : goal.invariant_of-result
invariant_of-result g c = record {
  steps = record { least = omega arith; most = omega arith };
  within = rw (← c.deref-2.ensures.value) (within_sums c.deref-2.result.now (all_small c.deref-2.result.now (omega arith)));
}

pub returns-clause-falls : goal.returns-clause-falls
returns-clause-falls g c = rw (← c.deref.ensures.value) (never_rises c.deref.result.now (omega arith))

pub returns-clause-small : goal.returns-clause-small
returns-clause-small g c = rw (← c.deref-2.ensures.value) (all_small c.deref-2.result.now (omega arith))

-- a list of the right length with a step that rises is refused by it
rising_is_told : (steps at : ℕ) (bid : List ℤ) → length bid ≡ steps → at ≡ first_rising bid → at < length bid →
    Err (Rising at) ≡ checked_bid steps bid
rising_is_told steps at bid long first inside = grind (arith, nat_tests)

-- a list of the right length that never rises is refused by a step that is too large
large_is_told : (steps at : ℕ) (bid : List ℤ) → length bid ≡ steps → length bid ≤ first_rising bid → at ≡ first_too_large bid →
    at < length bid → Err (TooLarge at) ≡ checked_bid steps bid
large_is_told steps at bid long never first inside = grind (arith, nat_tests)

-- a list of the right length that never rises and has no demand that is too large is a bid
bid_is_told : (steps : ℕ) (bid : List ℤ) → length bid ≡ steps → length bid ≤ first_rising bid → length bid ≤ first_too_large bid →
    Ok bid ≡ checked_bid steps bid
bid_is_told steps bid long never small = grind (arith, nat_tests)

pub returns-then-at-len-clause-bid : goal.returns-then-at-len-clause-bid
returns-then-at-len-clause-bid g c =
    let first = c.find_rising-at.ensures ∙ ap first_rising c.deref.ensures.value in
    rising_is_told c.args.steps _ c.args.demands.items (omega arith) first (omega arith)

pub returns-then-at-len-2-clause-bid : goal.returns-then-at-len-2-clause-bid
returns-then-at-len-2-clause-bid g c =
    let never = rw c.deref.ensures.value at c.find_rising-at.ensures in
    let first = c.find_too_large-at.ensures ∙ ap first_too_large c.deref-2.ensures.value in
    large_is_told c.args.steps _ c.args.demands.items (omega arith) (omega arith) first (omega arith)

pub returns-clause-bid : goal.returns-clause-bid
returns-clause-bid g c =
    let never = rw c.deref.ensures.value at c.find_rising-at.ensures in
    let small = rw c.deref-2.ensures.value at c.find_too_large-at.ensures in
    bid_is_told c.args.steps c.args.demands.items (omega arith) (omega arith) (omega arith)
