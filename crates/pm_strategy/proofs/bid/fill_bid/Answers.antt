-- Of `fill_bid`: its clauses `bid`, `steps`, `falls` and `within`; what the call of `fill` requires.
use Rattle.std.proofs.Common.{◌∙◌, ap, sym, subst, ℤ, List, length}
use Rattle.pm_bid.specs.Bids.{AllWithinLimit, NeverRises}
use Rattle.pm_base.specs.Limits.{demand_limit, IsWithin}
use Rattle.pm_strategy.proofs.BidLaws.{demand_of-within, filled, bid_of-manual, bid_of-within, bid_of-falls, length-bid_of}
use Rattle.pm_strategy.proofs.bid.fill_bid.Goals as goal

pub fill-requires : goal.fill-requires
fill-requires c =
    let P : ℤ → Type 0 = λ z. IsWithin demand_limit z in
    record { within = λ step. subst P (sym (c.in-Some.ensures.levels.each step)) (demand_of-within _ _ _ step c.requires.valid c.requires.fits) }

pub returns-in-Some-clause-bid : goal.returns-in-Some-clause-bid
returns-in-Some-clause-bid c = filled _ _ _ _ _ _ _ c.in-Some.ensures.levels c.steps.ensures.steps c.fill.ensures.bid

pub returns-in-Some-clause-steps : goal.returns-in-Some-clause-steps
returns-in-Some-clause-steps c =
    ap length (returns-in-Some-clause-bid c) ∙ length-bid_of c.args.kind.now c.args.state.0 c.args.arrays.now (length c.args.out.now) c.requires.arrays

pub returns-in-Some-clause-falls : goal.returns-in-Some-clause-falls
returns-in-Some-clause-falls c = λ all.
    let P : List ℤ → Type 0 = NeverRises in
    subst P (sym (returns-in-Some-clause-bid c)) (bid_of-falls c.args.kind.now c.args.state.0 c.args.arrays.now (length c.args.out.now) c.requires.valid all)

pub returns-in-Some-clause-within : goal.returns-in-Some-clause-within
returns-in-Some-clause-within c = λ all.
    let P : List ℤ → Type 0 = AllWithinLimit demand_limit in
    subst P (sym (returns-in-Some-clause-bid c))
    (bid_of-within c.args.kind.now c.args.state.0 c.args.arrays.now (length c.args.out.now) c.requires.valid c.requires.fits all)

pub returns-in-None-clause-bid : goal.returns-in-None-clause-bid
returns-in-None-clause-bid c = c.fill_from_array.ensures ∙ sym (bid_of-manual _ _ _ _ c.in-None.ensures.levels)

pub returns-in-None-clause-steps : goal.returns-in-None-clause-steps
returns-in-None-clause-steps c =
    ap length (returns-in-None-clause-bid c) ∙ length-bid_of c.args.kind.now c.args.state.0 c.args.arrays.now (length c.args.out.now) c.requires.arrays

pub returns-in-None-clause-falls : goal.returns-in-None-clause-falls
returns-in-None-clause-falls c = λ all.
    let P : List ℤ → Type 0 = NeverRises in
    subst P (sym (returns-in-None-clause-bid c)) (bid_of-falls c.args.kind.now c.args.state.0 c.args.arrays.now (length c.args.out.now) c.requires.valid all)

pub returns-in-None-clause-within : goal.returns-in-None-clause-within
returns-in-None-clause-within c = λ all.
    let P : List ℤ → Type 0 = AllWithinLimit demand_limit in
    subst P (sym (returns-in-None-clause-bid c))
    (bid_of-within c.args.kind.now c.args.state.0 c.args.arrays.now (length c.args.out.now) c.requires.valid c.requires.fits all)
