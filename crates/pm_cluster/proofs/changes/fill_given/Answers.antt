-- Of `fill_given`: its clauses `demand` and `same_length`; what the calls of `copy_into` and `fill_bid` require.
use Rattle.std.proofs.Common.{◌≡◌, ◌∙◌, sym, ap, subst, ℕ, ℤ, List, length}
use Rattle.std.specs.Prelude.{IfSome}
use Rattle.std.specs.Option.{option_copied}
use Rattle.std.proofs.lemmas.Bool.{not-false}
use Rattle.pm_strategy.specs.Strategies.{bid_of}
use Rattle.pm_plan.specs.States.{state}
use Rattle.pm_plan.proofs.Fits.{kind_valid}
use Rattle.pm_offer.specs.Offers.{device_demand}
use Rattle.pm_offer.proofs.Steps.{demand_steps}
use Rattle.pm_cluster.proofs.NextChanges.{demand_of_member, state_valid}
use Rattle.pm_cluster.proofs.changes.fill_given.Goals as goal
use Rattle.pm_cluster.proofs.changes.fill_given.Goals.{In-Some}

-- the demand that is given is the member's, and so has the steps of the basis
same_steps : (c : In-Some) → length c.in-Some.demand.now ≡ length c.args.out.now
same_steps c =
    let plan = c.args.plan.now in
    let next = c.args.next in
    let given : c.in-Some.demand.now ≡ device_demand plan next.device next.number =
    subst (λ g. IfSome (option_copied g) (λ demand. demand ≡ device_demand plan next.device next.number)) c.in-Some.is
    (c.requires.change.demand (not-false next.member c.if-not-next.false)) in
    ap length given ∙ demand_steps plan c.requires.change.is_plan next.device next.number ∙ sym c.requires.room

pub copy_into-requires : goal.copy_into-requires
copy_into-requires c = same_steps (goal.at.copy_into-requires c).In-Some

pub returns-in-Some-clause-same_length : goal.returns-in-Some-clause-same_length
returns-in-Some-clause-same_length c =
    ap length c.copy_into.ensures.bid ∙ same_steps (goal.at.returns-in-Some-clause-same_length c).In-Some

pub fill_bid-requires-clause-valid : goal.fill_bid-requires-clause-valid
fill_bid-requires-clause-valid c = kind_valid c.args.plan.now c.requires.change.is_plan c.args.next.device c.args.kind c.requires.change.its_kind

pub fill_bid-requires-clause-fits : goal.fill_bid-requires-clause-fits
fill_bid-requires-clause-fits c =
    let change = c.requires.change in
    state_valid c.args.plan.now change.is_plan c.args.next.device c.args.next.number c.args.kind c.args.next.state.0 change.its_kind change.planned
    change.state_is

pub returns-in-None-clause-demand : goal.returns-in-None-clause-demand
returns-in-None-clause-demand c member =
    let plan = c.args.plan.now in
    let next = c.args.next in
    let kind = c.args.kind in
    let change = c.requires.change in
    let z = state plan next.device next.number in
    c.fill_bid.ensures.bid
    ∙ ap (λ (y : ℤ). bid_of kind y c.arrays.result.now (length c.args.out.now)) change.state_is
    ∙ ap (λ (n : ℕ). bid_of kind z c.arrays.result.now n) c.requires.room
    ∙ ap (λ (a : List (List ℤ)). bid_of kind z a plan.basis.steps) c.arrays.ensures.arrays
    ∙ sym (demand_of_member plan next.device next.number kind change.its_kind (sym change.member ∙ member))
