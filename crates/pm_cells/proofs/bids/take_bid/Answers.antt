-- Of `take_bid`: its clauses `above`, `none` and `finds_none`; what the calls of `fetch_or` and `store` require.
use Rattle.std.proofs.Common.{◌≡◌, ◌/◌, ◌<◌, rules, Some, ap, ◌∙◌, arith, subst}
use Rattle.std.specs.Prelude.{All}
use Rattle.pm_cells.specs.Ends.{LinkEnd}
use Rattle.pm_cells.specs.declared.message.Message.TheVariants.{Bid}
use Rattle.pm_cells.proofs.BidSteps.{may_claim_to_take_bid, may_end_take_bid}
use Rattle.pm_cells.proofs.Seats.{exchanged}
use Rattle.pm_cells.proofs.Takes.{bid_above, found_slot}
use Rattle.pm_cells.proofs.bids.take_bid.Goals as goal

pub fetch_or-found-requires : goal.fetch_or-found-requires
fetch_or-found-requires c = (search rules, search rules, may_claim_to_take_bid _ _ _ c.end.invariant.role_is)

pub store-requires : goal.store-requires
store-requires c =
    let v = c.end.inside.seat.me.0 in
    let odd = c.if-found-eq1.false in
    let n = c.fetch_or-found.result in
    let got = c.fetch_or-found.ensures.2.0 (omega arith) in
    let is = exchanged _ _ _ 0 got.0 _ _ got.1 c.end.invariant.has_no_slot c.exchange-message.ensures.3 in
    (search rules, search rules, may_end_take_bid _ _ _ v n got.0 is c.end.invariant.role_is (omega arith))

pub returns-in-Some-Bid-clause-above : goal.returns-in-Some-Bid-clause-above
returns-in-Some-Bid-clause-above c =
    let odd = c.if-found-eq1.false in
    let n = c.fetch_or-found.result / 2 in
    let got = c.fetch_or-found.ensures.2.0 (omega arith) in
    let bid = c.in-Some-Bid.bid in
    let brought = c.in-Some-Bid.is ∙ ap Some c.in-Some-Bid.field-0-is in
    let same : got.0 ≡ Some (Bid bid) = found_slot _ _ _ _ _ got.0 _ got.1 c.exchange-message.ensures.2 ∙ brought in
    let above = bid_above c.end.inside.seat.me.0.up n got.0 got.2 bid same in
    let is = subst (λ (e : LinkEnd). All (λ k. k < bid.number) e.known.up.takes) c.end.view_is above in
    search rules

pub returns-in-Some-Bid-clause-none : goal.returns-in-Some-Bid-clause-none
returns-in-Some-Bid-clause-none c = search rules

pub returns-in-Some-Bid-clause-finds_none : goal.returns-in-Some-Bid-clause-finds_none
returns-in-Some-Bid-clause-finds_none c = search rules

pub returns-then-found-eq1-clause-none : goal.returns-then-found-eq1-clause-none
returns-then-found-eq1-clause-none c = search rules

pub returns-then-found-eq1-clause-finds_none : goal.returns-then-found-eq1-clause-finds_none
returns-then-found-eq1-clause-finds_none c = search rules
