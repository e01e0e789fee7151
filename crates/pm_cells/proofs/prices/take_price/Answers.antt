-- Of `take_price`: its clause `above`; what the calls of `fetch_or` and `store` require.
use Rattle.std.proofs.Common.{◌≡◌, ◌/◌, ◌<◌, rules, Some, ◌∙◌, arith, subst}
use Rattle.std.specs.Prelude.{All}
use Rattle.pm_cells.specs.Ends.{LinkEnd}
use Rattle.pm_cells.specs.declared.message.Message.TheVariants.{Price}
use Rattle.pm_cells.proofs.PriceSteps.{may_claim_to_take_price, may_end_take_price}
use Rattle.pm_cells.proofs.Seats.{exchanged}
use Rattle.pm_cells.proofs.Takes.{price_above, found_slot}
use Rattle.pm_cells.proofs.prices.take_price.Goals as goal

pub fetch_or-found-requires : goal.fetch_or-found-requires
fetch_or-found-requires c = (search rules, search rules, may_claim_to_take_price _ _ _ c.end.invariant.role_is)

pub store-requires : goal.store-requires
store-requires c =
    let v = c.end.inside.seat.me.0 in
    let odd = c.if-found-eq1.false in
    let n = c.fetch_or-found.result in
    let got = c.fetch_or-found.ensures.2.0 (omega arith) in
    let is = exchanged _ _ _ 1 got.0 _ _ got.1 c.end.invariant.has_no_slot c.exchange-message.ensures.3 in
    (search rules, search rules, may_end_take_price _ _ _ v n got.0 is c.end.invariant.role_is (omega arith))

pub returns-in-Some-clause-above : goal.returns-in-Some-clause-above
returns-in-Some-clause-above c =
    let odd = c.if-found-eq1.false in
    let n = c.fetch_or-found.result / 2 in
    let got = c.fetch_or-found.ensures.2.0 (omega arith) in
    let price = c.in-Some.price in
    let same : got.0 ≡ Some (Price price) = found_slot _ _ _ _ _ got.0 _ got.1 c.exchange-message.ensures.2 ∙ c.in-Some.ensures.some in
    let v = c.end.inside.seat.me.0 in
    let above = price_above v.up.puts v.down n got.0 got.2 price same in
    subst (λ (e : LinkEnd). All (λ k. k < price.index) e.known.down.takes) c.end.view_is above
