-- Of `put_price`: its clauses `put`, `puts_one` and `bids_stay`; what the calls of `fetch_or` and `store` require; what the type keeps.
use Rattle.std.proofs.Common.{◌<◌, rules, refl, sym, ap, arith, subst}
use Rattle.std.specs.Prelude.{Contains}
use Rattle.pm_cells.specs.Numbers.{newest_number}
use Rattle.pm_cells.specs.Ends.{LinkEnd}
use Rattle.pm_cells.proofs.PriceSteps.{may_claim_to_put_price, may_end_put_price, price_was_put}
use Rattle.pm_cells.proofs.Seats.{exchanged}
use Rattle.pm_cells.proofs.prices.put_price.Goals as goal

pub fetch_or-found-requires : goal.fetch_or-found-requires
fetch_or-found-requires c = (search rules, search rules, may_claim_to_put_price _ _ _ c.end.invariant.role_is)

pub store-requires : goal.store-requires
store-requires c =
    let v = c.end.inside.seat.me.0 in
    let odd = c.if-found-eq1.false in
    let got = c.fetch_or-found.ensures.2.0 (omega arith) in
    let price = c.args.price in
    let is = exchanged _ _ _ 1 got.0 _ _ got.1 c.end.invariant.has_no_slot c.exchange-old.ensures.3 in
    let above = subst (λ (e : LinkEnd). newest_number e.known.down.puts < price.index) (sym c.end.view_is) c.requires.index in
    let above = subst (λ n. newest_number v.down.puts < n) (sym c.from.ensures) above in
    let index = sym c.from.ensures in
    let names = subst (λ (e : LinkEnd). Contains e.known.up.takes price.number) (sym c.end.view_is) c.requires.number in
    (search rules, search rules, may_end_put_price _ _ _ v c.from.result _ is c.end.invariant.role_is above (_, refl, index, names))

pub returns-clause-put : goal.returns-clause-put
returns-clause-put c =
    let odd = c.if-found-eq1.false in
    let got = c.fetch_or-found.ensures.2.0 (omega arith) in
    let is = exchanged _ _ _ 1 got.0 _ _ got.1 c.end.invariant.has_no_slot c.exchange-old.ensures.3 in
    let told = price_was_put _ _ c.end.inside.seat.me.0 c.from.result _ is c.store.ensures.2 in
    search rules

pub invariant_of-end-2 : goal.invariant_of-end-2
invariant_of-end-2 c =
    let odd = c.if-found-eq1.false in
    let got = c.fetch_or-found.ensures.2.0 (omega arith) in
    let is = exchanged _ _ _ 1 got.0 _ _ got.1 c.end.invariant.has_no_slot c.exchange-old.ensures.3 in
    let told = price_was_put _ _ c.end.inside.seat.me.0 c.from.result _ is c.store.ensures.2 in
    search rules

pub returns-clause-puts_one : goal.returns-clause-puts_one
returns-clause-puts_one c =
    let is = returns-clause-put c in
    record {
      puts = ap (λ (e : LinkEnd). e.known.down.puts) is;
      sent = ap (λ (e : LinkEnd). e.known.down.sent) is;
      takes = ap (λ (e : LinkEnd). e.known.down.takes) is;
      received = ap (λ (e : LinkEnd). e.known.down.received) is;
      lost = ap (λ (e : LinkEnd). e.known.down.lost) is;
      empty = ap (λ (e : LinkEnd). e.known.down.empty) is;
    }

pub returns-clause-bids_stay : goal.returns-clause-bids_stay
returns-clause-bids_stay c = ap (λ (e : LinkEnd). e.known.up) (returns-clause-put c)
