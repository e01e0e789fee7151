-- Of `put_bid`: its clauses `back`, `put`, `puts_one` and `prices_stay`; what the calls of `fetch_or`, `store` and `exchange` require; what the type keeps.
use Rattle.std.proofs.Common.{◌<◌, rules, refl, sym, ap, arith, subst}
use Rattle.pm_cells.specs.Numbers.{newest_number}
use Rattle.pm_cells.specs.Ends.{LinkEnd}
use Rattle.pm_cells.proofs.BidSteps.{may_claim_to_put_bid, may_end_put_bid, bid_was_put}
use Rattle.pm_cells.proofs.Seats.{exchanged}
use Rattle.pm_cells.proofs.bids.put_bid.Goals as goal

pub fetch_or-found-requires : goal.fetch_or-found-requires
fetch_or-found-requires c = (search rules, search rules, may_claim_to_put_bid _ _ _ c.end.invariant.role_is)

pub store-requires : goal.store-requires
store-requires c =
    let v = c.end.inside.seat.me.0 in
    let odd = c.if-found-eq1.false in
    let got = c.fetch_or-found.ensures.2.0 (omega arith) in
    let is = exchanged _ _ _ 0 got.0 _ _ got.1 c.end.invariant.has_no_slot c.exchange-old.ensures.3 in
    let above = subst (λ (e : LinkEnd). newest_number e.known.up.puts < c.args.message.number) (sym c.end.view_is) c.requires.number in
    let above = subst (λ n. newest_number v.up.puts < n) (sym c.from.ensures) above in
    let number = sym c.from.ensures in
    (search rules, search rules, may_end_put_bid _ _ _ v c.from.result _ is c.end.invariant.role_is above (_, refl, number))

pub exchange-old-requires : goal.exchange-old-requires
exchange-old-requires c = search rules

pub returns-then-found-eq1-clause-back : goal.returns-then-found-eq1-clause-back
returns-then-found-eq1-clause-back c = search rules

pub returns-clause-put : goal.returns-clause-put
returns-clause-put c =
    let odd = c.if-found-eq1.false in
    let got = c.fetch_or-found.ensures.2.0 (omega arith) in
    let is = exchanged _ _ _ 0 got.0 _ _ got.1 c.end.invariant.has_no_slot c.exchange-old.ensures.3 in
    let told = bid_was_put _ _ c.end.inside.seat.me.0 c.from.result _ is c.store.ensures.2 in
    search rules

pub invariant_of-end-2 : goal.invariant_of-end-2
invariant_of-end-2 c =
    let odd = c.if-found-eq1.false in
    let got = c.fetch_or-found.ensures.2.0 (omega arith) in
    let is = exchanged _ _ _ 0 got.0 _ _ got.1 c.end.invariant.has_no_slot c.exchange-old.ensures.3 in
    let told = bid_was_put _ _ c.end.inside.seat.me.0 c.from.result _ is c.store.ensures.2 in
    search rules

pub returns-clause-puts_one : goal.returns-clause-puts_one
returns-clause-puts_one c =
    let is = returns-clause-put c in
    record {
      puts = ap (λ (e : LinkEnd). e.known.up.puts) is;
      sent = ap (λ (e : LinkEnd). e.known.up.sent) is;
      takes = ap (λ (e : LinkEnd). e.known.up.takes) is;
      received = ap (λ (e : LinkEnd). e.known.up.received) is;
      lost = ap (λ (e : LinkEnd). e.known.up.lost) is;
      empty = ap (λ (e : LinkEnd). e.known.up.empty) is;
    }

pub returns-clause-prices_stay : goal.returns-clause-prices_stay
returns-clause-prices_stay c = ap (λ (e : LinkEnd). e.known.down) (returns-clause-put c)
