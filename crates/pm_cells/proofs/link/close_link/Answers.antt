-- Of `close_link`: its clauses `bids_were_put`, `prices_were_put`, `bids_are_those_put` and `prices_are_those_put`; what the call of `join_seat` requires.
use Rattle.std.proofs.Common.{rules, ap, subst}
use Rattle.pm_cells.specs.Numbers.{AllAmong}
use Rattle.pm_cells.specs.Ends.{LinkEnd}
use Rattle.pm_cells.specs.Steps.{Seated}
use Rattle.pm_cells.proofs.Numbers.{AllAmong-same}
use Rattle.pm_cells.proofs.CutAndJoin.{may_join, ends_agree}
use Rattle.pm_cells.proofs.link.close_link.Goals as goal

pub join_seat-requires : goal.join_seat-requires
join_seat-requires c = (search rules, search rules, search rules, search rules, may_join _ _ _ _ c.child.invariant.role_is)

pub returns-clause-bids_were_put : goal.returns-clause-bids_were_put
returns-clause-bids_were_put c =
    let seen = c.close_with-closed.ensures.values.2 in
    let joined = ap (λ (m : Seated). m.0) c.join_seat.ensures.2 in
    let agree = ends_agree seen.0 _ _ c.child.inside.seat.me.0 c.parent.inside.seat.me.0 seen.1 joined in
    AllAmong-same _ _ _ _ c.parent.invariant.takes_are c.child.invariant.puts_are agree.0.1

pub returns-clause-prices_were_put : goal.returns-clause-prices_were_put
returns-clause-prices_were_put c =
    let seen = c.close_with-closed.ensures.values.2 in
    let joined = ap (λ (m : Seated). m.0) c.join_seat.ensures.2 in
    let agree = ends_agree seen.0 _ _ c.child.inside.seat.me.0 c.parent.inside.seat.me.0 seen.1 joined in
    AllAmong-same _ _ _ _ c.child.invariant.takes_are c.parent.invariant.puts_are agree.1.1

pub returns-clause-bids_are_those_put : goal.returns-clause-bids_are_those_put
returns-clause-bids_are_those_put c =
    let seen = c.close_with-closed.ensures.values.2 in
    let joined = ap (λ (m : Seated). m.0) c.join_seat.ensures.2 in
    let agree = ends_agree seen.0 _ _ c.child.inside.seat.me.0 c.parent.inside.seat.me.0 seen.1 joined in
    let Among = λ (e : LinkEnd × LinkEnd). AllAmong e.0.known.up.received e.1.known.up.sent in
    subst Among (λ i. (c.parent.view_is i, c.child.view_is i)) agree.0.2

pub returns-clause-prices_are_those_put : goal.returns-clause-prices_are_those_put
returns-clause-prices_are_those_put c =
    let seen = c.close_with-closed.ensures.values.2 in
    let joined = ap (λ (m : Seated). m.0) c.join_seat.ensures.2 in
    let agree = ends_agree seen.0 _ _ c.child.inside.seat.me.0 c.parent.inside.seat.me.0 seen.1 joined in
    let Among = λ (e : LinkEnd × LinkEnd). AllAmong e.0.known.down.received e.1.known.down.sent in
    subst Among (λ i. (c.child.view_is i, c.parent.view_is i)) agree.1.2
