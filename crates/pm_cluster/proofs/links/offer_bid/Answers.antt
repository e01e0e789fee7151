-- Of `offer_bid`: its clauses `one` and `offered`; what the call of `offer_bid` requires.
use Rattle.std.proofs.Common.{arith, ◌≡◌, ap, subst, length, refl}
use Rattle.std.specs.Vec.{with_item}
use Rattle.std.specs.Option.{option_copied}
use Rattle.pm_session.specs.Links.{Session, demand_offered}
use Rattle.pm_cluster.proofs.Rows.{IsRead, is_read}
use Rattle.pm_cluster.proofs.links.offer_bid.Goals as goal
use Rattle.pm_cluster.proofs.links.offer_bid.Goals.{After-index_mut-up}

read : (c : After-index_mut-up) →
    IsRead (λ row. row.items) c.args.links.now.items c.args.parent c.args.place c.index_mut-row.result.now c.index_mut-up.result.now
read c =
    is_read (λ row. row.items) c.args.links.now.items c.args.parent c.args.place c.index_mut-row.result.now c.index_mut-up.result.now
    c.requires.link.parent c.requires.link.place c.index_mut-row.ensures.value c.index_mut-up.ensures.value

pub offer_bid-requires-clause-number : goal.offer_bid-requires-clause-number
offer_bid-requires-clause-number c =
    let at = (goal.at.offer_bid-requires-clause-number c).After-index_mut-up in
    omega (arith, c.requires.number, ap (λ (z : Session). z.up.offered) (read at).link)

pub offer_bid-requires-clause-steps : goal.offer_bid-requires-clause-steps
offer_bid-requires-clause-steps c =
    let at = (goal.at.offer_bid-requires-clause-steps c).After-index_mut-up in
    subst (λ (z : Session). length (demand_offered z.steps (option_copied c.args.demand)) ≡ z.steps) (read at).link c.requires.steps

pub returns-clause-one : goal.returns-clause-one
returns-clause-one c = ((read (goal.at.returns-clause-one c).After-index_mut-up).wrote _ c.offer_bid.new.self refl).one

pub returns-clause-offered : goal.returns-clause-offered
returns-clause-offered c =
    let was = read (goal.at.returns-clause-offered c).After-index_mut-up in
    let is = was.wrote (with_item c.index_mut-row.result.now c.args.place c.offer_bid.new.self) c.offer_bid.new.self refl in
    rw (was.link, is.at) c.offer_bid.ensures.offered
