-- Of `take_bid`: its clauses `one`, `taken` and `none`; what the call of `take_bid` requires.
use Rattle.std.proofs.Common.{refl, ap, ◌∙◌}
use Rattle.std.proofs.lemmas.Option.{MatchOption-at_none}
use Rattle.std.specs.Vec.{with_item}
use Rattle.pm_session.specs.Links.{Session}
use Rattle.pm_cluster.proofs.Rows.{IsRead, is_read}
use Rattle.pm_cluster.proofs.links.take_bid.Goals as goal
use Rattle.pm_cluster.proofs.links.take_bid.Goals.{After-index_mut-up}

read : (c : After-index_mut-up) →
    IsRead (λ row. row.items) c.args.links.now.items c.args.parent c.args.place c.index_mut-row.result.now c.index_mut-up.result.now
read c =
    is_read (λ row. row.items) c.args.links.now.items c.args.parent c.args.place c.index_mut-row.result.now c.index_mut-up.result.now
    c.requires.link.parent c.requires.link.place c.index_mut-row.ensures.value c.index_mut-up.ensures.value

pub take_bid-requires : goal.take_bid-requires
take_bid-requires c = record {
  steps = c.requires.steps ∙ ap (λ (z : Session). z.steps) (read (goal.at.take_bid-requires c).After-index_mut-up).link;
}

pub returns-clause-one : goal.returns-clause-one
returns-clause-one c = ((read (goal.at.returns-clause-one c).After-index_mut-up).wrote _ c.take_bid.new.self refl).one

pub returns-clause-taken : goal.returns-clause-taken
returns-clause-taken c =
    let was = read (goal.at.returns-clause-taken c).After-index_mut-up in
    let is = was.wrote (with_item c.index_mut-row.result.now c.args.place c.take_bid.new.self) c.take_bid.new.self refl in
    rw (was.link, is.at) c.take_bid.ensures.taken

pub returns-clause-none : goal.returns-clause-none
returns-clause-none c e =
    (read (goal.at.returns-clause-none c).After-index_mut-up).same _ c.take_bid.new.self refl (MatchOption-at_none _ _ e c.take_bid.ensures.taken).0.same
