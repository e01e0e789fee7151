-- Of `take_price`: its clauses `one`, `taken` and `none`.
use Rattle.std.proofs.Common.{refl}
use Rattle.std.proofs.lemmas.Option.{MatchOption-at_none}
use Rattle.std.specs.Vec.{with_item}
use Rattle.pm_cluster.proofs.Rows.{IsRead, is_read}
use Rattle.pm_cluster.proofs.links.take_price.Goals as goal
use Rattle.pm_cluster.proofs.links.take_price.Goals.{After-index_mut-down}

read : (c : After-index_mut-down) →
    IsRead (λ row. row.items) c.args.links.now.items c.args.parent c.args.place c.index_mut-row.result.now c.index_mut-down.result.now
read c =
    is_read (λ row. row.items) c.args.links.now.items c.args.parent c.args.place c.index_mut-row.result.now c.index_mut-down.result.now
    c.requires.link.parent c.requires.link.place c.index_mut-row.ensures.value c.index_mut-down.ensures.value

pub returns-clause-one : goal.returns-clause-one
returns-clause-one c = ((read (goal.at.returns-clause-one c).After-index_mut-down).wrote _ c.take_price.new.self refl).one

pub returns-clause-taken : goal.returns-clause-taken
returns-clause-taken c =
    let was = read (goal.at.returns-clause-taken c).After-index_mut-down in
    let is = was.wrote (with_item c.index_mut-row.result.now c.args.place c.take_price.new.self) c.take_price.new.self refl in
    rw (was.link, is.at) c.take_price.ensures.taken

pub returns-clause-none : goal.returns-clause-none
returns-clause-none c e =
    (read (goal.at.returns-clause-none c).After-index_mut-down).same _ c.take_price.new.self refl (MatchOption-at_none _ _ e c.take_price.ensures.taken).same
