-- Of `message_waits`: what it ensures; the turns of its loop over `link`.
use Rattle.std.proofs.Common.{sym, subst, below_more}
use Rattle.std.proofs.lemmas.List.{get_or_read}
use Rattle.pm_session.specs.Links.{new_session, IsTaken}
use Rattle.pm_cluster.proofs.quiet.message_waits.Goals as goal

pub returns-then-waits : goal.returns-then-waits
returns-then-waits c =
    let read = get_or_read c.args.row.now c.loop-link.link-index c.link-item.result c.loop-link-test.true c.link-item.is (new_session 0) in
    record {
      none = (
        λ e. (cc),
        λ taken. let here = c.waits.ensures.none.1 (subst IsTaken (sym read) (taken c.loop-link.link-index c.loop-link-test.true)) in cc,
      );
    }

pub loop-link-preserved : goal.loop-link-preserved
loop-link-preserved c =
    let read = get_or_read c.args.row.now c.loop-link.link-index c.link-item.result c.loop-link-test.true c.link-item.is (new_session 0) in
    below_more _ _ c.loop-link.invariant (subst IsTaken read (c.waits.ensures.none.0 c.if-waits.false))
