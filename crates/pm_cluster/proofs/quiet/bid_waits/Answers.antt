-- Of `bid_waits`: what it ensures; the turns of its loop over `link`.
use Rattle.std.proofs.Common.{◌≡◌, sym, subst, below_more}
use Rattle.std.proofs.lemmas.List.{get_or_read}
use Rattle.pm_session.specs.Links.{Session, new_session}
use Rattle.pm_cluster.proofs.Waits.{bid_waits_is}
use Rattle.pm_cluster.proofs.quiet.bid_waits.Goals as goal

pub returns-then-bids_waiting : goal.returns-then-bids_waiting
returns-then-bids_waiting c =
    let read = get_or_read c.args.row.now c.loop-link.link-index c.link-item.result c.loop-link-test.true c.link-item.is (new_session 0) in
    let iff = bid_waits_is c.link-item.result c.bids_waiting.result c.bids_waiting.ensures.sound c.bids_waiting.ensures.waiting in
    record {
      none = (
        λ e. (cc),
        λ taken. let here =
            iff.1 (subst (λ (z : Session). z.up.offered ≡ z.up.taken) (sym read) (taken c.loop-link.link-index c.loop-link-test.true)) in cc,
      );
    }

pub loop-link-preserved : goal.loop-link-preserved
loop-link-preserved c =
    let read = get_or_read c.args.row.now c.loop-link.link-index c.link-item.result c.loop-link-test.true c.link-item.is (new_session 0) in
    let iff = bid_waits_is c.link-item.result c.bids_waiting.result c.bids_waiting.ensures.sound c.bids_waiting.ensures.waiting in
    below_more _ _ c.loop-link.invariant (subst (λ (z : Session). z.up.offered ≡ z.up.taken) read (iff.0 c.if-bids_waiting.false))
