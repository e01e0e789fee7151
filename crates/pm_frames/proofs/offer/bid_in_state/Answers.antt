-- Of `bid_in_state`: its clause `bid`.
use Rattle.std.proofs.Common.{ap, length, pos, [], arith}
use Rattle.std.proofs.lemmas.List.Elements.{All-from_recursion}
use Rattle.std.proofs.lemmas.List.{length-replicate}
use Rattle.pm_base.specs.Limits.{demand_limit}
use Rattle.pm_bid.specs.Bids.{NeverRises, AllWithinLimit}
use Rattle.pm_wire.proofs.ZeroBids.{is_bid}
use Rattle.pm_frames.proofs.offer.bid_in_state.Goals as goal

pub returns-clause-bid : goal.returns-clause-bid
returns-clause-bid g c =
    is_bid _
    (omega (arith, c.fill_bid.ensures.steps, ap length c.in_ok-demand.ensures.bid, length-replicate c.args.steps (pos 0), c.requires.steps.least))
    (c.fill_bid.ensures.falls (λ e. All-from_recursion NeverRises [] tt))
    (c.fill_bid.ensures.within (λ e. All-from_recursion (AllWithinLimit demand_limit) [] tt))
