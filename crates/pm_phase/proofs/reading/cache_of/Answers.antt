-- Of `cache_of`: what it ensures.
use Rattle.std.proofs.Common.{◌∙◌, sym, ap, ℕ, ◌≤◌, arith}
use Rattle.pm_auctioneer.specs.Auctions.{Auction}
use Rattle.pm_concentrator.specs.Concentrators.{Gathered}
use Rattle.pm_carried.specs.Carried.{cache_at}
use Rattle.pm_carried.proofs.Bids.{cache_root, cache_inner}
use Rattle.pm_phase.specs.PartsEnd.{held_of_parts}
use Rattle.pm_phase.proofs.reading.cache_of.Goals as goal

pub returns-then-node-eq0 : goal.returns-then-node-eq0
returns-then-node-eq0 c =
    let held = held_of_parts c.args.parts.now in
    c.cache.ensures.cache ∙ ap (λ (a : Auction). a.cache) c.in_ok-auctioneer_of.ensures ∙ sym (cache_root held)
    ∙ ap (λ (y : ℕ). cache_at held y) (sym c.if-node-eq0.true)

pub returns : goal.returns
returns c =
    let low : 1 ≤ c.args.node = omega (arith, c.if-node-eq0.false) in
    c.cache-2.ensures.cache ∙ ap (λ (g : Gathered). g.cache) c.in_ok-concentrator_of.ensures
    ∙ sym (cache_inner (held_of_parts c.args.parts.now) c.args.node low)
