-- Of `Root::resumed`: what it ensures; what the type keeps.
use Rattle.std.proofs.Common.{rules, ◌≡◌, ◌∙◌, sym, ap, subst, length, refl, arith}
use Rattle.std.proofs.lemmas.List.{length-replicate}
use Rattle.std.proofs.lemmas.List.Elements.{All-replicate}
use Rattle.pm_base.specs.Limits.{demand_limit, most_nodes}
use Rattle.pm_bid.specs.Bids.{AllWithinLimit, zeros}
use Rattle.pm_bid.specs.Heads.{nothing_sent}
use Rattle.pm_bid.proofs.Sums.{zeros-within}
use Rattle.pm_cache.specs.Learning.{HasSingleBids}
use Rattle.pm_auctioneer.specs.Auctions.{Auction}
use Rattle.pm_relay.proofs.root.Root.resumed.Goals as goal

pub invariant_of-result : goal.invariant_of-result
invariant_of-result c =
    let new = c.in_ok-auctioneer.ensures.new in
    let steps = c.args.steps in
    record {
      children = ap (λ (a : Auction). length a.cache.heads) new ∙ length-replicate most_nodes nothing_sent;
      same_children = search rules;
      single = subst (λ (a : Auction). HasSingleBids a.cache) (sym new)
          (All-replicate (λ bid. AllWithinLimit demand_limit bid) most_nodes (zeros steps) (zeros-within demand_limit steps));
      numbers = omega (arith, ap (λ (a : Auction). a.index) new);
    }

pub returns : goal.returns
returns c = record {
  back = record { auction = c.in_ok-auctioneer.ensures.new; base = refl; recorded = c.in_ok-recorded.ensures.items };
}
