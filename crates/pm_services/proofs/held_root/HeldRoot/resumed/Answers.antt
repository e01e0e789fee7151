-- Of `HeldRoot::resumed`: what it ensures.
use Rattle.std.proofs.Common.{◌≡◌, ◌∙◌, sym, ap, ℕ}
use Rattle.pm_base.specs.Limits.{most_nodes}
use Rattle.pm_auctioneer.specs.Auctions.{new_auction}
use Rattle.pm_relay.specs.Roots.{RootValue}
use Rattle.pm_services.proofs.held_root.HeldRoot.resumed.Goals as goal

pub returns : goal.returns
returns c =
    let back = c.in_ok-root.ensures.back in
    let same : c.self.inside.steps ≡ c.args.self.now.auction.cache.steps =
    sym c.self.invariant.steps ∙ ap (λ (r : RootValue). r.auction.cache.steps) c.self.view_is in
    record {
      auction = back.auction ∙ ap (λ (steps : ℕ). new_auction most_nodes steps) same;
      base = back.base ∙ c.last.ensures;
      recorded = back.recorded ∙ c.numbers.ensures;
    }
