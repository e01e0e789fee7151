-- A root's value is what the network has of its auctioneer.
use Rattle.std.specs.Prelude.{◌≡◌, ◌⊎◌, ℕ, ◌-◌, ◌<◌, true, false, List, length, replicate}
use Rattle.pm_base.specs.Limits.{most_nodes}
use Rattle.pm_bid.specs.Clearing.{clearing_step}
use Rattle.pm_bid.specs.Heads.{nothing_sent}
use Rattle.pm_session.specs.Prices.{price_to}
use Rattle.pm_net.specs.Pricing.{Pricing}
use Rattle.pm_net.specs.Messages.{PriceMessage}
use Rattle.pm_net.specs.Network.{Network}
use Rattle.pm_net_plan.specs.Places.{Numbering, demands_of}
use Rattle.pm_relay.specs.Numbers.{child_number, head_number, IsCaughtUp, HearsNothingNewer}
use Rattle.pm_relay.specs.Roots.{RootValue, newest_index, HearsItsClearing}
use Rattle.pm_relay_net.specs.Heads.{heads_of}
use Rattle.pm_relay_net.specs.RelayIs.{recorded_sum, messages_of}

-- it lost no clearing: it made the newest one since it came up, or again, or there is none
abbrev pub HasClearing : RootValue → Type 0
HasClearing r = (r.base ≡ 0) ⊎ (0 < r.auction.index)

-- the parts of a root's value are those that the network has of the auctioneer, node 0
pub record MatchesRoot (p : Pricing) (numbering : Numbering) (net : Network) (r : RootValue) : Type 0 where
  pub steps : r.auction.cache.steps ≡ p.steps
  -- what it heard
  pub heads : r.auction.cache.heads ≡ heads_of numbering 0 net.heard
  pub demands : r.auction.cache.demands ≡ demands_of p.steps numbering 0 (λ z. (net.heard z).demand)
  -- the index of its newest clearing, and the children's numbers in it, which are 0 where there is none
  pub newest : newest_index r ≡ net.last_number 0
  pub children : length r.recorded ≡ most_nodes
  pub recorded : (k : ℕ) → k < most_nodes →
      child_number r.recorded k ≡ head_number (heads_of numbering 0 (net.records 0 (net.last_number 0))) k
  pub none_recorded : newest_index r ≡ 0 → (k : ℕ) → k < most_nodes → child_number r.recorded k ≡ 0
  -- it has the clearings behind its base
  pub base : r.base ≡ net.whole_from 0 - 1
  -- if it has the newest one, it heard of no child less than went into it, and its step is that of the sum
  pub caught_up : 0 < r.auction.index → IsCaughtUp r.recorded r.auction.cache.heads
  pub step : 0 < r.auction.index → r.auction.step ≡ clearing_step (recorded_sum p net 0 (net.last_number 0))
  -- if nothing was learnt since, it heard just what went into it, and before the first clearing since it came up nothing
  pub unchanged : r.auction.changed ≡ false → 0 < r.auction.index →
      heads_of numbering 0 net.heard ≡ heads_of numbering 0 (net.records 0 (net.last_number 0))
  pub opening : r.auction.changed ≡ false → r.auction.index ≡ 0 → r.auction.cache.heads ≡ replicate most_nodes nothing_sent
  -- if something was, it heard of some child more than went into it
  pub news : HasClearing r → r.auction.changed ≡ true → HearsNothingNewer r.recorded r.auction.cache.heads → ⊥

-- the root is what the network has of its auctioneer: a clearing that it hears it has
pub record RootIs (p : Pricing) (numbering : Numbering) (net : Network) (r : RootValue) : Type 0 where
  pub matches : MatchesRoot p numbering net r
  pub rebuilt : HearsItsClearing r → ⊥

-- what goes down to the child in a place for the newest clearing
abbrev pub root_prices : RootValue → ℕ → List PriceMessage
root_prices r place = messages_of (price_to r.auction.cache.heads r.auction.step (newest_index r) place)
