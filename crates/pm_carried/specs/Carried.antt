-- What the nodes of a plan hold at the end of a phase over links, and the end of the phase that this gives.
use Rattle.std.specs.Prelude.{ℕ, ◌==◌, ◌&&◌, ℤ, Bool, pos, is_some, if◌then◌else◌, List, [], ◌∷◌, map, filter, Option, Some, None}
use Rattle.pm_basis.specs.Prices.{price_at}
use Rattle.pm_bid.specs.Bids.{demand_at}
use Rattle.pm_bid.specs.Limited.{local_step}
use Rattle.pm_bid.specs.declared.head.BidHead.{BidHead}
use Rattle.pm_tree.specs.Entries.{place_of}
use Rattle.pm_market.specs.Lists.{parent}
use Rattle.pm_cache.specs.Cache.{Cache, child_demand, aggregate_of}
use Rattle.pm_session.specs.Ports.{Seat, held_by}
use Rattle.pm_session.specs.Prices.{head_at}
use Rattle.pm_session.specs.declared.price.PriceUpdate.{PriceUpdate}
use Rattle.pm_session.specs.declared.price.Held.{Held}
use Rattle.pm_concentrator.specs.Concentrators.{Gathered}
use Rattle.pm_auctioneer.specs.Auctions.{Auction}
use Rattle.pm_plan.specs.Plans.{PlanData, node, limits_of, is_leaf, node_numbers}
use Rattle.pm_plan.specs.Auction.{EndData, limited_nodes}
use Rattle.pm_plan.specs.Market.{plan_lists}
use Rattle.pm_plan.specs.declared.end.MemberLine.{MemberLine}
use Rattle.pm_plan.specs.declared.end.LimitedLine.{LimitedLine}

-- The auctioneer; by the numbers of the nodes the concentrators, the ports of the devices, how many changes each device made
-- since the first phase, and the prices that each node took from its parent in the phase, in order. Only the places of
-- concentrators, or of devices, say anything.
pub record Carried : Type 0 where
  pub auctioneer : Auction
  pub concentrators : ℕ → Gathered
  pub seats : ℕ → Seat
  pub made : ℕ → ℕ
  pub came : ℕ → List PriceUpdate

-- the cache of the auctioneer, node 0, or of a concentrator
unfoldable pub cache_at : Carried → ℕ → Cache
cache_at c y = if y == 0 then c.auctioneer.cache else (c.concentrators y).cache

-- the entry of a node in the cache of its parent: its head and its demand
unfoldable pub entry_head : PlanData → Carried → ℕ → BidHead
entry_head plan c x = head_at (cache_at c (parent (plan_lists plan) x)).heads (place_of plan.entries x)

unfoldable pub entry_demand : PlanData → Carried → ℕ → List ℤ
entry_demand plan c x = child_demand (cache_at c (parent (plan_lists plan) x)) (place_of plan.entries x)

-- the message that came last, none if there is none
abbrev pub last_price : List PriceUpdate → Option PriceUpdate
last_price [] = None
last_price (price ∷ rest) = later rest price
  where
    later : List PriceUpdate → PriceUpdate → Option PriceUpdate
    later [] price = Some price
    later (next ∷ rest) price = later rest next

-- what a device takes by its held price and its parent's entry of it
abbrev pub carried_power : Option Held → List ℤ → ℤ
carried_power None demand = pos 0
carried_power (Some price) demand = demand_at demand price.step

-- ---- the end

-- a device that is joined
abbrev pub is_port_joined : PlanData → Carried → ℕ → Bool
is_port_joined plan c d = is_leaf plan d && is_some (c.seats d).joined

unfoldable pub carried_member : PlanData → Carried → ℕ → MemberLine
carried_member plan c d = record {
  node = d;
  power = carried_power (held_by (c.seats d)) (entry_demand plan c d);
  number = (entry_head plan c d).number;
}

-- the step below a limited concentrator, by its own sum
abbrev pub carried_step : PlanData → Carried → ℕ → ℕ
carried_step plan c g = local_step (limits_of (node plan g)) c.auctioneer.step (aggregate_of (c.concentrators g).cache)

unfoldable pub carried_limited : PlanData → Carried → ℕ → LimitedLine
carried_limited plan c g = record {
  node = g;
  step = carried_step plan c g;
  total = demand_at (aggregate_of (c.concentrators g).cache) (carried_step plan c g);
}

-- the end that is read of what the nodes hold
unfoldable pub carried_end : PlanData → Carried → EndData
carried_end plan c = record {
  step = c.auctioneer.step;
  price = price_at plan.basis c.auctioneer.step;
  total = demand_at (aggregate_of c.auctioneer.cache) c.auctioneer.step;
  members = map (carried_member plan c) (filter (is_port_joined plan c) (node_numbers plan));
  limited = map (carried_limited plan c) (limited_nodes plan);
}
