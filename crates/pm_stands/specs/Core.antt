-- What a cluster keeps, and where each node's part of it stands.
use Rattle.std.specs.Prelude.{◌≡◌, ℕ, ◌+◌, ◌≤◌, ℤ, if◌then◌else◌, ◌==◌, List, [], length, slice_index_or, Option, Some, None}
use Rattle.pm_base.specs.declared.limits.Limits.{Limits}
use Rattle.pm_tree.specs.Entries.{children_of, place_of}
use Rattle.pm_bid.specs.declared.head.BidHead.{BidHead}
use Rattle.pm_cache.specs.Cache.{Cache, child_demand}
use Rattle.pm_session.specs.Links.{Session}
use Rattle.pm_session.specs.Prices.{head_at, session_at}
use Rattle.pm_session.specs.Ports.{Seat}
use Rattle.pm_concentrator.specs.Concentrators.{Gathered, published_heads}
use Rattle.pm_auctioneer.specs.Auctions.{Auction}
use Rattle.pm_market.specs.Lists.{nodes, parent, IsNode, IsInner, IsConcentrator}
use Rattle.pm_plan.specs.Plans.{PlanData, node, limits_of}
use Rattle.pm_plan.specs.Market.{plan_lists}

-- Counts, states, powers, concentrators and ports by the node, the auctioneer's place first; links by the parent and
-- the child's place among the parent's children, so that a node's links to its children stand in one row. Of the lists
-- only the places of devices, or of concentrators, say anything. States are those after the changes made, and powers
-- those at the end of the phase closed last, in watts.
pub record Core : Type 0 where
  pub counts : List ℕ
  pub states : List ℤ
  pub powers : List ℤ
  pub closed : ℕ
  pub links : List (List Session)
  pub concentrators : List (Option Gathered)
  pub auctioneer : Auction
  pub ports : List Seat

-- ---- of the plan

-- the node in a place among the children of y
abbrev pub child_at : PlanData → ℕ → ℕ → ℕ
child_at plan y k = slice_index_or (children_of plan.entries y) k 0

-- the limits of a node, if it is a limited concentrator
abbrev pub limits_at : PlanData → ℕ → Option Limits
limits_at plan y = limits_of (node plan y)

-- ---- of the cluster

-- the links of y to its children
abbrev pub row_at : List (List Session) → ℕ → List Session
row_at links y = slice_index_or links y []

-- the link of y to the child in place k
unfoldable pub link_at : List (List Session) → ℕ → ℕ → Session
link_at links y k = session_at (row_at links y) k

-- the link of a node to its parent
abbrev pub uplink_of : PlanData → Core → ℕ → Session
uplink_of plan c x = link_at c.links (parent (plan_lists plan) x) (place_of plan.entries x)

-- a concentrator without children, which stands where there is none
abbrev pub no_concentrator : Gathered
no_concentrator = record {
  cache = record { steps = 0; heads = []; demands = [] };
  window = record { children = 0; steps = None; records = []; answered = 0; last = 0 };
  limits = None;
  announced = None;
}

abbrev pub gathered_in : Option Gathered → Gathered
gathered_in None = no_concentrator
gathered_in (Some g) = g

unfoldable pub gathered_at : List (Option Gathered) → ℕ → Gathered
gathered_at concentrators y = gathered_in (slice_index_or concentrators y None)

-- the concentrator of a node
abbrev pub concentrator_of : Core → ℕ → Gathered
concentrator_of c y = gathered_at c.concentrators y

-- the cache of the auctioneer, node 0, or of a concentrator
unfoldable pub cache_in : Auction → List (Option Gathered) → ℕ → Cache
cache_in auctioneer concentrators y = if y == 0 then auctioneer.cache else (gathered_at concentrators y).cache

abbrev pub node_cache : Core → ℕ → Cache
node_cache c y = cache_in c.auctioneer c.concentrators y

-- the entry of a node in the cache of its parent: its head and its demand
abbrev pub head_of_child : PlanData → Core → ℕ → BidHead
head_of_child plan c x = head_at (node_cache c (parent (plan_lists plan) x)).heads (place_of plan.entries x)

abbrev pub demand_of_child : PlanData → Core → ℕ → List ℤ
demand_of_child plan c x = child_demand (node_cache c (parent (plan_lists plan) x)) (place_of plan.entries x)

unfoldable pub seat_at : List Seat → ℕ → Seat
seat_at ports d = slice_index_or ports d (record { joined = None; given = None })

-- the port of a device
abbrev pub seat_of : Core → ℕ → Seat
seat_of c d = seat_at c.ports d

-- each node has its place, each list the length that the plan gives, and each concentrator the plan's limits
pub record IsShaped (plan : PlanData) (c : Core) : Type 0 where
  pub all_counts : length c.counts ≡ nodes (plan_lists plan) + 1
  pub all_states : length c.states ≡ nodes (plan_lists plan) + 1
  pub all_powers : length c.powers ≡ nodes (plan_lists plan) + 1
  pub all_links : length c.links ≡ nodes (plan_lists plan) + 1
  pub all_concentrators : length c.concentrators ≡ nodes (plan_lists plan) + 1
  pub all_ports : length c.ports ≡ nodes (plan_lists plan) + 1
  pub rows : (y : ℕ) → y ≤ nodes (plan_lists plan) → length (row_at c.links y) ≡ length (children_of plan.entries y)
  pub link_steps : (x : ℕ) → IsNode (plan_lists plan) x → (uplink_of plan c x).steps ≡ plan.basis.steps
  pub there : (y : ℕ) → IsConcentrator (plan_lists plan) y → slice_index_or c.concentrators y None ≡ Some (concentrator_of c y)
  pub cache_steps : (y : ℕ) → y ≤ nodes (plan_lists plan) → IsInner (plan_lists plan) y → (node_cache c y).steps ≡ plan.basis.steps
  pub cache_heads : (y : ℕ) → y ≤ nodes (plan_lists plan) → IsInner (plan_lists plan) y →
      length (node_cache c y).heads ≡ length (children_of plan.entries y)
  pub cache_demands : (y : ℕ) → y ≤ nodes (plan_lists plan) → IsInner (plan_lists plan) y →
      length (node_cache c y).demands ≡ length (children_of plan.entries y)
  pub published_count : (y : ℕ) → IsConcentrator (plan_lists plan) y → length (published_heads (concentrator_of c y))
      ≡ length (children_of plan.entries y)
  pub same_limits : (y : ℕ) → IsConcentrator (plan_lists plan) y → (concentrator_of c y).limits ≡ limits_at plan y
