-- A cluster whose lists are those of an opening was just opened.
use Rattle.std.proofs.Common.{◌≡◌, ◌∙◌, sym, ap, ℕ, ◌+◌, ◌≤◌, pos, List, [], length, get_or, replicate, Option, Some, None, is_some}
use Rattle.std.proofs.Common.{refl, arith, inl, inr}
use Rattle.std.proofs.lemmas.Bool.{cases_eq}
use Rattle.std.proofs.lemmas.List.{length-replicate, get_or-replicate}
use Rattle.pm_bid.specs.Bids.{zeros}
use Rattle.pm_bid.specs.Heads.{nothing_sent}
use Rattle.pm_bid.specs.declared.head.BidHead.{BidHead}
use Rattle.pm_tree.specs.Entries.{children_of, place_of}
use Rattle.pm_market.specs.Lists.{nodes, parent, IsNode, IsLeaf, IsInner, IsConcentrator}
use Rattle.pm_cache.specs.Cache.{Cache, empty_cache}
use Rattle.pm_session.specs.Links.{Session, new_session}
use Rattle.pm_session.specs.Ports.{Seat}
use Rattle.pm_session.specs.Prices.{head_at}
use Rattle.pm_concentrator.specs.Concentrators.{Gathered, IsNewConcentrator, published_heads}
use Rattle.pm_auctioneer.specs.Auctions.{Auction, new_auction}
use Rattle.pm_plan.specs.Kept.{IsPlan}
use Rattle.pm_plan.specs.Plans.{PlanData, node}
use Rattle.pm_plan.specs.States.{state}
use Rattle.pm_plan.specs.Market.{plan_lists}
use Rattle.pm_plan.proofs.DeviceNodes.{start_of-tells}
use Rattle.pm_plan.proofs.StateLaws.{state-start}
use Rattle.pm_stands.specs.Core.{Core, IsShaped, limits_at, link_at, uplink_of, gathered_in, gathered_at, concentrator_of}
use Rattle.pm_stands.specs.Core.{node_cache, head_of_child, demand_of_child, seat_at, seat_of}
use Rattle.pm_stands.specs.Opened.{IsOpened}
use Rattle.pm_plan.proofs.MarketLists.{lawful}
use Rattle.pm_stands.proofs.Places.{placed}
use Rattle.pm_stands.proofs.Caches.{cache_root, cache_inner}
use Rattle.pm_cluster.specs.ClusterFields.{HasPlaces}
use Rattle.pm_cluster.specs.Opening.{AreNewRows, IsNewAt, AreNewConcentrators, AreStarts}
use Rattle.pm_cluster.proofs.Opened.{device_node}

abbrev empty_seat : Seat
empty_seat = record { joined = None; given = None }

-- what opening makes
pub record IsNewCore (plan : PlanData) (c : Core) : Type 0 where
  -- the counts are all 0, one for the auctioneer and one for each node
  pub counts : c.counts ≡ replicate (nodes (plan_lists plan) + 1) 0
  -- there is a state for each node, that of a device before its first change
  pub states : AreStarts plan c.states
  -- there is a power for the auctioneer and one for each node
  pub powers : length c.powers ≡ nodes (plan_lists plan) + 1
  -- no phase is closed
  pub closed : c.closed ≡ 0
  -- the auctioneer and each node have a row of new links, one for each child
  pub links : AreNewRows plan c.links
  -- in the place of each concentrator of the plan stands a new one, and in no other place
  pub concentrators : AreNewConcentrators plan c.concentrators
  -- the auctioneer is new, with the number of its children and the steps of the basis
  pub auctioneer : c.auctioneer ≡ new_auction (length (children_of plan.entries 0)) plan.basis.steps
  -- the ports are all empty, one for the auctioneer and one for each node
  pub ports : c.ports ≡ replicate (nodes (plan_lists plan) + 1) (record { joined = None; given = None })

record IsThere (plan : PlanData) (y : ℕ) (o : Option Gathered) : Type 0 where
  -- the option holds a concentrator
  pub there : o ≡ Some (gathered_in o)
  -- the concentrator is new, with the children and the limits of node y and the steps of the basis
  pub new : IsNewConcentrator (length (children_of plan.entries y)) plan.basis.steps (limits_at plan y) (gathered_in o)

new_there : (plan : PlanData) (y : ℕ) (o : Option Gathered) → IsNewAt plan y o → IsConcentrator (plan_lists plan) y → IsThere plan y o
new_there plan y None new conc = absurd (new conc)
new_there plan y (Some g) new conc = record { there = refl; new = new.1 }

-- The places that the code reads.
pub places_in : (plan : PlanData) (c : Core) → IsShaped plan c → HasPlaces plan c
places_in plan c shaped = record {
  all_counts = shaped.all_counts;
  all_states = shaped.all_states;
  all_powers = shaped.all_powers;
  all_links = shaped.all_links;
  all_concentrators = shaped.all_concentrators;
  all_ports = shaped.all_ports;
  rows = shaped.rows;
  link_steps = shaped.link_steps;
  there = λ y conc. ap is_some (shaped.there y conc);
}

module _ (plan : PlanData) (is_plan : IsPlan plan) (c : Core) (made : IsNewCore plan c) where
  abbrev count : ℕ → ℕ
  count y = length (children_of plan.entries y)

  there : (y : ℕ) → IsConcentrator (plan_lists plan) y → get_or c.concentrators y None ≡ Some (concentrator_of c y)
  unfolding gathered_at
  there y conc = (new_there plan y (get_or c.concentrators y None) (made.concentrators.new y conc.1) conc).there

  new_at : (y : ℕ) → IsConcentrator (plan_lists plan) y → IsNewConcentrator (count y) plan.basis.steps (limits_at plan y) (concentrator_of c y)
  unfolding gathered_at
  new_at y conc = (new_there plan y (get_or c.concentrators y None) (made.concentrators.new y conc.1) conc).new

  new_cache : (y : ℕ) → y ≤ nodes (plan_lists plan) → IsInner (plan_lists plan) y → node_cache c y ≡ empty_cache (count y) plan.basis.steps
  new_cache y inside inner = elim (cases_eq y 0) [
    | inl e ↦ cache_root c.auctioneer c.concentrators y e ∙ ap (λ (a : Auction). a.cache) made.auctioneer
        ∙ ap (λ (i : ℕ). empty_cache (count i) plan.basis.steps) (sym e)
    | inr ne ↦ cache_inner c.auctioneer c.concentrators y ne ∙ (new_at y (omega arith, inside, inner)).cache
  ]

  -- of a node: its parent's cache, and the link to it
  parent_cache : (x : ℕ) → IsNode (plan_lists plan) x →
      node_cache c (parent (plan_lists plan) x) ≡ empty_cache (count (parent (plan_lists plan) x)) plan.basis.steps
  parent_cache x at =
      let law = lawful plan is_plan in
      new_cache (parent (plan_lists plan) x) (omega (arith, at.1, law.earlier x at)) (law.inner x at)

  session_is : (x : ℕ) → IsNode (plan_lists plan) x → uplink_of plan c x ≡ new_session plan.basis.steps
  unfolding link_at
  session_is x at =
      let y : ℕ = parent (plan_lists plan) x in
      let k : ℕ = place_of plan.entries x in
      let inside : y ≤ nodes (plan_lists plan) = omega (arith, at.1, (lawful plan is_plan).earlier x at) in
      ap (λ (row : List Session). get_or row k (new_session 0)) (made.links.new y inside)
      ∙ get_or-replicate (count y) k (new_session plan.basis.steps) (new_session 0) (placed plan is_plan x at)

  head_is : (x : ℕ) → IsNode (plan_lists plan) x → head_of_child plan c x ≡ nothing_sent
  head_is x at =
      let y : ℕ = parent (plan_lists plan) x in
      let k : ℕ = place_of plan.entries x in
      ap (λ (q : Cache). head_at q.heads k) (parent_cache x at) ∙ get_or-replicate (count y) k nothing_sent nothing_sent (placed plan is_plan x at)

  demand_is : (x : ℕ) → IsNode (plan_lists plan) x → demand_of_child plan c x ≡ zeros plan.basis.steps
  demand_is x at =
      let y : ℕ = parent (plan_lists plan) x in
      let k : ℕ = place_of plan.entries x in
      ap (λ (q : Cache). get_or q.demands k []) (parent_cache x at) ∙ get_or-replicate (count y) k (zeros plan.basis.steps) [] (placed plan is_plan x at)

  published_is : (x : ℕ) → IsNode (plan_lists plan) x → IsConcentrator (plan_lists plan) (parent (plan_lists plan) x) →
      head_at (published_heads (concentrator_of c (parent (plan_lists plan) x))) (place_of plan.entries x) ≡ nothing_sent
  published_is x at conc =
      let y : ℕ = parent (plan_lists plan) x in
      let k : ℕ = place_of plan.entries x in
      ap (λ (heads : List BidHead). head_at heads k) (new_at y conc).window.opening
      ∙ get_or-replicate (count y) k nothing_sent nothing_sent (placed plan is_plan x at)

  seat_is : (d : ℕ) → IsLeaf (plan_lists plan) d → seat_of c d ≡ record { joined = None; given = None }
  unfolding seat_at
  seat_is d leaf =
      let at = device_node plan d is_plan leaf in
      ap (λ (l : List Seat). get_or l d empty_seat) made.ports
      ∙ get_or-replicate (nodes (plan_lists plan) + 1) d empty_seat empty_seat (omega (arith, at.1))

  -- in a cluster that opening makes, no device made a change
  pub count_is : (d : ℕ) → IsLeaf (plan_lists plan) d → get_or c.counts d 0 ≡ 0
  count_is d leaf =
      ap (λ (l : List ℕ). get_or l d 0) made.counts
      ∙ get_or-replicate (nodes (plan_lists plan) + 1) d 0 0 (omega (arith, (device_node plan d is_plan leaf).1))

  state_is : (d : ℕ) → IsLeaf (plan_lists plan) d → get_or c.states d (pos 0) ≡ state plan d 0
  state_is d leaf =
      let start = start_of-tells (node plan d) (get_or c.states d (pos 0)) (made.states.starts d leaf) in
      sym start.start_is ∙ sym (state-start plan d start.planned start.is)

  -- a cluster that opening makes has the shape that the plan gives
  pub shaped : IsShaped plan c
  shaped = record {
    all_counts = ap length made.counts ∙ length-replicate (nodes (plan_lists plan) + 1) 0;
    all_states = made.states.one_each;
    all_powers = made.powers;
    all_links = made.links.one_each;
    all_concentrators = made.concentrators.one_each;
    all_ports = ap length made.ports ∙ length-replicate (nodes (plan_lists plan) + 1) empty_seat;
    rows = λ y inside. ap length (made.links.new y inside) ∙ length-replicate (count y) (new_session plan.basis.steps);
    link_steps = λ x at. ap (λ (z : Session). z.steps) (session_is x at);
    there = there;
    cache_steps = λ y inside inner. ap (λ (q : Cache). q.steps) (new_cache y inside inner);
    cache_heads = λ y inside inner. ap (λ (q : Cache). length q.heads) (new_cache y inside inner) ∙ length-replicate (count y) nothing_sent;
    cache_demands = λ y inside inner. ap (λ (q : Cache). length q.demands) (new_cache y inside inner) ∙ length-replicate (count y) (zeros plan.basis.steps);
    published_count = λ y conc. ap length (new_at y conc).window.opening ∙ length-replicate (count y) nothing_sent;
    same_limits = λ y conc. (new_at y conc).limits;
  }

  -- What opening makes is a cluster that was just opened.
  pub opened_core : IsOpened plan c
  opened_core = record {
    shaped = shaped;
    counts = count_is;
    states = state_is;
    closed = made.closed;
    heads = head_is;
    demands = demand_is;
    sessions = session_is;
    answered = λ y conc. (new_at y conc).window.answered;
    sent = λ y conc. (new_at y conc).window.last;
    newest_heads = published_is;
    index = ap (λ (a : Auction). a.index) made.auctioneer;
    auction_step = ap (λ (a : Auction). a.step) made.auctioneer;
    changed = ap (λ (a : Auction). a.changed) made.auctioneer;
    seats = seat_is;
  }
