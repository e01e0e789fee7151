-- What the code needs in order to tell the power of a device.
use Rattle.std.proofs.Common.{◌≡◌, ◌∙◌, sym, ap, subst, List, ℕ, ℤ, pos, ◌<◌, ◌≤◌, length, Option, Some, None, is_some}
use Rattle.std.proofs.Common.{slice_index_or, arith}
use Rattle.std.proofs.Math.Logic.{∥∥₁_elim}
use Rattle.std.proofs.Props.{props}
use Rattle.std.proofs.lemmas.List.{get_or_read}
use Rattle.pm_tree.specs.Entries.{place_of}
use Rattle.pm_market.specs.Lists.{nodes, parent, IsNode, IsLeaf, IsInner}
use Rattle.pm_market.proofs.Tree.{leaf_node}
use Rattle.pm_session.specs.Ports.{Seat, held_by}
use Rattle.pm_session.specs.declared.price.Held.{Held}
use Rattle.pm_plan.specs.Kept.{IsPlan}
use Rattle.pm_plan.specs.Plans.{PlanData}
use Rattle.pm_plan.specs.Market.{plan_lists}
use Rattle.pm_bid.specs.Bids.{demand_at}
use Rattle.pm_cache.specs.Cache.{Cache, child_demand}
use Rattle.pm_concentrator.specs.Concentrators.{Gathered}
use Rattle.pm_auctioneer.specs.Auctions.{Auction}
use Rattle.pm_stands.specs.Core.{Core, cache_in, seat_at}
use Rattle.pm_stands.proofs.Caches.{cache_inner, gathered_known}
use Rattle.pm_stands.specs.Current.{power_by}
use Rattle.pm_stands.specs.Stands.{Stands}
use Rattle.pm_plan.proofs.MarketLists.{lawful}
use Rattle.pm_stands.proofs.Places.{placed}
use Rattle.pm_stands.proofs.Holding.{held_inside}
use Rattle.pm_cluster.specs.Clusters.{ClusterValue}
use Rattle.pm_cluster.specs.ClusterFields.{core_of, cluster_of, AreClusterFields}
use Rattle.pm_cluster.specs.Ends.{EntryTold, power_by_entry}
use Rattle.pm_cluster.specs.declared.cluster.Cluster.TheInside.{Inside}

-- what the code needs holds of a cluster that stands for some state
pub entry_told : (plan : PlanData) → IsPlan plan → (c : Core) → ∥ Stands plan c ∥₁ → (d : ℕ) → IsLeaf (plan_lists plan) d →
    EntryTold plan c.auctioneer c.concentrators c.ports d
entry_told plan is_plan c stands d leaf = ∥∥₁_elim stands (Prim.hlevel props) (λ st.
    let law = lawful plan is_plan in
    let here : IsNode (plan_lists plan) d = leaf_node (plan_lists plan) law d leaf in
    let y : ℕ = parent (plan_lists plan) d in
    let inner : IsInner (plan_lists plan) y = law.inner d here in
    let le : y ≤ nodes (plan_lists plan) = omega (arith, law.earlier d here, here.1) in
    record {
      here = here;
      port = omega (arith, st.is.shaped.all_ports, here.1);
      above = omega (arith, st.is.shaped.all_concentrators, le);
      place = omega (arith, st.is.shaped.cache_heads y le inner, placed plan is_plan d here);
      steps = st.is.shaped.cache_steps y le inner;
      there = λ some. ap is_some (st.is.shaped.there y (omega arith, le, inner));
      step = λ price holds. held_inside plan c st.state d price is_plan st.is leaf holds;
    })

-- the same of the fields of a cluster whose value has the device
pub told_of : (inside : Inside) (v : ClusterValue) → cluster_of inside ≡ v → AreClusterFields inside → (d : ℕ) → IsLeaf (plan_lists v.plan) d →
    EntryTold inside.plan.now inside.auctioneer inside.concentrators.items inside.ports.items d
told_of inside v view_is kept d leaf =
    entry_told inside.plan.now kept.is_plan (core_of inside) kept.stands d (subst (λ (w : ClusterValue). IsLeaf (plan_lists w.plan) d) (sym view_is) leaf)

-- the power of a device by the entry that was read
pub power_told : (plan : PlanData) (auctioneer : Auction) (concentrators : List (Option Gathered)) (ports : List Seat) (d y k : ℕ)
    (price : Held) (cache : Cache) (value : ℤ) →
    held_by (seat_at ports d) ≡ Some price → y ≡ parent (plan_lists plan) d → k ≡ place_of plan.entries d →
    cache ≡ cache_in auctioneer concentrators y →
    value ≡ demand_at (child_demand cache k) price.step → value ≡ power_by_entry plan auctioneer concentrators ports d
power_told plan auctioneer concentrators ports d y k price cache value holds above place is value_is =
    value_is ∙ ap (λ (q : Cache). demand_at (child_demand q k) price.step) is
    ∙ ap (λ (i : ℕ). demand_at (child_demand (cache_in auctioneer concentrators y) i) price.step) place
    ∙ ap (λ (i : ℕ). demand_at (child_demand (cache_in auctioneer concentrators i) (place_of plan.entries d)) price.step) above
    ∙ sym (ap (λ (h : Option Held). power_by h (child_demand (cache_in auctioneer concentrators (parent (plan_lists plan) d))
    (place_of plan.entries d))) holds)

-- a device that holds no price has no power
pub no_power_told : (plan : PlanData) (auctioneer : Auction) (concentrators : List (Option Gathered)) (ports : List Seat) (d : ℕ) →
    held_by (seat_at ports d) ≡ None → pos 0 ≡ power_by_entry plan auctioneer concentrators ports d
no_power_told plan auctioneer concentrators ports d none =
    sym (ap (λ (h : Option Held). power_by h (child_demand (cache_in auctioneer concentrators (parent (plan_lists plan) d)) (place_of plan.entries d))) none)

-- the concentrator that was read
pub concentrator_read : (concentrators : List (Option Gathered)) (y : ℕ) (here : Option Gathered) → y < length concentrators →
    here ≡ slice_index_or concentrators y here →
    slice_index_or concentrators y None ≡ here
concentrator_read concentrators y here inside is = sym (get_or_read concentrators y here inside is None)

-- the cache of the concentrator read in place y is the cache of node y, where y is not the auctioneer
pub cache_read : (auctioneer : Auction) (concentrators : List (Option Gathered)) (y : ℕ) (here : Option Gathered) (g : Gathered)
    (cache : Cache) → y < length concentrators →
    here ≡ slice_index_or concentrators y here → here ≡ Some g → (y ≡ 0 → ⊥) → cache ≡ g.cache →
    cache ≡ cache_in auctioneer concentrators y
cache_read auctioneer concentrators y here g cache inside is some inner cache_is =
    cache_is ∙ ap (λ (q : Gathered). q.cache) (sym (gathered_known concentrators y g (concentrator_read concentrators y here inside is ∙ some)))
    ∙ sym (cache_inner auctioneer concentrators y inner)
