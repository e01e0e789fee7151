-- What a cluster keeps, through a move.
use Rattle.std.proofs.Common.{◌≡◌, ◌∙◌, sym, ap, subst, ℕ, ◌+◌, ◌<◌, ◌≤◌, is_some, length, arith}
use Rattle.std.proofs.lemmas.List.{length-map}
use Rattle.std.proofs.Math.Logic.{∥∥₁_map, ∥∥₁_elim}
use Rattle.std.proofs.Props.{props}
use Rattle.pm_tree.specs.Entries.{children_of}
use Rattle.pm_market.specs.Lists.{nodes, parent, IsNode, IsLeaf, IsInner, IsConcentrator}
use Rattle.pm_market.specs.State.{State}
use Rattle.pm_market.specs.Moves.{step}
use Rattle.pm_market.specs.declared.moves.Move.{Move}
use Rattle.pm_market.proofs.Tree.{leaf_node}
use Rattle.pm_plan.specs.Kept.{IsPlan}
use Rattle.pm_plan.specs.Plans.{PlanData}
use Rattle.pm_plan.specs.Market.{plan_lists}
use Rattle.pm_stands.specs.Core.{Core}
use Rattle.pm_stands.specs.Stands.{StandsFor, Stands, MakesMove}
use Rattle.pm_plan.proofs.MarketLists.{lawful}
use Rattle.pm_cluster.specs.Clusters.{ClusterValue}
use Rattle.pm_cluster.specs.ClusterFields.{AreClusterFields, HasPlaces, core_of, cluster_of}
use Rattle.pm_cluster.specs.Parts.{HasConcentrator, HasParent, HasLinkAt}
use Rattle.pm_cluster.specs.declared.cluster.Cluster.TheInside.{Inside}

-- a cluster that stands for some state has all the places that the code reads
pub places_of : (plan : PlanData) (c : Core) → ∥ Stands plan c ∥₁ → HasPlaces plan c
places_of plan c stands = ∥∥₁_elim stands (Prim.hlevel props) (λ st. record {
  all_counts = st.is.shaped.all_counts;
  all_states = st.is.shaped.all_states;
  all_powers = st.is.shaped.all_powers;
  all_links = st.is.shaped.all_links;
  all_concentrators = st.is.shaped.all_concentrators;
  all_ports = st.is.shaped.all_ports;
  rows = st.is.shaped.rows;
  link_steps = st.is.shaped.link_steps;
  there = λ y conc. ap is_some (st.is.shaped.there y conc);
})

-- a parent has its place, and if it is not the auctioneer its concentrator
pub parent_there : (plan : PlanData) → IsPlan plan → (c : Core) → HasPlaces plan c → (x y : ℕ) → IsNode (plan_lists plan) x →
    y ≡ parent (plan_lists plan) x → y ≤ nodes (plan_lists plan) → HasParent c.concentrators y
parent_there plan is_plan c places x y node e inside = record {
  parent = omega (arith, inside, places.all_concentrators);
  there = λ ne. places.there y (omega arith, inside, subst (λ (i : ℕ). IsInner (plan_lists plan) i) (sym e) ((lawful plan is_plan).inner x node));
}

-- a concentrator has its place, and is there
pub concentrator_there : (plan : PlanData) (c : Core) → HasPlaces plan c → (x : ℕ) → IsConcentrator (plan_lists plan) x →
    HasConcentrator c.concentrators x
concentrator_there plan c places x conc = record { node = omega (arith, conc.1, places.all_concentrators); there = places.there x conc }

-- the link of a node to its parent has its place
pub link_there : (old : Inside) → HasPlaces old.plan.now (core_of old) → (x y k : ℕ) → y ≡ parent (plan_lists old.plan.now) x →
    y ≤ nodes (plan_lists old.plan.now) → k < length (children_of old.plan.now.entries (parent (plan_lists old.plan.now) x)) →
    HasLinkAt old.links.items y k
link_there old places x y k e inside within = record {
  parent = omega (arith, inside, places.all_links, length-map old.links.items (λ row. row.items));
  place = omega (arith, within, places.rows y inside, ap (λ (i : ℕ). length (children_of old.plan.now.entries i)) e);
}

-- a cluster stands for the state after a move that was made
pub stands_after : (plan : PlanData) (c new : Core) (m : Move) → ((s : State) → StandsFor plan c s → MakesMove plan new s m) →
    ∥ Stands plan c ∥₁ → ∥ Stands plan new ∥₁
stands_after plan c new m makes stands =
    ∥∥₁_map stands (λ st. record { state = step (plan_lists plan) st.state m; is = (makes st.state st.is).stands })

-- a cluster after a move that changes its links and the ends of links alone
abbrev pub sent : Inside → Inside → Inside
sent old new = record old {
  links = new.links;
  concentrators = new.concentrators;
  auctioneer = new.auctioneer;
  ports = new.ports;
  spare = new.spare;
}

-- what a cluster keeps is kept by a move that changes its links and the ends of links alone, and no length of the spare bid
pub moved : (old new : Inside) (m : Move) → AreClusterFields old → length new.spare ≡ length old.spare →
    ((s : State) → StandsFor old.plan.now (core_of old) s → MakesMove old.plan.now (core_of (sent old new)) s m) →
    AreClusterFields (sent old new)
moved old new m kept same_length makes =
    let now = stands_after old.plan.now (core_of old) (core_of (sent old new)) m makes kept.stands in
    record {
      is_plan = kept.is_plan;
      places = places_of _ _ now;
      same_members = kept.same_members;
      members = kept.members;
      same_due = kept.same_due;
      due = kept.due;
      spare = same_length ∙ kept.spare;
      stands = now;
    }

-- what holds of the plan of the value holds of the plan of the fields
pub of_fields : (inside : Inside) (v : ClusterValue) → cluster_of inside ≡ v → (P : PlanData → Type 0) → P v.plan → P inside.plan.now
of_fields inside v is P h = subst (λ (v : ClusterValue). P v.plan) (sym is) h

-- what holds of each state that the fields stand for holds of each that the value stands for
pub of_value : (inside : Inside) (v : ClusterValue) → cluster_of inside ≡ v → (P : PlanData → State → Type 0) →
    ((s : State) → StandsFor inside.plan.now (core_of inside) s → P inside.plan.now s) → (s : State) → StandsFor v.plan v.core s → P v.plan s
of_value inside v is P h = subst (λ (v : ClusterValue). (s : State) → StandsFor v.plan v.core s → P v.plan s) is h

-- a device of the value's plan is a node of the fields' plan
pub leaf_is_node : (inside : Inside) (v : ClusterValue) → cluster_of inside ≡ v → IsPlan inside.plan.now → (d : ℕ) →
    IsLeaf (plan_lists v.plan) d → IsNode (plan_lists inside.plan.now) d
leaf_is_node inside v is is_plan d leaf =
    leaf_node (plan_lists inside.plan.now) (lawful inside.plan.now is_plan) d (of_fields inside v is (λ plan. IsLeaf (plan_lists plan) d) leaf)

-- a device of the value is one of the fields' plan
pub leaf_in : (inside : Inside) (v : ClusterValue) (d : ℕ) → cluster_of inside ≡ v → IsLeaf (plan_lists v.plan) d →
    IsLeaf (plan_lists inside.plan.now) d
leaf_in inside v d e leaf = subst (λ (w : ClusterValue). IsLeaf (plan_lists w.plan) d) (sym e) leaf

-- a device has its place in each list
pub leaf_has_place : (plan : PlanData) → IsPlan plan → (d : ℕ) → IsLeaf (plan_lists plan) d → d < nodes (plan_lists plan) + 1
leaf_has_place plan is_plan d leaf = omega (arith, leaf_node (plan_lists plan) (lawful plan is_plan) d leaf)
