-- What the fields of a cluster stand for.
use Rattle.std.specs.Prelude.{◌≡◌, ℕ, ◌+◌, ◌<◌, ◌≤◌, map, length, slice_index_or, is_some, None, true, false}
use Rattle.pm_base.specs.Rows.{rows_of}
use Rattle.pm_tree.specs.Entries.{children_of}
use Rattle.pm_market.specs.Lists.{nodes, IsNode, IsLeaf, IsConcentrator}
use Rattle.pm_plan.specs.Plans.{PlanData, phases, end_cut, is_member}
use Rattle.pm_plan.specs.Kept.{IsPlan}
use Rattle.pm_plan.specs.Market.{plan_lists}
use Rattle.pm_stands.specs.Core.{Core, row_at, uplink_of}
use Rattle.pm_stands.specs.Stands.{Stands}
use Rattle.pm_cluster.specs.Clusters.{ClusterValue}
use Rattle.pm_cluster.specs.declared.cluster.Cluster.TheInside.{Inside}

abbrev pub core_of : Inside → Core
core_of inside = record {
  counts = inside.counts.items;
  states = map (λ state. state.0) inside.states.items;
  powers = inside.powers.items;
  closed = inside.closed;
  links = rows_of inside.links.items;
  concentrators = inside.concentrators.items;
  auctioneer = inside.auctioneer;
  ports = inside.ports.items;
}

abbrev pub cluster_of : Inside → ClusterValue
cluster_of inside = record { plan = inside.plan.now; core = core_of inside }

-- the places that the code reads
pub record HasPlaces (plan : PlanData) (c : Core) : Type 0 where
  pub all_counts : length c.counts ≡ nodes (plan_lists plan) + 1
  pub all_states : length c.states ≡ nodes (plan_lists plan) + 1
  pub all_powers : length c.powers ≡ nodes (plan_lists plan) + 1
  pub all_links : length c.links ≡ nodes (plan_lists plan) + 1
  pub all_concentrators : length c.concentrators ≡ nodes (plan_lists plan) + 1
  pub all_ports : length c.ports ≡ nodes (plan_lists plan) + 1
  pub rows : (y : ℕ) → y ≤ nodes (plan_lists plan) → length (row_at c.links y) ≡ length (children_of plan.entries y)
  pub link_steps : (x : ℕ) → IsNode (plan_lists plan) x → (uplink_of plan c x).steps ≡ plan.basis.steps
  pub there : (y : ℕ) → IsConcentrator (plan_lists plan) y → is_some (slice_index_or c.concentrators y None) ≡ true

-- what the fields keep: there is a state of the market that they stand for; who is a member; how many changes are due at
-- the end of the open phase; and a bid to write in
pub record AreClusterFields (inside : Inside) : Type 0 where
  pub is_plan : IsPlan inside.plan.now
  pub places : HasPlaces inside.plan.now (core_of inside)
  pub same_members : length inside.members.items ≡ nodes (plan_lists inside.plan.now) + 1
  pub members : (d : ℕ) → IsLeaf (plan_lists inside.plan.now) d → slice_index_or inside.members.items d false
      ≡ is_member inside.plan.now d (slice_index_or inside.counts.items d 0)
  pub same_due : length inside.due.items ≡ nodes (plan_lists inside.plan.now) + 1
  pub due : inside.closed < phases inside.plan.now → (d : ℕ) → IsLeaf (plan_lists inside.plan.now) d →
      slice_index_or inside.due.items d 0 ≡ end_cut inside.plan.now (inside.closed + 1) d
  pub spare : length inside.spare ≡ inside.plan.now.basis.steps
  pub stands : ∥ Stands inside.plan.now (core_of inside) ∥₁
