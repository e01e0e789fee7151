-- What the fields of a cluster say of a device and of its next change.
use Rattle.std.proofs.Common.{◌≡◌, ◌∙◌, sym, ap, subst, ℕ, ◌+◌, ◌<◌, ℤ, pos, Bool, false, get_or, length, arith}
use Rattle.std.proofs.lemmas.List.{get_or_read, length-map, get_or-map}
use Rattle.std.specs.Prelude.{Some, slice_index_or}
use Rattle.pm_device.specs.declared.kind.Kind.{Kind}
use Rattle.pm_device.specs.declared.state.DeviceState.{DeviceState}
use Rattle.pm_market.specs.Lists.{nodes, IsLeaf}
use Rattle.pm_plan.specs.declared.planned.Planned.{Planned}
use Rattle.pm_plan.specs.Devices.{member_after}
use Rattle.pm_plan.specs.Plans.{node, kind_of, is_member, end_cut}
use Rattle.pm_plan.specs.Auction.{power}
use Rattle.pm_plan.specs.States.{state, changed_state}
use Rattle.pm_plan.specs.Market.{plan_lists}
use Rattle.pm_cluster.specs.Clusters.{ClusterValue}
use Rattle.pm_cluster.specs.ClusterFields.{core_of, cluster_of, AreClusterFields}
use Rattle.pm_cluster.specs.Next.{count_of, IsDueChange}
use Rattle.pm_cluster.specs.declared.cluster.Cluster.TheInside.{Inside}
use Rattle.pm_cluster.proofs.Kept.{leaf_in, leaf_has_place}
use Rattle.pm_cluster.proofs.NextChanges.{member_after_due, state_after_due}

-- a device has its place in each list
pub placed : (inside : Inside) → AreClusterFields inside → (v : ClusterValue) → cluster_of inside ≡ v → (d : ℕ) →
    IsLeaf (plan_lists v.plan) d → d < nodes (plan_lists inside.plan.now) + 1
placed inside kept v is d leaf = leaf_has_place inside.plan.now kept.is_plan d (leaf_in inside v d is leaf)

-- what was read of the counts is how many changes the device made
pub count_read : (inside : Inside) → AreClusterFields inside → (v : ClusterValue) → cluster_of inside ≡ v → (d : ℕ) →
    IsLeaf (plan_lists v.plan) d → (n : ℕ) → n ≡ get_or inside.counts.items d n → n ≡ count_of (core_of inside) d
count_read inside kept v is d leaf n read =
    get_or_read inside.counts.items d n (omega (arith, placed inside kept v is d leaf, kept.places.all_counts)) read 0

-- what was read of the due counts is how many changes the device has up to the end of the open phase
pub due_read : (inside : Inside) → AreClusterFields inside → (v : ClusterValue) → cluster_of inside ≡ v → (d : ℕ) →
    IsLeaf (plan_lists v.plan) d → (n : ℕ) → n ≡ get_or inside.due.items d n → n ≡ get_or inside.due.items d 0
due_read inside kept v is d leaf n read = get_or_read inside.due.items d n (omega (arith, placed inside kept v is d leaf, kept.same_due)) read 0

-- what was read of the states is the state that is kept
pub state_read : (inside : Inside) → AreClusterFields inside → (v : ClusterValue) → cluster_of inside ≡ v → (d : ℕ) →
    IsLeaf (plan_lists v.plan) d → (z : DeviceState) → z ≡ get_or inside.states.items d z → z.0 ≡ slice_index_or (core_of inside).states d (pos 0)
state_read inside kept v is d leaf z read =
    let states = inside.states.items in
    let lt : d < length states =
    omega (arith, placed inside kept v is d leaf, kept.places.all_states, length-map states (λ (y : DeviceState). y.0)) in
    ap (λ (y : DeviceState). y.0) (get_or_read states d z lt read z) ∙ sym (get_or-map (λ (y : DeviceState). y.0) states d z (pos 0) lt)

-- what was read of the members is whether the device is a member
pub member_read : (inside : Inside) → AreClusterFields inside → (v : ClusterValue) → cluster_of inside ≡ v → (d : ℕ) →
    IsLeaf (plan_lists v.plan) d → (member : Bool) → member ≡ get_or inside.members.items d member →
    member ≡ is_member inside.plan.now d (count_of (core_of inside) d)
member_read inside kept v is d leaf member read =
    get_or_read inside.members.items d member (omega (arith, placed inside kept v is d leaf, kept.same_members)) read false
    ∙ kept.members d (leaf_in inside v d is leaf)

-- the change that is due by the value is due by the fields
pub due_in : (inside : Inside) (v : ClusterValue) → cluster_of inside ≡ v → (d : ℕ) (what : Planned) →
    IsDueChange v.plan v.core.closed (count_of v.core) d what → IsDueChange inside.plan.now inside.closed (count_of (core_of inside)) d what
due_in inside v is d what = subst (λ (v : ClusterValue). IsDueChange v.plan v.core.closed (count_of v.core) d what) (sym is)

-- whether a device is a member after the change that is due, where that is what the change makes of it
pub member_made : (inside : Inside) (v : ClusterValue) → cluster_of inside ≡ v → (d : ℕ) (what : Planned) →
    IsDueChange v.plan v.core.closed (count_of v.core) d what → (member : Bool) →
    member ≡ member_after (is_member inside.plan.now d (count_of (core_of inside) d)) what → member ≡ is_member v.plan d (count_of v.core d + 1)
member_made inside v is d what due member made =
    subst (λ (v : ClusterValue). member ≡ is_member v.plan d (count_of v.core d + 1)) is
    (member_after_due inside.plan.now inside.closed (count_of (core_of inside)) d what (due_in inside v is d what due) member made)

-- the state of a device after the change that is due, where that is what the change makes of the state that is kept
pub state_made : (inside : Inside) → AreClusterFields inside → (v : ClusterValue) → cluster_of inside ≡ v → (d : ℕ) (what : Planned) →
    IsLeaf (plan_lists v.plan) d → IsDueChange v.plan v.core.closed (count_of v.core) d what → (z : ℤ) →
    ((kind : Kind) → kind_of (node inside.plan.now d) ≡ Some kind →
    z ≡ changed_state kind (slice_index_or (core_of inside).states d (pos 0)) (power inside.plan.now (state inside.plan.now) (end_cut inside.plan.now
    inside.closed) d) what) →
    z ≡ state v.plan d (count_of v.core d + 1)
state_made inside kept v is d what leaf due z made =
    subst (λ (v : ClusterValue). z ≡ state v.plan d (count_of v.core d + 1)) is
    (state_after_due inside.plan.now kept.is_plan (core_of inside) kept.stands d what (leaf_in inside v d is leaf) (due_in inside v is d what due) z made)
