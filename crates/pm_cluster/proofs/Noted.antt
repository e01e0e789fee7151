-- A cluster after a change of a device was offered on the device's link and noted.
use Rattle.std.proofs.Common.{◌≡◌, ◌∙◌, sym, ap, subst, refl, ℕ, ◌≤◌, ℤ, false, true, Bool}
use Rattle.std.proofs.Common.{List, length, map, get_or, arith}
use Rattle.std.specs.Prelude.{Option, IfSome}
use Rattle.std.proofs.lemmas.List.{length-map, map-set}
use Rattle.std.proofs.Math.ListN.{set, length-set}
use Rattle.pm_base.specs.Rows.{rows_of}
use Rattle.pm_device.specs.declared.kind.Kind.{Kind}
use Rattle.pm_device.specs.declared.state.DeviceState.{DeviceState}
use Rattle.pm_device.specs.declared.state.Next.{Next}
use Rattle.pm_tree.specs.Entries.{place_of}
use Rattle.pm_market.specs.Lists.{nodes, parent, IsNode}
use Rattle.pm_market.specs.State.{State}
use Rattle.pm_market.specs.declared.moves.Move.{Move}
use Rattle.pm_market.specs.declared.moves.Move.TheVariants.{Change}
use Rattle.pm_session.specs.Ports.{Seat}
use Rattle.pm_plan.proofs.MarketLists.{lawful}
use Rattle.pm_plan.specs.Market.{plan_lists}
use Rattle.pm_plan.specs.Plans.{is_member}
use Rattle.pm_offer.specs.Offers.{device_demand}
use Rattle.pm_stands.proofs.Places.{placed as placed_in}
use Rattle.pm_stands.specs.Core.{Core, seat_at}
use Rattle.pm_stands.specs.Stands.{StandsFor, Stands, MakesMove}
use Rattle.pm_stands.specs.Made.{seat_after, changed_core}
use Rattle.pm_cluster.specs.Clusters.{ClusterValue}
use Rattle.pm_cluster.specs.ClusterFields.{AreClusterFields, core_of, cluster_of}
use Rattle.pm_cluster.specs.Offering.{IsFollowed, IsPlannedChange, HasLink, HasNotes, IsOffered, AreNoted, ChangesDevice}
use Rattle.pm_cluster.specs.declared.cluster.Cluster.TheInside.{Inside}
use Rattle.pm_cluster.proofs.Parents.{leaf_inside}
use Rattle.pm_cluster.proofs.Kept.{leaf_has_place, places_of, of_value}
use Rattle.pm_cluster.proofs.Making.{Written, within_changes, new_number, change_makes, change_stands, members_after}

-- a cluster after a change of a device: the device's link, and what is kept of the device
abbrev pub changed : Inside → Inside → Inside
changed old new = record old {
  counts = new.counts;
  states = new.states;
  members = new.members;
  links = new.links;
  ports = new.ports;
  spare = new.spare;
}

-- the seat of a device after a change
abbrev pub seat_of : Inside → Next → Seat
seat_of old next =
    seat_after (seat_at old.ports.items next.device) (get_or old.members.items next.device false) next.member next.number

-- a change was offered on the device's link and noted
pub record IsNoted (old new : Inside) (next : Next) : Type 0 where
  -- some other bid came in exchange
  pub other : List ℤ
  -- the demand after the change was offered
  pub offered : IsOffered old.plan.now next (rows_of old.links.items) (rows_of new.links.items) other
  -- the change was noted of the device
  pub noted : AreNoted next old.counts.items new.counts.items old.states.items new.states.items
      old.members.items new.members.items old.ports.items new.ports.items
  -- the spare bid has its steps
  pub room : length new.spare ≡ length old.spare

-- a change that follows by what contracts see follows by the fields
pub followed : (old : Inside) (v : ClusterValue) (next : Next) (kind : Kind) → cluster_of old ≡ v → IsFollowed v.plan v.core next kind →
    IsFollowed old.plan.now (core_of old) next kind
followed old v next kind is follows = subst (λ (w : ClusterValue). IsFollowed w.plan w.core next kind) (sym is) follows

-- a change of a device may be offered on its link
pub planned_change : (old : Inside) (next : Next) (kind : Kind) (given : Option (List ℤ)) → AreClusterFields old →
    IsFollowed old.plan.now (core_of old) next kind →
    (next.member ≡ true → IfSome given (λ demand. demand ≡ device_demand old.plan.now next.device next.number)) →
    IsPlannedChange old.plan.now next kind given
planned_change old next kind given kept follows is = record {
  is_plan = kept.is_plan;
  leaf = follows.leaf;
  its_kind = follows.its_kind;
  planned = within_changes old.plan.now (core_of old) next kind follows;
  member = follows.its_next.member;
  state_is = follows.its_next.state;
  demand = is;
}

-- the device is a node
node_is : (old : Inside) (next : Next) (kind : Kind) → AreClusterFields old → IsFollowed old.plan.now (core_of old) next kind →
    IsNode (plan_lists old.plan.now) next.device
node_is old next kind kept follows = leaf_inside old.plan.now kept.is_plan next.device follows.leaf

-- and has its link, where its number is new
pub has_link : (old : Inside) (next : Next) (kind : Kind) (other : List ℤ) → AreClusterFields old →
    IsFollowed old.plan.now (core_of old) next kind → length other ≡ old.plan.now.basis.steps →
    HasLink old.plan.now next (rows_of old.links.items) other
has_link old next kind other kept follows room =
    let plan = old.plan.now in
    let node = node_is old next kind kept follows in
    let lower = (lawful plan kept.is_plan).earlier next.device node in
    let above : parent (plan_lists plan) next.device ≤ nodes (plan_lists plan) = omega (arith, node.1, lower) in
    record {
      row = omega (arith, above, kept.places.all_links, length-map old.links.items (λ row. row.items));
      place = omega (arith, placed_in plan kept.is_plan next.device node, kept.places.rows (parent (plan_lists plan) next.device) above);
      newer = new_number plan kept.is_plan (core_of old) kept.stands next kind follows (parent (plan_lists plan) next.device)
          (place_of plan.entries next.device) refl refl;
      steps = kept.places.link_steps next.device node;
      room = room;
    }

-- a change that follows is of a device that has its places
pub has_notes : (old : Inside) (next : Next) (kind : Kind) → AreClusterFields old → IsFollowed old.plan.now (core_of old) next kind →
    HasNotes next old.counts.items old.states.items old.members.items old.ports.items
has_notes old next kind kept follows =
    let place = leaf_has_place old.plan.now kept.is_plan next.device follows.leaf in
    record {
      count = omega (arith, place, kept.places.all_counts);
      state = omega (arith, place, kept.places.all_states, length-map old.states.items (λ (z : DeviceState). z.0));
      member = omega (arith, place, kept.same_members);
      port = omega (arith, place, kept.places.all_ports);
    }

written : (old new : Inside) (next : Next) (kind : Kind) → AreClusterFields old → IsFollowed old.plan.now (core_of old) next kind →
    IsNoted old new next → Written old.plan.now (core_of old) next (get_or old.members.items next.device false)
    (parent (plan_lists old.plan.now) next.device) (place_of old.plan.now.entries next.device) (rows_of new.links.items) (seat_of old next)
written old new next kind kept follows noted =
    let place = leaf_has_place old.plan.now kept.is_plan next.device follows.leaf in
    record {
      place_counts = omega (arith, place, kept.places.all_counts);
      place_states = omega (arith, place, kept.places.all_states);
      place_ports = omega (arith, place, kept.places.all_ports);
      steps = kept.places.link_steps next.device (node_is old next kind kept follows);
      one = noted.offered.one;
      offered = noted.offered.offered;
      before_is = kept.members next.device follows.leaf;
      seat_is = refl;
    }

-- the core after what was noted
abbrev core_after : Inside → Inside → Next → Core
core_after old new next = changed_core (core_of old) (rows_of new.links.items) (set old.counts.items next.device next.number)
    (set (map (λ (z : DeviceState). z.0) old.states.items) next.device next.state.0) (set old.ports.items next.device (seat_of old next))

core_is : (old new : Inside) (next : Next) → IsNoted old new next → core_after old new next ≡ core_of (changed old new)
core_is old new next noted =
    let links = rows_of new.links.items in
    let state : DeviceState → ℤ = λ z. z.0 in
    let states : map state new.states.items ≡ set (map state old.states.items) next.device next.state.0 =
    ap (map state) noted.noted.states ∙ map-set state old.states.items next.device next.state in
    sym (ap (λ (counts : List ℕ). changed_core (core_of old) links counts (map state new.states.items) new.ports.items) noted.noted.counts
    ∙ ap (λ (z : List ℤ). changed_core (core_of old) links (set old.counts.items next.device next.number) z new.ports.items) states
    ∙ ap (λ (ports : List Seat). changed_core (core_of old) links (set old.counts.items next.device next.number)
    (set (map state old.states.items) next.device next.state.0) ports) noted.noted.ports)

-- so the move was made
pub makes_change : (old new : Inside) (next : Next) (kind : Kind) → AreClusterFields old →
    IsFollowed old.plan.now (core_of old) next kind → IsNoted old new next → (s : State) → StandsFor old.plan.now (core_of old) s →
    MakesMove old.plan.now (core_of (changed old new)) s (Change next.device next.number)
makes_change old new next kind kept follows noted s stands =
    let plan = old.plan.now in
    subst (λ (c : Core). MakesMove plan c s (Change next.device next.number)) (core_is old new next noted)
    (change_makes plan kept.is_plan (core_of old) s stands next kind follows (get_or old.members.items next.device false)
    (parent (plan_lists plan) next.device) (place_of plan.entries next.device) refl refl (rows_of new.links.items) (seat_of old next)
    (written old new next kind kept follows noted))

-- also by what contracts see
pub makes_of : (old new : Inside) (v : ClusterValue) (next : Next) (kind : Kind) (what : Move) → cluster_of old ≡ v →
    AreClusterFields old → IsFollowed old.plan.now (core_of old) next kind → IsNoted old new next →
    what ≡ Change next.device next.number → ChangesDevice next v (cluster_of (changed old new)) what
makes_of old new v next kind what is kept follows noted form = record {
  plan = ap (λ (w : ClusterValue). w.plan) is;
  form = form;
  made = of_value old v is (λ plan s. MakesMove plan (core_of (changed old new)) s what) (λ s stands.
      subst (λ (m : Move). MakesMove old.plan.now (core_of (changed old new)) s m) (sym form)
      (makes_change old new next kind kept follows noted s stands));
}

-- and the cluster keeps what it kept
pub keeps_fields : (old new : Inside) (next : Next) (kind : Kind) → AreClusterFields old →
    IsFollowed old.plan.now (core_of old) next kind → IsNoted old new next → AreClusterFields (changed old new)
keeps_fields old new next kind kept follows noted =
    let plan = old.plan.now in
    let x = next.device in
    let notes = has_notes old next kind kept follows in
    let stands : ∥ Stands plan (core_of (changed old new)) ∥₁ =
    subst (λ (c : Core). ∥ Stands plan c ∥₁) (core_is old new next noted)
    (change_stands plan kept.is_plan (core_of old) kept.stands next kind follows (get_or old.members.items x false)
    (parent (plan_lists plan) x) (place_of plan.entries x) refl refl (rows_of new.links.items) (seat_of old next)
    (written old new next kind kept follows noted)) in
    record {
      is_plan = kept.is_plan;
      places = places_of plan _ stands;
      same_members = ap length noted.noted.members ∙ length-set old.members.items x next.member ∙ kept.same_members;
      members = λ d leaf.
          ap (λ (members : List Bool). get_or members d false) noted.noted.members
          ∙ members_after plan old.members.items old.counts.items x next.number next.member notes.member notes.count
          follows.its_next.member kept.members d leaf
          ∙ ap (λ (counts : List ℕ). is_member plan d (get_or counts d 0)) (sym noted.noted.counts);
      same_due = kept.same_due;
      due = kept.due;
      spare = noted.room ∙ kept.spare;
      stands = stands;
    }
