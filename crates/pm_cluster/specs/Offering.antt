-- What is offered to the parent of a device at the device's next change.
use Rattle.std.specs.Prelude.{◌≡◌, ℕ, ◌<◌, ◌≤◌, ℤ, Bool, true, false, not, List, length, slice_index_or, slice_set, Option, Some, IfSome}
use Rattle.pm_device.specs.declared.kind.Kind.{Kind}
use Rattle.pm_device.specs.declared.state.DeviceState.{DeviceState}
use Rattle.pm_device.specs.declared.state.Next.{Next}
use Rattle.pm_tree.specs.Entries.{place_of}
use Rattle.pm_session.specs.Links.{Session, BidOffered, bid_offered}
use Rattle.pm_session.specs.Ports.{Seat}
use Rattle.pm_market.specs.Lists.{parent, IsLeaf}
use Rattle.pm_market.specs.State.{State}
use Rattle.pm_market.specs.declared.moves.Move.{Move}
use Rattle.pm_market.specs.declared.moves.Move.TheVariants.{Change}
use Rattle.pm_plan.specs.Plans.{PlanData, node, kind_of, change_count, is_member}
use Rattle.pm_plan.specs.Kept.{IsPlan}
use Rattle.pm_plan.specs.Market.{plan_lists}
use Rattle.pm_plan.specs.States.{state}
use Rattle.pm_offer.specs.Offers.{device_demand}
use Rattle.pm_stands.specs.Core.{Core, row_at, link_at, seat_at}
use Rattle.pm_stands.specs.Rows.{OneLink}
use Rattle.pm_stands.specs.Made.{seat_after}
use Rattle.pm_stands.specs.Stands.{StandsFor, MakesMove}
use Rattle.pm_cache.specs.Learning.{bid_demand}
use Rattle.pm_cluster.specs.Clusters.{ClusterValue}
use Rattle.pm_cluster.specs.Next.{count_of, IsNext}

-- the link of a device to its parent, among all links
abbrev pub device_link : PlanData → List (List Session) → ℕ → Session
device_link plan links d = link_at links (parent (plan_lists plan) d) (place_of plan.entries d)

-- a change is the next one of a device, and the device is of this kind
pub record IsFollowed (plan : PlanData) (c : Core) (next : Next) (kind : Kind) : Type 0 where
  pub leaf : IsLeaf (plan_lists plan) next.device
  pub its_next : IsNext plan c.closed (count_of c) next.device next
  pub its_kind : kind_of (node plan next.device) ≡ Some kind

-- a change of a device of this kind is what the plan has it be, and a demand that is given for a member is the member's
pub record IsPlannedChange (plan : PlanData) (next : Next) (kind : Kind) (given : Option (List ℤ)) : Type 0 where
  pub is_plan : IsPlan plan
  pub leaf : IsLeaf (plan_lists plan) next.device
  pub its_kind : kind_of (node plan next.device) ≡ Some kind
  pub planned : next.number ≤ change_count plan next.device
  pub member : next.member ≡ is_member plan next.device next.number
  pub state_is : next.state.0 ≡ state plan next.device next.number
  pub demand : next.member ≡ true → IfSome given (λ demand. demand ≡ device_demand plan next.device next.number)

-- a device has its link among the links; a bid under the number of its change is new there, and has as many steps as the
-- link and the spare bid
pub record HasLink (plan : PlanData) (next : Next) (links : List (List Session)) (spare : List ℤ) : Type 0 where
  pub row : parent (plan_lists plan) next.device < length links
  pub place : place_of plan.entries next.device < length (row_at links (parent (plan_lists plan) next.device))
  pub newer : (device_link plan links next.device).up.offered < next.number
  pub steps : (device_link plan links next.device).steps ≡ plan.basis.steps
  pub room : length spare ≡ plan.basis.steps

-- the demand of a device after a change was offered on its link, or that its bid is gone if it is no member; no other
-- link changed, and the spare bid has its steps
pub record IsOffered (plan : PlanData) (next : Next) (old new : List (List Session)) (spare : List ℤ) : Type 0 where
  pub one : OneLink old new (parent (plan_lists plan) next.device) (place_of plan.entries next.device)
  pub offered : BidOffered (device_link plan old next.device) (device_link plan new next.device)
      (bid_offered (device_link plan old next.device).steps next.number
      (bid_demand (not next.member) (device_demand plan next.device next.number)))
  pub room : length spare ≡ plan.basis.steps

-- a device has its place among the counts, the states, the members and the ports
pub record HasNotes (next : Next) (counts : List ℕ) (states : List DeviceState) (members : List Bool) (ports : List Seat) : Type 0 where
  pub count : next.device < length counts
  pub state : next.device < length states
  pub member : next.device < length members
  pub port : next.device < length ports

-- a change was noted of its device: the number, the state, whether the device is a member, and what becomes of its port
pub record AreNoted (next : Next) (old_counts new_counts : List ℕ) (old_states new_states : List DeviceState)
    (old_members new_members : List Bool) (old_ports new_ports : List Seat) : Type 0 where
  pub counts : new_counts ≡ slice_set old_counts next.device next.number
  pub states : new_states ≡ slice_set old_states next.device next.state
  pub members : new_members ≡ slice_set old_members next.device next.member
  pub ports : new_ports ≡ slice_set old_ports next.device
      (seat_after (seat_at old_ports next.device) (slice_index_or old_members next.device false) next.member next.number)

-- a cluster made the change of a device
pub record ChangesDevice (next : Next) (old new : ClusterValue) (what : Move) : Type 0 where
  pub plan : new.plan ≡ old.plan
  pub form : what ≡ Change next.device next.number
  pub made : (s : State) → StandsFor old.plan old.core s → MakesMove old.plan new.core s what
