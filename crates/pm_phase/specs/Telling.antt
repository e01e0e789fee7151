-- What a device keeps from turn to turn: each bid that it puts says what the change of its number makes of it.
use Rattle.std.specs.Prelude.{◌≡◌, ℕ, ◌+◌, ◌<◌, ◌≤◌, ℤ, true, false, if◌then◌else◌, List, [], Option, Some, None}
use Rattle.std.specs.Prelude.{All, IfSome, Vec, length, map, slice_get, slice_index_or}
use Rattle.std.specs.declared.alloc.Global.{Global}
use Rattle.pm_phase.specs.declared.ends.UpEnd.{UpEnd}
use Rattle.pm_phase.specs.declared.node.Duty.{Duty}
use Rattle.pm_phase.specs.declared.node.Duty.TheVariants.{Device, Parent}
use Rattle.pm_phase.specs.declared.node.FreeNode.{FreeNode}
use Rattle.pm_cells.specs.Ends.{LinkEnd}
use Rattle.pm_cells.specs.declared.message.UpMessage.{UpMessage}
use Rattle.pm_cells.specs.declared.message.Message.{Message}
use Rattle.pm_cells.specs.declared.message.Message.TheVariants.{Bid, Price}
use Rattle.pm_device.specs.declared.state.Next.{Next}
use Rattle.pm_nodes.specs.DeviceAgents.{IsAgentOf}
use Rattle.pm_base.specs.Cuts.{Cut}
use Rattle.pm_plan.specs.Plans.{PlanData, is_member}
use Rattle.pm_plan.specs.States.{state}
use Rattle.pm_offer.specs.Offers.{device_demand}
use Rattle.pm_session.specs.declared.price.PriceUpdate.{PriceUpdate}
use Rattle.pm_carried.specs.Carried.{last_price}
use Rattle.pm_phase.specs.declared.device.DevicePart.{DevicePart}
pub use Rattle.pm_phase.specs.Messages.{prices_among}
use Rattle.pm_phase.specs.KeepingParents.{IsUpHere, AreDownHere, OverEnd, KeepsParent}
use Rattle.pm_phase.specs.declared.ends.DownEnd.{DownEnd}
use Rattle.pm_cache.specs.Cache.{Cache}

-- the change with number n of a device of the plan
pub record IsPlannedNext (plan : PlanData) (d n : ℕ) (next : Next) : Type 0 where
  pub number : next.number ≡ n
  pub member : next.member ≡ is_member plan d n
  pub state : next.state.0 ≡ state plan d n

-- the changes of a node in a phase; none past the last node
abbrev pub listed_changes : Option (Vec Next Global) → List Next
listed_changes None = []
listed_changes (Some changes) = changes.items

-- the changes of a device that follow its first ones
abbrev pub AreNext : PlanData → ℕ → ℕ → List Next → Type 0
AreNext plan d made changes = (k : ℕ) (next : Next) → slice_get changes k ≡ Some next → IsPlannedNext plan d (made + k + 1) next

-- each device has those changes in the phase that follow the ones it made
abbrev pub AreChanges : PlanData → Cut → List (Vec Next Global) → Type 0
AreChanges plan cut changes = (d : ℕ) → AreNext plan d (cut d) (listed_changes (slice_get changes d))

-- the demand of a device in the bid of change n: none if it is no member then
abbrev pub bid_after : PlanData → ℕ → ℕ → Option (List ℤ)
bid_after plan d n = if is_member plan d n then Some (device_demand plan d n) else None

abbrev pub TellsChange : PlanData → ℕ → UpMessage → Type 0
TellsChange plan d bid = bid.demand ≡ bid_after plan d bid.number

abbrev pub TellsMessage : PlanData → ℕ → Message → Type 0
TellsMessage plan d (Bid bid) = TellsChange plan d bid
TellsMessage plan d (Price price) = Unit {0}

-- a device that made its first changes before the phase, and its end of the link: it is a member as its changes say, and its
-- port is joined then, by one of them; each bid that it put on the link, and the one that waits, tells its change; and the price
-- that came last, if its step is one of the plan's, is the one given; and the numbers taken are the indices of the prices that came
pub record KeepsDevice (plan : PlanData) (d before : ℕ) (device : DevicePart) (end : LinkEnd) : Type 0 where
  pub agent : IsAgentOf plan d device.agent
  pub member : device.member ≡ is_member plan d (before + device.made)
  pub joined : device.member ≡ true → (join : ℕ) × (device.port.joined ≡ Some join) × (join ≤ before + device.made)
  pub left : device.member ≡ false → device.port.joined ≡ None
  pub waits : IfSome device.waiting (TellsChange plan d)
  pub sent : All (TellsMessage plan d) end.known.up.sent
  pub given : (price : PriceUpdate) → last_price (prices_among end.known.down.received) ≡ Some price → price.step < plan.basis.steps →
      device.port.given ≡ Some price
  pub takes : end.known.down.takes ≡ map (λ price. price.index) (prices_among end.known.down.received)

-- what a node keeps: a device with its end of the link as above, one with children as such a node does; any end of a link to a child
-- is of the link above that child
abbrev pub DutyKeeps : PlanData → ℕ → ℕ → Cache → List (Option UpMessage) → List Message → Duty → Option UpEnd → List DownEnd → Type 0
DutyKeeps plan d before was had own (Device device) up downs = OverEnd (KeepsDevice plan d before device) up × AreDownHere plan d downs
DutyKeeps plan d before was had own (Parent parent) up downs = KeepsParent plan d was had own parent up downs

pub record NodeKeeps (plan : PlanData) (before : ℕ) (was : Cache) (had : List (Option UpMessage)) (own : List Message) (node : FreeNode) : Type 0 where
  pub up : IsUpHere node.part.number node.up
  pub duty : DutyKeeps plan node.part.number before was had own node.part.duty node.up node.downs.items

-- after some turns a node still keeps what it kept before them
pub record StepsOn (plan : PlanData) (changes : List (Vec Next Global)) (old new : FreeNode) : Type 0 where
  pub number : new.part.number ≡ old.part.number
  pub keeps : (before : ℕ) (was : Cache) (had : List (Option UpMessage)) (own : List Message) (list : List Next) →
      IfSome (slice_get changes old.part.number) (λ l. l.items ≡ list) → AreNext plan old.part.number before list →
      NodeKeeps plan before was had own old → NodeKeeps plan before was had own new

-- each node of a list does, in its place
pub record AllStepOn (plan : PlanData) (changes : List (Vec Next Global)) (old new : List FreeNode) : Type 0 where
  pub many : length new ≡ length old
  pub each : (k : ℕ) (d : FreeNode) → k < length old → StepsOn plan changes (slice_index_or old k d) (slice_index_or new k d)
