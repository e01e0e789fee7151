-- How the parts of the nodes stand between two phases.
use Rattle.std.specs.Prelude.{◌≡◌, ℕ, ◌+◌, ◌≤◌, ℤ, true, false, List, [], Option, Some, None, IfSome, Contains, All, length, slice_get}
use Rattle.pm_base.specs.Cuts.{Cut}
use Rattle.pm_cache.specs.Cache.{child_demand}
use Rattle.pm_cells.specs.declared.message.UpMessage.{UpMessage}
use Rattle.pm_cells.specs.declared.message.Message.{Message}
use Rattle.pm_nodes.specs.DeviceAgents.{IsAgentOf}
use Rattle.pm_offer.specs.Offers.{device_demand}
use Rattle.pm_plan.specs.Plans.{PlanData, is_member}
use Rattle.pm_plan.specs.Plans as plans
use Rattle.pm_tree.specs.Entries.{place_of}
use Rattle.pm_phase.specs.KeepingParents.{IsShapedMatcher, TellsOwn, TellsBid, TellsBidMessage, learnt_at}
use Rattle.pm_phase.specs.SettledParts.{cache_of_part, kept_in}
use Rattle.pm_phase.specs.Telling.{TellsChange}
use Rattle.pm_phase.specs.TellingParents.{TellsSum}
use Rattle.pm_phase.specs.declared.device.DevicePart.{DevicePart}
use Rattle.pm_phase.specs.declared.matcher.Matcher.{Matcher}
use Rattle.pm_phase.specs.declared.matcher.Matcher.TheVariants.{Concentrator, Auctioneer}
use Rattle.pm_phase.specs.declared.node.Duty.{Duty}
use Rattle.pm_phase.specs.declared.node.Duty.TheVariants.{Device, Parent}
use Rattle.pm_phase.specs.declared.node.NodePart.{NodePart}
use Rattle.pm_phase.specs.declared.parent.ParentPart.{ParentPart}

-- ---- a node

-- a device of the plan that made its first changes: it is a member as they say, and its port is joined then, by one of them; and a
-- bid that waits tells its change
pub record DeviceStands (plan : PlanData) (d before : ℕ) (device : DevicePart) : Type 0 where
  pub agent : IsAgentOf plan d device.agent
  pub member : device.member ≡ is_member plan d before
  pub joined : device.member ≡ true → (join : ℕ) × (device.port.joined ≡ Some join) × (join ≤ before)
  pub left : device.member ≡ false → device.port.joined ≡ None
  pub waits : IfSome device.waiting (TellsChange plan d)

-- a node with children: its records, or its clearing, and a bid that waits tell what they are to
pub record ParentStands (plan : PlanData) (y : ℕ) (parent : ParentPart) : Type 0 where
  pub shaped : IsShapedMatcher plan y parent.matcher
  pub tells : TellsOwn parent.matcher
  pub waits : IfSome parent.waiting (TellsBid parent.matcher)

abbrev pub DutyStands : PlanData → ℕ → ℕ → Duty → Type 0
DutyStands plan x before (Device device) = DeviceStands plan x before device
DutyStands plan x before (Parent parent) = ParentStands plan x parent

-- ---- what the node above has of it

-- the bids that a node learnt last, by the places of its children; none of a device
abbrev pub learnt_of : Duty → List (Option UpMessage)
learnt_of (Device device) = []
learnt_of (Parent parent) = parent.learnt.items

-- the bid that the node above x learnt last from it
pub record HadBid (plan : PlanData) (parts : List NodePart) (x : ℕ) (bid : UpMessage) : Type 0 where
  pub above : NodePart
  pub has : Contains parts above
  pub number : above.number ≡ plans.parent plan x
  pub learnt : learnt_at (learnt_of above.duty) (place_of plan.entries x) ≡ Some bid

-- what that bid tells: a device's its change, a concentrator's the sum of its children
abbrev pub TellsUpward : PlanData → ℕ → Duty → UpMessage → Type 0
TellsUpward plan x (Device device) bid = TellsChange plan x bid
TellsUpward plan x (Parent parent) bid = TellsBid parent.matcher bid

-- what the entry of a node in the cache above it tells, its number and its demand: the same, and number 0 a demand of zeros
abbrev pub TellsSumEntry : Matcher → ℕ → List ℤ → Type 0
TellsSumEntry (Concentrator g) number demand = TellsSum g number demand
TellsSumEntry (Auctioneer a) number demand = Unit {0}

abbrev pub TellsEntry : PlanData → ℕ → Duty → ℕ → List ℤ → Type 0
TellsEntry plan x (Device device) number demand = demand ≡ device_demand plan x number
TellsEntry plan x (Parent parent) number demand = TellsSumEntry parent.matcher number demand

-- these bids of a node with children tell the sum of its children
abbrev pub OwnTells : List Message → Duty → Type 0
OwnTells own (Device device) = Unit {0}
OwnTells own (Parent parent) = All (TellsBidMessage parent.matcher) own

-- the part of a node that made its first changes stands so, with the bid that the node above learnt last, and with these own bids
pub record StandsBefore (plan : PlanData) (parts : List NodePart) (x before : ℕ) (own : List Message) (duty : Duty) : Type 0 where
  pub stands : DutyStands plan x before duty
  pub told : (bid : UpMessage) → HadBid plan parts x bid → TellsUpward plan x duty bid
  pub tells : OwnTells own duty

-- ---- all nodes

-- node x, with what the node above has of it
pub record PartStands (plan : PlanData) (parts : List NodePart) (cut : Cut) (x : ℕ) (part : NodePart) : Type 0 where
  pub number : part.number ≡ x
  pub stands : DutyStands plan x (cut x) part.duty
  pub told : (bid : UpMessage) → HadBid plan parts x bid → TellsUpward plan x part.duty bid
  pub entry : TellsEntry plan x part.duty (kept_in plan parts x)
      (child_demand (cache_of_part (slice_get parts (plans.parent plan x))) (place_of plan.entries x))

-- the parts are those of all nodes of the plan, by their numbers, each device after the changes of a cut
pub record PartsStand (plan : PlanData) (parts : List NodePart) (cut : Cut) : Type 0 where
  pub many : length parts ≡ length plan.entries + 1
  pub each : (x : ℕ) (part : NodePart) → slice_get parts x ≡ Some part → PartStands plan parts cut x part
