-- The service of a device's agent over a stream, and the agent of a system for which it stands.
use Rattle.std.specs.Prelude.{◌≡◌, ◌⊎◌, ℕ, ◌+◌, ◌<◌, ◌≤◌, ◌^◌, nat_lt, true, false, ℤ, List, [], ◌++◌, length, Some, ⊤}
use Rattle.std.specs.List.{AllByRecursion}
use Rattle.pm_market.specs.Lists.{Lists, is_member, changes}
use Rattle.pm_net.specs.Pricing.{Pricing}
use Rattle.pm_net.specs.Messages.{price_message}
use Rattle.pm_net.specs.Agents as agents
use Rattle.pm_net.specs.Agents.{DeviceAgent, may_offer, setpoints_for}
use Rattle.pm_net_plan.specs.Places.{Numbering}
use Rattle.pm_control.specs.Control.{newest_demand}
use Rattle.pm_basis.specs.Prices.{BasisValue}
use Rattle.pm_services.specs.DeviceWrites.{same_basis}
use Rattle.pm_frames.specs.declared.stored.StoredAgent.{StoredAgent}
use Rattle.pm_frames.specs.declared.parent.ParentFrame.TheVariants.{Price, Old}
use Rattle.pm_frames.specs.declared.device.DeviceFrame.{DeviceFrame}
use Rattle.pm_frames.specs.declared.device.DeviceFrame.TheVariants.{Hello, Offer, Kind, Leave, Parent, Resume}
use Rattle.pm_system.specs.System.{System, price_in_channel}
use Rattle.pm_lives.specs.Outputs.{PriceWasSent}
use Rattle.pm_services.specs.Outputs.{Output}
use Rattle.pm_lives.specs.Moves.{FollowsByCalls, lets_none}

-- an index is that of a price that was sent to d, or 0
abbrev pub IsIndexOfSent : System → ℕ → ℕ → Type 0
IsIndexOfSent sys d index = (index ≡ 0) ⊎ ((k : ℕ) × (k < length (sys.prices_sent d)) × ((price_in_channel sys d k).index ≡ index))

-- an agent after Hello stands for device d of the system
pub record AgentStands (sys : System) (d : ℕ) (agent : DeviceAgent) : Type 0 where
  pub agent_is : agent ≡ sys.agents d
  pub held : IsIndexOfSent sys d agent.index
  pub within : AllByRecursion (λ (offer : agents.Offer). offer.number ≤ agent.number) agent.offers

-- what was stored is of the newest number of d, and of a price that it took, or of one before
pub record IsAgentKept (sys : System) (d : ℕ) (stored : StoredAgent) : Type 0 where
  pub number : stored.number ≡ (sys.agents d).number
  pub newest : stored.newest ≡ newest_demand (sys.agents d)
  pub price : IsIndexOfSent sys d stored.index
  pub older : stored.index ≤ (sys.agents d).index

-- ---- what it may be given

-- under this number of d the lists have this offer
pub record IsGivenOffer (lists : Lists) (p : Pricing) (d number : ℕ) (demand : List ℤ) : Type 0 where
  pub has : number ≤ changes lists d
  pub member : is_member lists d number ≡ true
  pub is : demand ≡ p.demand d number

-- under this number the lists have that d is no member
pub record IsGivenLeaving (lists : Lists) (d number : ℕ) : Type 0 where
  pub has : number ≤ changes lists d
  pub absent : is_member lists d number ≡ false

-- What the control asks for is what the lists have under the number that it gets, if it gets one. A price, of the device's basis, was
-- sent to d. After an Old by which its parent let it go, the lists have that it leaves and offers anew.
abbrev pub DeviceMayRead : Lists → Pricing → BasisValue → System → ℕ → DeviceFrame → Type 0
DeviceMayRead lists p own sys d (Hello basis) = ⊤
DeviceMayRead lists p own sys d (Kind named) = ⊤
DeviceMayRead lists p own sys d (Offer form demand) =
    may_offer (sys.agents d) ≡ true → nat_lt ((sys.agents d).number + 5) (2 ^ 32) ≡ true → IsGivenOffer lists p d ((sys.agents d).number + 2) demand
DeviceMayRead lists p own sys d Leave = nat_lt ((sys.agents d).number + 3) (2 ^ 32) ≡ true → IsGivenLeaving lists d ((sys.agents d).number + 2)
DeviceMayRead lists p own sys d (Parent (Price child number index step basis)) =
    (same_basis basis own ≡ true) × PriceWasSent sys d (price_message number index step)
DeviceMayRead lists p own sys d (Parent (Old child kept)) =
    nat_lt (sys.agents d).number kept ≡ true → nat_lt ((sys.agents d).number + 7) (2 ^ 32) ≡ true → (demand : List ℤ) →
    newest_demand (sys.agents d) ≡ Some demand →
    IsGivenLeaving lists d ((sys.agents d).number + 2) × IsGivenOffer lists p d ((sys.agents d).number + 2 + 2) demand
DeviceMayRead lists p own sys d (Resume stored) = ⊥

-- the setpoints that a frame gives
abbrev pub told_of : DeviceAgent → DeviceFrame → List agents.Setpoint
told_of agent (Parent (Price child number index step basis)) = setpoints_for agent (price_message number index step)
told_of agent frame = []

-- its service stands for it again, and its control was given these setpoints
pub record AgentStandsTold (sys : System) (d : ℕ) (after : DeviceAgent) (given : List agents.Setpoint) (t : System) : Type 0 where
  pub stands : AgentStands t d after
  pub told : t.setpoints d ≡ sys.setpoints d ++ given

-- what an agent makes of a frame: some calls of d, after which its service stands for it again
abbrev pub DeviceFollows : Lists → Pricing → Numbering → System → (d : ℕ) → DeviceAgent → List agents.Setpoint →
    List (Output StoredAgent) → Type 0
DeviceFollows lists p numbering sys d after given outs =
    FollowsByCalls lists p numbering lets_none (λ t stored. IsAgentKept t d stored) (λ t. AgentStandsTold sys d after given t) sys d outs
