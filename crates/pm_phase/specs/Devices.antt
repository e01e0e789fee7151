-- What a device's part keeps, and what each of its calls does.
use Rattle.std.specs.Prelude.{◌≡◌, ◌+◌, ℤ, Bool, false, nat_lt, IsTrue, if◌then◌else◌, List, Option, Some, None}
use Rattle.pm_agent.specs.Agents.{Agent}
use Rattle.pm_agent.specs.MadeBids.{demand_after_change}
use Rattle.pm_device.specs.Kinds.{state_fits}
use Rattle.pm_device.specs.declared.state.Next.{Next}
use Rattle.pm_plan.specs.Plans.{PlanData}
use Rattle.pm_session.specs.Ports.{Seat}
use Rattle.pm_session.specs.declared.price.PriceUpdate.{PriceUpdate}
use Rattle.pm_phase.specs.declared.device.DevicePart.{DevicePart}

-- a device that made no change: it is no member, was given no price, and no bid waits
abbrev pub new_device : Agent → DevicePart
new_device agent = record {
  agent = agent;
  port = record { joined = None; given = None };
  member = false;
  made = 0;
  waiting = None;
}

-- the change is one of the agent's device, in a state of its kind, and the agent bids over the plan's steps
pub record MayWork (plan : PlanData) (agent : Agent) (next : Next) : Type 0 where
  pub device : next.device ≡ agent.device
  pub steps : agent.steps ≡ plan.basis.steps
  pub fits : IsTrue (state_fits agent.kind next.state.0)

-- a change may be made once the bid before it is put
pub record MayMakeChange (plan : PlanData) (old : DevicePart) (next : Next) : Type 0 where
  pub put : old.waiting ≡ None
  pub works : MayWork plan old.agent next

-- the demand that the bid of a change has: none where the device is no member afterwards
abbrev pub changed_demand : PlanData → Agent → Next → Option (List ℤ)
changed_demand plan agent next =
    if next.member then Some (demand_after_change agent.kind next plan.arrays agent.steps) else None

-- a device that joins is seated by the number of the change, one that leaves has no seat, and else it keeps its seat
abbrev pub seat_after_change : Seat → Bool → Next → Seat
seat_after_change seat was_member next =
    if next.member
    then (if was_member then seat else record seat { joined = Some next.number })
    else (if was_member then record seat { joined = None } else seat)

-- the device made a change: its bid waits, under the number of the change
pub record MakesChange (plan : PlanData) (next : Next) (old new : DevicePart) : Type 0 where
  pub agent : new.agent ≡ old.agent
  pub port : new.port ≡ seat_after_change old.port old.member next
  pub member : new.member ≡ next.member
  pub made : new.made ≡ old.made + 1
  pub waiting : new.waiting ≡ Some (record { number = next.number; demand = changed_demand plan old.agent next })

-- the price was given to the device, if its step is one of the plan's
abbrev pub after_price_is_given : PlanData → DevicePart → PriceUpdate → DevicePart
after_price_is_given plan device price =
    if nat_lt price.step plan.basis.steps then record device { port = record device.port { given = Some price } } else device
