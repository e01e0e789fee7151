-- What the fields of an agent stand for, and what they keep.
use Rattle.std.specs.Prelude.{◌+◌, ◌≤◌, vec_capacity}
use Rattle.pm_base.specs.Limits.{window_size}
use Rattle.pm_net.specs.Agents.{DeviceAgent}
use Rattle.pm_net.specs.Devices.{IsOfferWindow}
use Rattle.pm_control.specs.declared.agent.ControlAgent.TheInside.{Inside}

abbrev pub agent_of : Inside → DeviceAgent
agent_of inside = record {
  number = inside.number;
  answered = inside.answered;
  offers = inside.offers.items;
  index = inside.index;
}

-- no number from the one answered on is lacking, and there is room for one offer more than may be unanswered
pub record AreAgentFields (inside : Inside) : Type 0 where
  pub window : IsOfferWindow (agent_of inside)
  pub order : inside.answered ≤ inside.number
  pub room : window_size + 1 ≤ vec_capacity inside.offers
