-- What a control gives its agent and is told by it, in the words of the network's agents.
use Rattle.std.specs.Prelude.{◌≡◌, ℕ, ◌+◌, ◌<◌, ◌≤◌, ◌^◌, ℤ, Bool, true, false, nat_lt, if◌then◌else◌, List, []}
use Rattle.std.specs.Prelude.{◌∷◌, Option, Some, None}
use Rattle.pm_session.specs.declared.price.PriceUpdate.{PriceUpdate}
use Rattle.pm_net.specs.Messages.{PriceMessage, price_message}
use Rattle.pm_net.specs.Agents.{Offer, DeviceAgent, may_offer, after_offer, after_leaving, kept_offer}
use Rattle.pm_net.specs.Agents as agents
use Rattle.pm_control.specs.declared.fault.OfferFault.{OfferFault}
use Rattle.pm_control.specs.declared.fault.OfferFault.TheVariants.{WindowFull, OutOfNumbers}
use Rattle.pm_control.specs.declared.setpoint.Setpoint.{Setpoint}

-- ---- numbers

-- a number for leaving is left, and its parent's behind it
abbrev pub HasNumber : DeviceAgent → Type 0
HasNumber agent = agent.number + 3 < 2 ^ 32

-- a number for an offer is left, and one for leaving behind it, each with its parent's
abbrev pub HasNumbers : DeviceAgent → Type 0
HasNumbers agent = agent.number + 5 < 2 ^ 32

-- when an offer is not taken, and why
abbrev pub NotOffered : DeviceAgent → OfferFault → Type 0
NotOffered agent WindowFull = may_offer agent ≡ false
NotOffered agent OutOfNumbers = (may_offer agent ≡ true) × (HasNumbers agent → ⊥)

-- ---- prices and setpoints

abbrev pub message_of : PriceUpdate → PriceMessage
message_of price = price_message price.number price.index price.step

-- the setpoint that was given, as a list
abbrev pub told_setpoints : Option Setpoint → List agents.Setpoint
told_setpoints None = []
told_setpoints (Some setpoint) = record {
  number = setpoint.number;
  index = setpoint.index;
  step = setpoint.step;
  power = setpoint.power;
} ∷ []

-- ---- restarts

abbrev pub demand_of_kept : Option Offer → Option (List ℤ)
demand_of_kept None = None
demand_of_kept (Some offer) = Some offer.demand

-- the demand of the newest offer, where it is kept: none where the device left
abbrev pub newest_demand : DeviceAgent → Option (List ℤ)
newest_demand agent = demand_of_kept (kept_offer agent agent.number)

-- the offers of an agent that comes back with this one, or with none
abbrev pub offers_stored : ℕ → Option (List ℤ) → List Offer
offers_stored number' None = []
offers_stored number' (Some demand') = record { number = number'; demand = demand' } ∷ []

abbrev pub agent_stored : ℕ → Option (List ℤ) → ℕ → DeviceAgent
agent_stored number' newest index' = record {
  number = number';
  answered = number';
  offers = offers_stored number' newest;
  index = index';
}

-- ---- the parent let the device go

-- a device that offers something leaves, and offers that anew
abbrev pub offered_anew : DeviceAgent → Option (List ℤ) → DeviceAgent
offered_anew agent None = agent
offered_anew agent (Some demand') = after_offer (after_leaving agent) demand'

-- numbers for leaving and for an offer are left, and one for leaving behind them, each with its parent's
abbrev pub HasNumbersAnew : DeviceAgent → Type 0
HasNumbersAnew agent = agent.number + 7 < 2 ^ 32

-- Its parent keeps a number of it. Where that is above the last one which the agent gave, the parent let the device go.
abbrev pub after_old : DeviceAgent → ℕ → DeviceAgent
after_old agent kept =
    if nat_lt agent.number kept
    then (if nat_lt (agent.number + 7) (2 ^ 32) then offered_anew agent (newest_demand agent) else agent)
    else agent
