-- A network whose devices are agents, and what is to be said of the setpoints that they give.
use Rattle.std.specs.Prelude.{◌≡◌, ◌⊎◌, ◌==◌, ℕ, ◌+◌, ◌<◌, ◌≤◌, ◌&&◌, ◌||◌, not, Bool, true}
use Rattle.std.specs.Prelude.{if◌then◌else◌, pos, List, []}
use Rattle.std.specs.Prelude.{◌∷◌}
use Rattle.std.specs.Prelude.{◌++◌, slice_index_or, length}
use Rattle.std.specs.List.{All, AllPairs, Contains}
use Rattle.pm_base.specs.Limits.{window_size}
use Rattle.pm_market.specs.Lists.{Lists, is_leaf, is_member, IsLeaf}
use Rattle.pm_market.specs.State.{State, update, clearings, cleared_cut}
use Rattle.pm_market.specs.Moves.{LegalFrom, after_from}
use Rattle.pm_market.specs.declared.moves.Move.{Move}
use Rattle.pm_net.specs.Pricing.{Pricing}
use Rattle.pm_net.specs.Network.{Network, start_network, sent_price}
use Rattle.pm_net.specs.Running.{after_bidding}
use Rattle.pm_net.specs.Restarts.{stored_price, device_stopped}
use Rattle.pm_net.specs.Events.{may_bid, network_step, Event, Bids, TakesPrice, Restarts, StopsBidding}
use Rattle.pm_net.specs.Agrees.{NetworkAgrees}
use Rattle.pm_net.specs.Agents.{Offer, Setpoint, DeviceAgent, new_agent, may_offer, after_offer, after_leaving, setpoints_for, after_price}
use Rattle.pm_net.specs.Agents.{after_coming_back}

-- the network, the agents of its devices, and every setpoint that each was ever given, the newest last
pub record Devices : Type 0 where
  pub net : Network
  pub agents : ℕ → DeviceAgent
  pub setpoints : ℕ → List Setpoint

abbrev pub start_devices : Pricing → Devices
start_devices p = record { net = start_network p; agents = λ d. new_agent; setpoints = λ d. [] }

-- Whether the next change of device d is its parent's: that under the number after the one which d gave last. The agent knows
-- nothing of it. A bid of it that is gone is what the parent counts for a device that it lets go; if nobody takes it, it is a
-- bid that was lost.
abbrev pub is_for_parent : Devices → ℕ → Bool
is_for_parent devices d = devices.net.counts d == (devices.agents d).number

-- Any other change n the control makes: it offers its demand, or leaves, as is given for n. It cannot offer if eight offers
-- are unanswered.
abbrev pub may_change : Lists → Devices → ℕ → Bool
may_change lists devices d =
    may_bid lists devices.net d
    && (is_for_parent devices d || (not (is_member lists d (devices.net.counts d + 1)) || may_offer (devices.agents d)))

abbrev pub agent_after_own : Lists → Pricing → ℕ → ℕ → DeviceAgent → DeviceAgent
agent_after_own lists p d n agent =
    if is_member lists d n then after_offer agent (p.demand d n)
    else after_leaving agent

abbrev pub agent_after_change : Lists → Pricing → ℕ → ℕ → DeviceAgent → DeviceAgent
agent_after_change lists p d n agent = if n == agent.number + 1 then agent else agent_after_own lists p d n agent

abbrev pub after_change : Lists → Pricing → Devices → ℕ → Devices
after_change lists p devices d = record devices {
  net = after_bidding lists p devices.net d;
  agents = update devices.agents d (agent_after_change lists p d (devices.net.counts d + 1) (devices.agents d));
}

-- the same, and the device stops before the bid is sent
abbrev pub after_stop : Lists → Pricing → Devices → ℕ → Devices
after_stop lists p devices d = record devices {
  net = device_stopped devices.net d;
  agents = update devices.agents d (agent_after_change lists p d (devices.net.counts d + 1) (devices.agents d));
}

-- device x is given a price
abbrev pub after_given : Devices → ℕ → ℕ → Network → Devices
after_given devices x k net' = record {
  net = net';
  agents = update devices.agents x (after_price (devices.agents x) (sent_price devices.net x k));
  setpoints = update devices.setpoints x (devices.setpoints x ++ setpoints_for (devices.agents x) (sent_price devices.net x k));
}

-- the rest of the network moves
abbrev pub with_network : Devices → Network → Devices
with_network devices net' = record devices { net = net' }

abbrev pub devices_step : Lists → Pricing → Devices → Event → Devices
devices_step lists p devices (Bids d) = if may_change lists devices d then after_change lists p devices d else devices
devices_step lists p devices (TakesPrice x k) =
    if is_leaf lists x
    then after_given devices x k (network_step lists p devices.net (TakesPrice x k))
    else with_network devices (network_step lists p devices.net (TakesPrice x k))
devices_step lists p devices (Restarts y k) = record devices {
  net = network_step lists p devices.net (Restarts y k);
  agents = update devices.agents y (after_coming_back (devices.agents y) (stored_price devices.net y k).index);
}
devices_step lists p devices (StopsBidding x) =
    if is_leaf lists x
    then (if may_change lists devices x then after_stop lists p devices x else devices)
    else with_network devices (network_step lists p devices.net (StopsBidding x))
devices_step lists p devices e = with_network devices (network_step lists p devices.net e)

abbrev pub devices_after : Lists → Pricing → Devices → List Event → Devices
devices_after lists p devices [] = devices
devices_after lists p devices (e ∷ es) = devices_after lists p (devices_step lists p devices e) es

-- ---- what holds

-- A setpoint of d is right: its index is that of a clearing, its number is that of d in the cut of this clearing, under it d
-- is a member, its step is the local one of d over the cut, and its power is what d's bid of the number asks for at the step.
pub record IsRight (lists : Lists) (p : Pricing) (s : State) (d : ℕ) (setpoint : Setpoint) : Type 0 where
  pub cleared_one : 1 ≤ setpoint.index
  pub cleared_by_now : setpoint.index ≤ clearings s
  pub number : setpoint.number ≡ cleared_cut s setpoint.index d
  pub member : is_member lists d setpoint.number ≡ true
  pub step : setpoint.step ≡ p.local (cleared_cut s setpoint.index) d
  pub power : setpoint.power ≡ slice_index_or (p.demand d setpoint.number) setpoint.step (pos 0)

-- an offer that is kept is the bid of its number
pub record IsKeptOffer (lists : Lists) (p : Pricing) (d : ℕ) (offer : Offer) : Type 0 where
  pub demand : offer.demand ≡ p.demand d offer.number
  pub member : is_member lists d offer.number ≡ true

-- n is the last number that an agent gave, or one that it gave before: each second one
pub record IsGivenNumber (number n : ℕ) : Type 0 where
  pub since : ℕ
  pub is : n + (since + since) ≡ number

-- an offer is of the present membership of a device whose agent gave this number last: under each number that the agent gave
-- since, the device is a member
abbrev pub IsOfThisMembership : Lists → ℕ → ℕ → Offer → Type 0
IsOfThisMembership lists d number offer = (n since : ℕ) → n ≡ offer.number + (since + since) → n ≤ number → is_member lists d n ≡ true

-- offers under each second number from a on
abbrev pub AreFrom : ℕ → List Offer → Type 0
AreFrom a [] = Unit {0}
AreFrom a (offer ∷ offers) = (offer.number ≡ a) × AreFrom (a + 2) offers

-- The offers are under all numbers that the agent gave up to the last one, from the one answered or the next: so none after the
-- one answered is lacking. At most 8 are unanswered.
pub record IsOfferWindow (agent : DeviceAgent) : Type 0 where
  pub first : ℕ
  pub are_from : AreFrom first agent.offers
  pub to_last : first + (length agent.offers + length agent.offers) ≡ agent.number + 2
  pub low : agent.answered ≤ first
  pub high : first ≤ agent.answered + 2
  pub few : agent.number < agent.answered + (window_size + window_size) + 2

-- The agent of d, which made so many changes and holds a price of this index. Its last number is even; the last change is that
-- of this number, or the parent's after it.
pub record AgentIs (lists : Lists) (p : Pricing) (d count index : ℕ) (agent : DeviceAgent) : Type 0 where
  pub half : ℕ
  pub even : agent.number ≡ half + half
  pub number : (count ≡ agent.number) ⊎ (count ≡ agent.number + 1)
  pub its_index : agent.index ≡ index
  pub offers : All (IsKeptOffer lists p d) agent.offers
  pub window : IsOfferWindow agent
  -- a member's newest offer is kept
  pub newest : is_member lists d agent.number ≡ true → window.first ≤ agent.number

-- the network stands for a state, the agents are what it has of the devices, and every setpoint ever given is right
pub record DevicesAgree (lists : Lists) (p : Pricing) (devices : Devices) (s : State) : Type 0 where
  pub agrees : NetworkAgrees lists p devices.net s
  pub agents : (d : ℕ) → IsLeaf lists d → AgentIs lists p d (devices.net.counts d) (devices.net.taken d).index (devices.agents d)
  pub setpoints : (d : ℕ) → IsLeaf lists d → All (IsRight lists p s d) (devices.setpoints d)

-- some legal moves from a state lead to one that the devices stand for
pub record DevicesGoOn (lists : Lists) (p : Pricing) (s : State) (devices : Devices) : Type 0 where
  pub moves : List Move
  pub legal : LegalFrom lists s moves
  pub agree : DevicesAgree lists p devices (after_from lists s moves)

-- each setpoint has a greater index than those before it, and none is above that of the last price
pub record SetpointsRise (devices : Devices) (d : ℕ) : Type 0 where
  pub rising : AllPairs (λ (a b : Setpoint). a.index < b.index) (devices.setpoints d)
  pub within : All (λ (a : Setpoint). a.index ≤ (devices.agents d).index) (devices.setpoints d)

-- what is read past the last setpoint
abbrev pub no_setpoint : Setpoint
no_setpoint = record { number = 0; index = 0; step = 0; power = pos 0 }

-- if the price that d holds is for its newest number, and d is a member, a setpoint of its index was given
abbrev pub IsTold : Lists → Devices → ℕ → Type 0
IsTold lists devices d =
    (devices.net.taken d).number ≡ (devices.agents d).number → is_member lists d (devices.agents d).number ≡ true → 0 < (devices.net.taken d).index →
    (k : ℕ) × (k < length (devices.setpoints d)) × ((slice_index_or (devices.setpoints d) k no_setpoint).index ≡ (devices.net.taken d).index)

-- the control of d was told what its newest bid asks for at its local step over the newest bids of all devices
abbrev pub IsToldNow : Pricing → Devices → ℕ → Type 0
IsToldNow p devices d =
    (setpoint : Setpoint) × Contains (devices.setpoints d) setpoint × (setpoint.number ≡ devices.net.counts d)
    × (setpoint.step ≡ p.local devices.net.counts d)
    × (setpoint.power ≡ slice_index_or (p.demand d (devices.net.counts d)) (p.local devices.net.counts d) (pos 0))
