-- What a device's agent makes of a frame, and the frames with which it answers.
use Rattle.std.specs.Prelude.{ℕ, ◌+◌, ◌^◌, ◌==◌, ◌&&◌, Bool, true, false, nat_lt, if◌then◌else◌, ℤ, List, []}
use Rattle.std.specs.Prelude.{◌∷◌, Option, Some, None}
use Rattle.std.specs.Ordering.{int_eq}
use Rattle.pm_bid.specs.Bids.{zeros}
use Rattle.pm_basis.specs.Prices.{BasisValue}
use Rattle.pm_net.specs.Messages.{BidMessage, PriceMessage, bid_message, price_message}
use Rattle.pm_net.specs.Agents.{Setpoint, DeviceAgent, may_offer, after_offer, after_leaving, setpoints_for, after_price}
use Rattle.pm_control.specs.Control.{newest_demand, agent_stored, after_old}
use Rattle.pm_frames.specs.Answers.{window_full_bytes, out_of_numbers_bytes, dropped_bytes, other_basis_bytes}
use Rattle.pm_frames.specs.Stored.{agent_resume_bytes}
use Rattle.pm_frames.specs.declared.stored.StoredAgent.{StoredAgent}
use Rattle.pm_frames.specs.declared.parent.ParentFrame.TheVariants.{Price, Old}
use Rattle.pm_frames.specs.declared.device.DeviceFrame.{DeviceFrame}
use Rattle.pm_frames.specs.declared.device.DeviceFrame.TheVariants.{Hello, Offer, Kind, Leave, Parent, Resume}
use Rattle.pm_services.specs.Outputs.{Output, Up, Keeps, Tells, Says, outputs_bytes}

-- the bytes of what an agent writes
abbrev pub device_bytes : ℕ → BasisValue → List (Output StoredAgent) → List ℕ
device_bytes child basis outs = outputs_bytes agent_resume_bytes basis child outs

-- ---- the agent after a frame

-- the last of its numbers is left for leaving
abbrev pub after_asking : DeviceAgent → List ℤ → DeviceAgent
after_asking agent demand =
    if may_offer agent then (if nat_lt (agent.number + 5) (2 ^ 32) then after_offer agent demand else agent) else agent

abbrev pub after_asking_to_leave : DeviceAgent → DeviceAgent
after_asking_to_leave agent = if nat_lt (agent.number + 3) (2 ^ 32) then after_leaving agent else agent

-- a price is taken if it is of the device's own basis
abbrev pub same_basis : BasisValue → BasisValue → Bool
same_basis a b = int_eq a.min b.min && int_eq a.max b.max && (a.steps == b.steps)

-- a price is of its own basis
abbrev pub agent_after : DeviceAgent → DeviceFrame → DeviceAgent
agent_after agent (Hello basis) = agent
agent_after agent (Offer form demand) = after_asking agent demand
agent_after agent (Kind named) = agent
agent_after agent Leave = after_asking_to_leave agent
agent_after agent (Parent (Price child number index step basis)) = after_price agent (price_message number index step)
agent_after agent (Parent (Old child kept)) = after_old agent kept
agent_after agent (Resume stored) = agent_stored stored.number stored.newest stored.index

abbrev pub after_price_of : BasisValue → DeviceAgent → PriceMessage → BasisValue → DeviceAgent
after_price_of own agent price basis = if same_basis basis own then after_price agent price else agent

-- ---- what it answers

-- what an agent keeps over a restart
abbrev pub stored_agent : BasisValue → DeviceAgent → StoredAgent
stored_agent basis' agent = record { number = agent.number; index = agent.index; basis = basis'; newest = newest_demand agent }

-- the bid of a number: an offer, or that the device is gone, at each of so many steps
abbrev pub numbered_bid : ℕ → ℕ → Option (List ℤ) → BidMessage
numbered_bid steps number None = bid_message number true (zeros steps)
numbered_bid steps number (Some demand) = bid_message number false demand

-- a new bid, with what is kept over a restart before it
abbrev pub made_outs : BasisValue → DeviceAgent → BidMessage → List (Output StoredAgent)
made_outs own after bid = Keeps (stored_agent own after) ∷ Up bid ∷ []

-- a setpoint with what is kept over a restart after it, or that the price was dropped
abbrev pub told_outs : BasisValue → DeviceAgent → PriceMessage → List Setpoint → List (Output StoredAgent)
told_outs own after price [] = Says (dropped_bytes price.number price.index) ∷ []
told_outs own after price (setpoint ∷ more) = Tells setpoint ∷ Keeps (stored_agent own after) ∷ []

-- a device that comes back sends its newest bid, or its leaving, again, if it gave a number yet
abbrev pub again_outs : ℕ → ℕ → Option (List ℤ) → List (Output StoredAgent)
again_outs steps number (Some demand) = Up (numbered_bid steps number (Some demand)) ∷ []
again_outs steps number None = if number == 0 then [] else Up (numbered_bid steps number None) ∷ []

-- a price of another basis is refused
abbrev pub price_outs_of : BasisValue → DeviceAgent → PriceMessage → BasisValue → List (Output StoredAgent)
price_outs_of own agent price basis =
    if same_basis basis own
    then told_outs own (after_price agent price) price (setpoints_for agent price)
    else Says (other_basis_bytes price.number price.index) ∷ []

abbrev pub offer_outs : ℕ → BasisValue → DeviceAgent → List ℤ → List (Output StoredAgent)
offer_outs steps own agent demand =
    if may_offer agent
    then (if nat_lt (agent.number + 5) (2 ^ 32)
    then made_outs own (after_offer agent demand) (numbered_bid steps (agent.number + 2) (Some demand))
    else Says out_of_numbers_bytes ∷ [])
    else Says window_full_bytes ∷ []

abbrev pub leave_outs : ℕ → BasisValue → DeviceAgent → List (Output StoredAgent)
leave_outs steps own agent =
    if nat_lt (agent.number + 3) (2 ^ 32)
    then made_outs own (after_leaving agent) (numbered_bid steps (agent.number + 2) None)
    else Says out_of_numbers_bytes ∷ []

-- where its parent let it go and it made its offer anew, that is sent
abbrev pub old_outs : ℕ → BasisValue → DeviceAgent → DeviceAgent → List (Output StoredAgent)
old_outs steps own agent after =
    if nat_lt agent.number after.number then made_outs own after (numbered_bid steps after.number (newest_demand after)) else []

-- In a market of so many steps. An offer is answered by its demand, however the control said it. A price is of its own basis.
abbrev pub device_outs : ℕ → BasisValue → DeviceAgent → DeviceFrame → List (Output StoredAgent)
device_outs steps own agent (Hello basis) = []
device_outs steps own agent (Offer form demand) = offer_outs steps own agent demand
device_outs steps own agent (Kind named) = []
device_outs steps own agent Leave = leave_outs steps own agent
device_outs steps own agent (Parent (Price child number index step basis)) =
    told_outs own (after_price agent (price_message number index step)) (price_message number index step)
    (setpoints_for agent (price_message number index step))
device_outs steps own agent (Parent (Old child kept)) = old_outs steps own agent (after_old agent kept)
device_outs steps own agent (Resume stored) = again_outs steps stored.number stored.newest
