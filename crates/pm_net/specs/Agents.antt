-- The agent of a device as a value: it gives the offers of the device's own control numbers, and turns prices into setpoints.
use Rattle.std.specs.Prelude.{ℕ, ◌+◌, ◌-◌, Bool, if◌then◌else◌, ◌==◌, nat_lt}
use Rattle.std.specs.Prelude.{nat_le, ℤ, pos, List, [], ◌∷◌, ◌++◌, slice_index_or}
use Rattle.std.specs.Prelude.{Option, Some, None}
use Rattle.std.specs.List.{find, filter}
use Rattle.pm_base.specs.Limits.{window_size}
use Rattle.pm_net.specs.Messages.{PriceMessage}

-- an offer of the device's control under its number: the power that the device would take at each step
pub record Offer : Type 0 where
  pub number : ℕ
  pub demand : List ℤ

-- what the control is told: to take this power, which the offer of this number names at this step, that of clearing `index`
pub record Setpoint : Type 0 where
  pub number : ℕ
  pub index : ℕ
  pub step : ℕ
  pub power : ℤ

-- The number given last; the number answered last, or the one under which the device left, if that is later; the offers
-- since, with that of the number answered, the oldest first; and the index of the last price. A device gives every second
-- number, 2, 4, 6, ..: the one after each of them is its parent's, for the one thing that the device is gone.
pub record DeviceAgent : Type 0 where
  pub number : ℕ
  pub answered : ℕ
  pub offers : List Offer
  pub index : ℕ

abbrev pub new_agent : DeviceAgent
new_agent = record { number = 0; answered = 0; offers = []; index = 0 }

-- ---- what the control does

-- it may make an offer while fewer than 8 are unanswered, and leave at any time
abbrev pub may_offer : DeviceAgent → Bool
may_offer agent = nat_lt (agent.number - agent.answered) (window_size + window_size)

-- an offer gets the second number after the last, under which it is sent and kept
abbrev pub after_offer : DeviceAgent → List ℤ → DeviceAgent
after_offer agent demand' = record agent {
  number = agent.number + 2;
  offers = agent.offers ++ record { number = agent.number + 2; demand = demand' } ∷ [];
}

-- leaving has a number too; no offer before it counts any more
abbrev pub after_leaving : DeviceAgent → DeviceAgent
after_leaving agent = record agent { number = agent.number + 2; answered = agent.number + 2; offers = [] }

-- ---- what a price does

-- the offer that is kept under a number
abbrev pub kept_offer : DeviceAgent → ℕ → Option Offer
kept_offer agent n = find (λ (offer : Offer). offer.number == n) agent.offers

-- the offers that are kept from a number on
abbrev pub offers_from : ℕ → List Offer → List Offer
offers_from n offers = filter (λ (offer : Offer). nat_le n offer.number) offers

-- the setpoint of a price for an offer: the offer's demand at the price's step
abbrev pub setpoint_of : PriceMessage → Offer → Setpoint
setpoint_of price offer = record {
  number = price.number;
  index = price.index;
  step = price.step;
  power = slice_index_or offer.demand price.step (pos 0);
}

abbrev pub setpoints_of : PriceMessage → Option Offer → List Setpoint
setpoints_of price None = []
setpoints_of price (Some offer) = setpoint_of price offer ∷ []

-- a price gives a setpoint if its index is above the last and the offer that it names is kept; an offer of a former
-- membership is not
abbrev pub setpoints_for : DeviceAgent → PriceMessage → List Setpoint
setpoints_for agent price =
    if nat_lt agent.index price.index then setpoints_of price (kept_offer agent price.number)
    else []

-- a later price names the same number or a later one, so the offers before it are let go
abbrev pub answered_by : DeviceAgent → PriceMessage → Option Offer → DeviceAgent
answered_by agent price None = record agent { index = price.index }
answered_by agent price (Some offer) =
    record agent { answered = price.number; offers = offers_from price.number agent.offers; index = price.index }

abbrev pub after_price : DeviceAgent → PriceMessage → DeviceAgent
after_price agent price =
    if nat_lt agent.index price.index then answered_by agent price (kept_offer agent price.number)
    else agent

-- ---- a restart

-- it knows its number, the offer of its newest bid, and an index that it once stored
abbrev pub after_coming_back : DeviceAgent → ℕ → DeviceAgent
after_coming_back agent index' = record agent { answered = agent.number; offers = offers_from agent.number agent.offers; index = index' }
