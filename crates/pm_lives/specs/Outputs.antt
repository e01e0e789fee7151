-- That the messages in what a node writes were sent, and what it gives to be stored.
use Rattle.std.specs.Prelude.{◌≡◌, ℕ, ◌<◌, List, ◌∷◌, length, ⊤}
use Rattle.std.specs.List.{AllByRecursion, Contains}
use Rattle.pm_market.specs.Lists.{Lists, parent, IsNode}
use Rattle.pm_net.specs.Pricing.{Pricing}
use Rattle.pm_net.specs.Messages.{BidMessage, PriceMessage}
use Rattle.pm_net_plan.specs.Places.{Numbering}
use Rattle.pm_services.specs.Outputs.{Output, Up, Down, Keeps, Tells, Says}
use Rattle.pm_system.specs.System.{System, price_in_channel}
use Rattle.pm_system.specs.Market.{IsIn}

-- ---- messages that were sent

-- a price was sent to x
abbrev pub PriceWasSent : System → ℕ → PriceMessage → Type 0
PriceWasSent sys x price = (k : ℕ) × (k < length (sys.prices_sent x)) × (price_in_channel sys x k ≡ price)

-- a bid was sent by x
abbrev pub BidWasSent : Pricing → System → ℕ → BidMessage → Type 0
BidWasSent p sys x bid = IsIn p (sys.bids_sent x) bid

-- what y writes was sent in the system: its bid by it, a price to the child in that place, if there is one, and a setpoint to its
-- own control
abbrev pub OutputWasSent : {K : Type 0} → Lists → Pricing → Numbering → System → ℕ → Output K → Type 0
OutputWasSent lists p numbering sys y (Up bid) = BidWasSent p sys y bid
OutputWasSent lists p numbering sys y (Down place price) =
    (x : ℕ) → IsNode lists x → parent lists x ≡ y → numbering.place x ≡ place → PriceWasSent sys x price
OutputWasSent lists p numbering sys y (Keeps stored) = ⊤
OutputWasSent lists p numbering sys y (Tells setpoint) = Contains (sys.setpoints y) setpoint
OutputWasSent lists p numbering sys y (Says bytes) = ⊤

abbrev pub WereSent : {K : Type 0} → Lists → Pricing → Numbering → System → ℕ → List (Output K) → Type 0
WereSent {K = K} lists p numbering sys y outs = AllByRecursion (λ (out : Output K). OutputWasSent lists p numbering sys y out) outs

-- ---- what may be stored

-- each Resume in what is written is one that may be stored
abbrev pub HoldsOfKept : {K : Type 0} → (K → Type 0) → Output K → Type 0
HoldsOfKept MayBeKept (Up bid) = ⊤
HoldsOfKept MayBeKept (Down place price) = ⊤
HoldsOfKept MayBeKept (Keeps stored) = MayBeKept stored
HoldsOfKept MayBeKept (Tells setpoint) = ⊤
HoldsOfKept MayBeKept (Says bytes) = ⊤

abbrev pub EachKept : {K : Type 0} → (K → Type 0) → List (Output K) → Type 0
EachKept MayBeKept outs = AllByRecursion (HoldsOfKept MayBeKept) outs

abbrev pub BeginsWithResume : {K : Type 0} → List (Output K) → Type 0
BeginsWithResume {K = K} outs = (stored : K) × (rest : List (Output K)) × (outs ≡ Keeps stored ∷ rest)
