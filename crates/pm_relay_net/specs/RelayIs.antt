-- A relay's value is what the network has of its node.
use Rattle.std.specs.Prelude.{◌≡◌, ℕ, ◌+◌, ◌-◌, ◌<◌, ◌≤◌, ℤ, if◌then◌else◌, List, [], ◌∷◌, length}
use Rattle.std.specs.Prelude.{replicate, Option, Some, None}
use Rattle.pm_base.specs.Cuts.{Cut}
use Rattle.pm_base.specs.Limits.{most_nodes}
use Rattle.pm_base.specs.declared.limits.Limits.{Limits}
use Rattle.pm_bid.specs.Heads.{nothing_sent}
use Rattle.pm_bid.specs.Taken.{announced}
use Rattle.pm_session.specs.Windows.{Keeps, record_of}
use Rattle.pm_session.specs.Prices.{price_to}
use Rattle.pm_session.specs.declared.price.PriceUpdate.{PriceUpdate}
use Rattle.pm_concentrator.specs.Concentrators.{published_heads}
use Rattle.pm_concentrator.specs.Limited.{settled_step_of_record}
use Rattle.pm_net.specs.Pricing.{Pricing}
use Rattle.pm_net.specs.Messages.{BidMessage, PriceMessage, price_message, numbers_of}
use Rattle.pm_net.specs.Network.{Network}
use Rattle.pm_net_plan.specs.Places.{Numbering, demands_of}
use Rattle.pm_relay.specs.Numbers.{child_number, head_number}
use Rattle.pm_relay.specs.Relays.{RelayValue, newest_bid_number, record_at, limits_of_number, HearsItsRecord}
use Rattle.pm_relay.specs.declared.outcome.PriceOutcome.{PriceOutcome}
use Rattle.pm_relay.specs.declared.outcome.PriceOutcome.TheVariants.{PassedOn}
use Rattle.pm_relay_net.specs.Heads.{heads_of}

-- the sum of what c had heard when it made bid n
abbrev pub recorded_sum : Pricing → Network → ℕ → ℕ → List ℤ
recorded_sum p net c n = p.add c (λ z. (net.records c n z).demand)

-- the parts of a relay's value are those that the network has of node c
pub record MatchesNode (p : Pricing) (numbering : Numbering) (net : Network) (c : ℕ) (r : RelayValue) : Type 0 where
  pub steps : r.gathered.cache.steps ≡ p.steps
  -- its limits are those that the numbers which it heard give; and each number has those that it was made under
  pub limits : r.gathered.limits ≡ p.limits c (numbers_of net.heard)
  pub limited : (limits : Limits) × (p.limits c (numbers_of net.heard) ≡ Some limits)
  pub made_under : (n : ℕ) → Keeps r.gathered.window n →
      limits_of_number r (r.base + n) ≡ p.limits c (numbers_of (net.records c (r.base + n)))
  pub newest_under : limits_of_number r (net.last_number c) ≡ p.limits c (numbers_of (net.records c (net.last_number c)))
  -- what it heard
  pub heads : r.gathered.cache.heads ≡ heads_of numbering c net.heard
  pub demands : r.gathered.cache.demands ≡ demands_of p.steps numbering c (λ z. (net.heard z).demand)
  -- its newest bid, and the children's numbers in it
  pub newest : newest_bid_number r ≡ net.last_number c
  pub children : length r.recorded ≡ most_nodes
  pub recorded : (k : ℕ) → k < most_nodes →
      child_number r.recorded k ≡ head_number (heads_of numbering c (net.records c (net.last_number c))) k
  -- the price that it took last
  pub answered : r.answered ≡ net.answered c
  pub index : r.index ≡ (net.taken c).index
  -- it has the records behind its base, and each is the network's
  pub base : r.base ≡ net.whole_from c - 1
  pub record_heads : (n : ℕ) → Keeps r.gathered.window n →
      (record_of r.gathered.window n).heads ≡ heads_of numbering c (net.records c (r.base + n))
  pub record_sum : (n : ℕ) → Keeps r.gathered.window n →
      (record_of r.gathered.window n).sum ≡ Some (recorded_sum p net c (r.base + n))
  pub opening : r.gathered.window.last ≡ 0 → published_heads r.gathered ≡ replicate most_nodes nothing_sent
  pub window : r.gathered.window.answered ≡ r.answered - r.base
  pub order : r.answered ≤ newest_bid_number r
  -- its demand is that of its newest bid
  pub demand : 1 ≤ r.gathered.window.last →
      r.gathered.announced ≡ Some (announced (p.limits c (numbers_of (net.records c (net.last_number c)))) (recorded_sum p net c (net.last_number c)))

-- the relay is what the network has of node c: a record that it hears it has
pub record RelayIs (p : Pricing) (numbering : Numbering) (net : Network) (c : ℕ) (r : RelayValue) : Type 0 where
  pub matches : MatchesNode p numbering net c r
  pub rebuilt : HearsItsRecord r → ⊥

-- ---- who gives limits

-- the limits of c do not go by the numbers of x
abbrev pub LimitsPassBy : Pricing → ℕ → ℕ → Type 0
LimitsPassBy p c x = (a b : Cut) → ((y : ℕ) → (y ≡ x → ⊥) → a y ≡ b y) → p.limits c a ≡ p.limits c b

-- under this number of x the limits of c are these
abbrev pub GivesLimits : Pricing → ℕ → ℕ → ℕ → Limits → Type 0
GivesLimits p c x n limits = (a : Cut) → a x ≡ n → p.limits c a ≡ Some limits

-- ---- messages as values

-- the demand of a bid, none where the sender is gone
abbrev pub told_demand : BidMessage → Option (List ℤ)
told_demand bid = if bid.gone then None else Some bid.demand

-- a price as a relay is given it
abbrev pub update_of : PriceMessage → PriceUpdate
update_of price = record { step = price.step; number = price.number; index = price.index }

abbrev pub messages_of : Option PriceUpdate → List PriceMessage
messages_of None = []
messages_of (Some price) = price_message price.number price.index price.step ∷ []

-- what goes down to the child in a place for a price, by what the relay did with it
abbrev pub prices_down : RelayValue → PriceUpdate → PriceOutcome → ℕ → List PriceMessage
prices_down r price PassedOn place = messages_of
    (price_to (record_at r price.number).heads
    (settled_step_of_record (limits_of_number r price.number) price.step (record_at r price.number).sum) price.index place)
prices_down r price outcome place = []
