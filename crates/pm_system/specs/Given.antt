-- What is given to a system: a tree, demands and limits, and nodes that come up for the first time.
use Rattle.std.specs.Prelude.{◌≡◌, ◌⊎◌, ℕ, false, ℤ, List, [], length, replicate, Some}
use Rattle.pm_base.specs.Cuts.{Cut}
use Rattle.pm_market.specs.State.{no_changes}
use Rattle.pm_base.specs.Limits.{AreSteps, demand_limit, most_nodes}
use Rattle.pm_base.specs.declared.limits.Limits.{Limits}
use Rattle.pm_bid.specs.Bids.{AllWithinLimit, NeverRises, zeros, sum_of}
use Rattle.pm_market.specs.Lists.{Lists, phases, is_member, IsLeaf, IsConcentrator, Lawful}
use Rattle.pm_net.specs.Pricing.{Pricing, GoesByNodes, given_limits, IsChildDevice, HasOneLimit}
use Rattle.pm_net.specs.TreeAuction.{tree_pricing}
use Rattle.pm_net.specs.Agents.{new_agent}
use Rattle.pm_net_plan.specs.Places.{Numbering, IsNumbering, places_in, HasFewChildren, demands_of}
use Rattle.pm_relay.specs.Relays.{AreRelayLimits, RelayComesBack}
use Rattle.pm_relay.specs.Roots.{RootComesBack}
use Rattle.pm_relay_net.specs.Heads.{AddsByPlaces}
use Rattle.pm_system.specs.System.{System}

-- a demand that a bid may have: one for each step, in watts, within the limit of one demand, and never rising with the price
pub record IsDemand (steps : ℕ) (demand : List ℤ) : Type 0 where
  pub one_each : length demand ≡ steps
  pub small : AllWithinLimit demand_limit demand
  pub falls : NeverRises demand

-- A lawful tree with one phase and a place for each node. Its auction goes by nodes and adds by places; each device has a demand
-- under each of its numbers, zeros where it is no member, and each relay has limits.
pub record IsTreeMarket (lists : Lists) (p : Pricing) (numbering : Numbering) : Type 0 where
  pub law : Lawful lists
  pub one_phase : phases lists ≡ 1
  pub by_nodes : GoesByNodes lists p
  pub places : IsNumbering lists numbering
  pub by_places : AddsByPlaces p numbering
  pub steps : AreSteps p.steps
  pub demands : (d n : ℕ) → IsLeaf lists d → IsDemand p.steps (p.demand d n)
  pub absent : (d n : ℕ) → IsLeaf lists d → is_member lists d n ≡ false → p.demand d n ≡ zeros p.steps
  pub limited : (c : ℕ) (cut : Cut) → IsConcentrator lists c → (limits : Limits) × (p.limits c cut ≡ Some limits) × AreRelayLimits limits

-- the auction of a tree over these demands, with these limits at its relays, each under a number of the relay's giver, added by
-- the places of the children
abbrev pub placed_pricing : Lists → ℕ → (ℕ → ℕ → List ℤ) → (ℕ → ℕ → Limits) → (ℕ → ℕ) → Pricing
placed_pricing lists steps' demand' limits' giver = tree_pricing lists (record {
  steps = steps';
  demand = demand';
  limits = given_limits (λ c n. Some (limits' c n)) giver;
  add = λ y f. sum_of steps' (demands_of steps' (places_in lists) y f);
})

-- what it takes for these to be a market: any lawful tree with one phase and at most 256 children a node, any demands, with
-- zeros where a device is no member, and any limits that a relay may have. They may change by the numbers of a device that is the
-- relay's child.
pub record IsGiven (lists : Lists) (steps : ℕ) (demand : ℕ → ℕ → List ℤ) (limits : ℕ → ℕ → Limits) (giver : ℕ → ℕ) : Type 0 where
  pub law : Lawful lists
  pub one_phase : phases lists ≡ 1
  pub few : HasFewChildren lists
  pub are_steps : AreSteps steps
  pub demands : (d n : ℕ) → IsDemand steps (demand d n)
  pub absent : (d n : ℕ) → is_member lists d n ≡ false → demand d n ≡ zeros steps
  pub are_limits : (c n : ℕ) → AreRelayLimits (limits c n)
  pub givers : (c : ℕ) → IsChildDevice lists c (giver c) ⊎ HasOneLimit (λ n. Some (limits c n))

-- each node came up for the first time, and nothing was sent
pub record IsStarted (lists : Lists) (p : Pricing) (sys : System) : Type 0 where
  pub root : RootComesBack p.steps 0 (replicate most_nodes 0) sys.root
  pub relays : (c : ℕ) → IsConcentrator lists c →
      (limits : Limits) × (p.limits c no_changes ≡ Some limits) × RelayComesBack p.steps limits 0 0 0 (replicate most_nodes 0) limits (sys.relays c)
  pub agents : (d : ℕ) → IsLeaf lists d → sys.agents d ≡ new_agent
  pub setpoints : (d : ℕ) → sys.setpoints d ≡ []
  pub bids_sent : (x : ℕ) → sys.bids_sent x ≡ []
  pub prices_sent : (x : ℕ) → sys.prices_sent x ≡ []
