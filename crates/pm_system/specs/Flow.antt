-- What flows at one clearing, by the setpoints that were given for it.
use Rattle.std.specs.Prelude.{◌≡◌, ◌⊎◌, ℕ, ◌+◌, ◌<◌, false, ℤ, pos, ◌≤ℤ◌, Some}
use Rattle.std.specs.List.{Contains}
use Rattle.pm_base.specs.Cuts.{Cut}
use Rattle.pm_base.specs.declared.limits.Limits.{Limits}
use Rattle.pm_bid.specs.Bids.{demand_at}
use Rattle.pm_bid.specs.Clearing.{clearing_step}
use Rattle.pm_bid.specs.Taken.{IsWithinLimits, HasStepWithin}
use Rattle.pm_market.specs.Lists.{Lists, is_member, IsLeafOf, IsConcentrator}
use Rattle.pm_market.specs.Offers.{sum_on}
use Rattle.pm_market.specs.State.{State, cleared_cut}
use Rattle.pm_net.specs.Pricing.{Pricing}
use Rattle.pm_net.specs.Agents.{Setpoint}
use Rattle.pm_net.specs.Flow.{sum_of_offers, SaysBelow, HaveStepsWithin}
use Rattle.pm_system.specs.System.{System}
use Rattle.pm_system.specs.Settled.{WasTold}

-- d was given this power for clearing j
pub record WasGiven (sys : System) (j d : ℕ) (power' : ℤ) : Type 0 where
  pub setpoint : Setpoint
  pub given : Contains (sys.setpoints d) setpoint
  pub index : setpoint.index ≡ j
  pub power : setpoint.power ≡ power'

-- each device below x takes what it was given for clearing j, or is no member in its cut and takes nothing
abbrev pub TakeWhatWasGiven : Lists → System → State → ℕ → ℕ → (ℕ → ℤ) → Type 0
TakeWhatWasGiven lists sys s j x power =
    (d : ℕ) → IsLeafOf lists x d →
    WasGiven sys j d (power d) ⊎ ((is_member lists d (cleared_cut s j d) ≡ false) × (power d ≡ pos 0))

-- The powers that the devices below a relay take over a cut add up to what the relay announced in it, at its own local step there,
-- and are within its limits if some step of its sum is. The powers of all devices add up to the auctioneer's total at the clearing
-- step, which is at most 0 unless the last step cleared. For this each relay there can say what is taken where it settles.
pub record FlowsIn (lists : Lists) (p : Pricing) (cut : Cut) (Take : ℕ → (ℕ → ℤ) → Type 0) : Type 0 where
  pub relays : (c : ℕ) (power : ℕ → ℤ) → IsConcentrator lists c → Take c power → SaysBelow lists p cut c →
      sum_on lists c power ≡ demand_at (p.offer c cut) (p.local cut c)
  pub within : (c : ℕ) (power : ℕ → ℤ) (limits : Limits) → IsConcentrator lists c → Take c power → SaysBelow lists p cut c →
      p.limits c cut ≡ Some limits → HasStepWithin limits (sum_of_offers p cut c) → IsWithinLimits limits (sum_on lists c power)
  pub root : (power : ℕ → ℤ) → Take 0 power → SaysBelow lists p cut 0 →
      sum_on lists 0 power ≡ demand_at (sum_of_offers p cut 0) (clearing_step (sum_of_offers p cut 0))
  pub balanced : (power : ℕ → ℤ) → Take 0 power → SaysBelow lists p cut 0 → clearing_step (sum_of_offers p cut 0) + 1 < p.steps →
      sum_on lists 0 power ≤ℤ pos 0

-- so it is of the powers that were given for each clearing; and relays can say what is taken where each has some step of its sum
-- within its limits
pub record FlowsAsCleared (lists : Lists) (p : Pricing) (sys : System) (s : State) : Type 0 where
  pub clearings : (j : ℕ) → FlowsIn lists p (cleared_cut s j) (TakeWhatWasGiven lists sys s j)
  pub says : (cut : Cut) (x : ℕ) → HaveStepsWithin lists p cut x → SaysBelow lists p cut x

-- d takes what it was told for its newest bid, and that is the bid under which its parent counts it
pub record TakesAsTold (p : Pricing) (sys : System) (counted : ℕ → ℕ) (d : ℕ) (power' : ℤ) : Type 0 where
  pub counts : counted d ≡ (sys.agents d).number
  pub told : WasTold p sys counted d
  pub power : power' ≡ told.setpoint.power

-- each device below x takes what it was told so, or is no member under the number by which it counts and takes nothing
abbrev pub TakeWhatWasTold : Lists → Pricing → (ℕ → ℕ) → System → ℕ → (ℕ → ℤ) → Type 0
TakeWhatWasTold lists p counted sys x power =
    (d : ℕ) → IsLeafOf lists x d →
    TakesAsTold p sys counted d (power d) ⊎ ((is_member lists d (counted d) ≡ false) × (power d ≡ pos 0))
