-- What flows: what the devices below a node take together at their own local steps, over one cut.
use Rattle.std.specs.Prelude.{◌≡◌, ℕ, ◌<◌, ◌≤◌, true, ℤ, List, length, Some}
use Rattle.pm_base.specs.Cuts.{Cut}
use Rattle.pm_bid.specs.Bids.{demand_at}
use Rattle.pm_base.specs.declared.limits.Limits.{Limits}
use Rattle.pm_bid.specs.Taken.{CanSay, HasStepWithin}
use Rattle.pm_market.specs.Lists.{Lists, parent, is_below, IsNode, IsLeaf, IsConcentrator}
use Rattle.pm_market.specs.Offers.{sum_on, sum_children}
use Rattle.pm_net.specs.Pricing.{Pricing}

-- what a device takes: the demand of its own bid at its own local step
abbrev pub power_at : Pricing → Cut → ℕ → ℤ
power_at p cut d = demand_at (p.demand d (cut d)) (p.local cut d)

-- what all devices below x take together
abbrev pub power_below : Lists → Pricing → Cut → ℕ → ℤ
power_below lists p cut x = sum_on lists x (power_at p cut)

-- the sum of its children's offers that y has
abbrev pub sum_of_offers : Pricing → Cut → ℕ → List ℤ
sum_of_offers p cut y = p.add y (λ x. p.offer x cut)

-- adding up is adding up: at each step the sum of what the children have
pub record AddsAtEachStep (lists : Lists) (p : Pricing) : Type 0 where
  pub some : 1 ≤ p.steps
  pub one_each : (d n : ℕ) → IsLeaf lists d → length (p.demand d n) ≡ p.steps
  pub long : (y : ℕ) (f : ℕ → List ℤ) → ((x : ℕ) → IsNode lists x → parent lists x ≡ y → length (f x) ≡ p.steps) →
      length (p.add y f) ≡ p.steps
  pub adds : (y k : ℕ) (f : ℕ → List ℤ) → ((x : ℕ) → IsNode lists x → parent lists x ≡ y → length (f x) ≡ p.steps) → k < p.steps →
      demand_at (p.add y f) k ≡ sum_children lists y (λ x. demand_at (f x) k)

-- each relay that is x or stands below it can say in a bid what is taken where it settles
abbrev pub SaysBelow : Lists → Pricing → Cut → ℕ → Type 0
SaysBelow lists p cut x = (c : ℕ) → IsConcentrator lists c → is_below lists x c ≡ true →
    CanSay (p.limits c cut) (p.local cut c) (sum_of_offers p cut c)

-- each of these relays has some step of its sum within its limits
abbrev pub HaveStepsWithin : Lists → Pricing → Cut → ℕ → Type 0
HaveStepsWithin lists p cut x =
    (c : ℕ) (limits : Limits) → IsConcentrator lists c → is_below lists x c ≡ true → p.limits c cut ≡ Some limits →
    HasStepWithin limits (sum_of_offers p cut c)
