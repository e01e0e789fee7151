-- The auction of a tree by its own definition: any depth, any number of nodes, and limits at every relay, also one below another.
use Rattle.std.specs.Prelude.{◌≡◌, ◌⊎◌, ℕ, zero, suc, ◌<◌, length, ℤ, if◌then◌else◌, ◌==◌, List, Option, Some, None}
use Rattle.pm_base.specs.Cuts.{Cut}
use Rattle.pm_base.specs.Limits.{AreLimits}
use Rattle.pm_base.specs.declared.limits.Limits.{Limits}
use Rattle.pm_bid.specs.Bids.{zeros, pairwise_sum}
use Rattle.pm_bid.specs.Clearing.{clearing_step}
use Rattle.pm_bid.specs.Limited.{NeverBind}
use Rattle.pm_bid.specs.Taken.{announced, settled_step, AreSmall}
use Rattle.pm_market.specs.Lists.{Lists, nodes, parent, is_leaf, IsNode, IsConcentrator}
use Rattle.pm_net.specs.Pricing.{Pricing, LimitsGoByDevices}

-- What a tree's auction is over: how many steps a bid has, the demand of each device under each of its numbers, each relay's
-- limits over a cut, and how what the children of a node have is added up.
pub record TreeDemand : Type 0 where
  pub steps : ℕ
  pub demand : ℕ → ℕ → List ℤ
  pub limits : ℕ → Cut → Option Limits
  pub add : ℕ → (ℕ → List ℤ) → List ℤ

-- under number 0 a device asks for nothing, and power 0 lies within all limits; a sum sees the children alone, and is zeros
-- if they have zeros
pub record IsTreeDemand (lists : Lists) (a : TreeDemand) : Type 0 where
  pub none : (d : ℕ) → a.demand d 0 ≡ zeros a.steps
  pub sums : (y : ℕ) (f g : ℕ → List ℤ) → ((x : ℕ) → IsNode lists x → parent lists x ≡ y → f x ≡ g x) → a.add y f ≡ a.add y g
  pub sums_of_none : (y : ℕ) (f : ℕ → List ℤ) → ((x : ℕ) → IsNode lists x → parent lists x ≡ y → f x ≡ zeros a.steps) →
      a.add y f ≡ zeros a.steps
  pub around : (x : ℕ) (cut : Cut) (l : Limits) → a.limits x cut ≡ Some l → AreLimits l
  pub limits_alike : LimitsGoByDevices lists a.limits

-- one way to add: over those of the nodes 1 to n whose parent is y, in this order
unfoldable pub add_to : Lists → ℕ → ℕ → (ℕ → List ℤ) → ℕ → List ℤ
add_to lists steps y f zero = zeros steps
add_to lists steps y f (suc n) =
    if parent lists (suc n) == y then pairwise_sum (f (suc n)) (add_to lists steps y f n)
    else add_to lists steps y f n

abbrev pub add_below : Lists → ℕ → ℕ → (ℕ → List ℤ) → List ℤ
add_below lists steps y f = add_to lists steps y f (nodes lists)

-- the offer of x, at most so many levels below it looked at: of a device its demand, of a relay what is taken of the sum of
-- its children's offers where it settles
unfoldable pub offer_in : Lists → TreeDemand → Cut → ℕ → ℕ → List ℤ
offer_in lists a cut zero x = zeros a.steps
offer_in lists a cut (suc levels) x =
    if is_leaf lists x then a.demand x (cut x) else announced (a.limits x cut) (a.add x (offer_in lists a cut levels))

-- children have greater numbers, so as many levels as there are nodes, and one, reach every device
unfoldable pub tree_offer : Lists → TreeDemand → ℕ → Cut → List ℤ
tree_offer lists a x cut = offer_in lists a cut (suc (nodes lists)) x

-- the step of x, at most so many levels above it looked at: below the auctioneer the clearing step of the sum of its
-- children's offers, below a relay the relay's step, moved to where it settles for the sum of its children's offers
unfoldable pub step_in : Lists → TreeDemand → Cut → ℕ → ℕ → ℕ
step_in lists a cut zero x = 0
step_in lists a cut (suc levels) x =
    if parent lists x == 0 then clearing_step (a.add 0 (λ z. tree_offer lists a z cut))
    else settled_step (a.limits (parent lists x) cut) (step_in lists a cut levels (parent lists x))
    (a.add (parent lists x) (λ z. tree_offer lists a z cut))

unfoldable pub tree_step : Lists → TreeDemand → Cut → ℕ → ℕ
tree_step lists a cut x = step_in lists a cut (suc (nodes lists)) x

abbrev pub tree_pricing : Lists → TreeDemand → Pricing
tree_pricing lists a = record {
  steps = a.steps;
  demand = a.demand;
  limits = a.limits;
  add = a.add;
  offer = tree_offer lists a;
  local = tree_step lists a;
}

-- ---- limits that never bind

-- limits, if there are some, that a bid may say, and between which each demand of the sum lies that y has of its children, over
-- any cut, with the step of y one of the sum's
abbrev pub NeverBindAt : Pricing → ℕ → Option Limits → Type 0
NeverBindAt p y None = Unit {0}
NeverBindAt p y (Some limits) =
    AreSmall limits × ((cut : Cut) → NeverBind limits (p.add y (λ x. p.offer x cut)))
    × ((cut : Cut) → p.local cut y < length (p.add y (λ x. p.offer x cut)))

-- other limits, which go by devices also, and over each cut are those of the pricing or never bind, as those of the pricing
-- never do there
abbrev pub AreAsGood : Lists → Pricing → (ℕ → Cut → Option Limits) → Type 0
AreAsGood lists p limits =
    LimitsGoByDevices lists limits
    × ((c : ℕ) (cut : Cut) → IsConcentrator lists c →
    (limits c cut ≡ p.limits c cut) ⊎ (NeverBindAt p c (p.limits c cut) × NeverBindAt p c (limits c cut)))

abbrev pub with_limits : Pricing → (ℕ → Cut → Option Limits) → Pricing
with_limits p limits' = record p { limits = limits' }
