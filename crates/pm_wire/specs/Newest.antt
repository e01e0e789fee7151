-- What of a stream of bids counts: of each child its Bid or Gone with the greatest number.
use Rattle.std.specs.Prelude.{◌≡◌, ℕ, ◌-◌, ◌<◌, ◌≤◌, ◌==◌, ℤ, true}
use Rattle.std.specs.Prelude.{false, List, ◌∷◌, ◌++◌, Option, Some, None, if◌then◌else◌}
use Rattle.std.specs.List.{AllByRecursion}
use Rattle.pm_bid.specs.Heads.{nothing_sent}
use Rattle.pm_bid.specs.Bids.{zeros}
use Rattle.pm_cache.specs.Cache.{Cache, child_head, child_demand}
use Rattle.pm_wire.specs.declared.frame.Frame.{Frame}
use Rattle.pm_wire.specs.declared.frame.Frame.TheVariants.{Hello, Bid, Gone, Clear}

-- the number of a Bid or Gone of this child, 0 where the frame is none
abbrev pub number_from : ℕ → Frame → ℕ
number_from child (Hello basis) = 0
number_from child (Bid sender number demand) = if sender == child then number else 0
number_from child (Gone sender number) = if sender == child then number else 0
number_from child Clear = 0

-- the child's Bid of this demand under this number, or its Gone where there is no demand
abbrev pub frame_from : ℕ → ℕ → Option (List ℤ) → Frame
frame_from child number (Some demand) = Bid child number demand
frame_from child number None = Gone child number

-- this Bid or Gone has the greatest number of all that came from the child, and is the first that has it
pub record HasGreatestNumber (child : ℕ) (frames : List Frame) (number : ℕ) (demand : Option (List ℤ)) : Type 0 where
  pub before : List Frame
  pub behind : List Frame
  pub stands : frames ≡ before ++ frame_from child number demand ∷ behind
  pub above : AllByRecursion (λ frame. number_from child frame < number) before
  pub not_below : AllByRecursion (λ frame. number_from child frame ≤ number) behind

-- no Bid and no Gone came from the child
abbrev pub HasNone : ℕ → List Frame → Type 0
HasNone child frames = AllByRecursion (λ frame. number_from child frame ≡ 0) frames

-- this number and demand of the child count in its place among the entries, which count children from 0; a child that is gone demands nothing
abbrev pub DemandCounts : Cache → ℕ → ℕ → Option (List ℤ) → Type 0
DemandCounts cache child number (Some demand) =
    (child_head cache (child - 1) ≡ record { number = number; gone = false }) × (child_demand cache (child - 1) ≡ demand)
DemandCounts cache child number None =
    (child_head cache (child - 1) ≡ record { number = number; gone = true }) × (child_demand cache (child - 1) ≡ zeros cache.steps)

-- the child counts for nothing
abbrev pub NothingCounts : Cache → ℕ → Type 0
NothingCounts cache child = (child_head cache (child - 1) ≡ nothing_sent) × (child_demand cache (child - 1) ≡ zeros cache.steps)
