-- A child's bid on its way into the cache of its parent.
use Rattle.std.specs.Prelude.{◌≡◌, ℕ, ◌<◌, ℤ, pos, ◌+ℤ◌, ◌-ℤ◌, Bool, if◌then◌else◌, nat_le}
use Rattle.std.specs.Prelude.{List, length, All, Option, Some, None}
use Rattle.pm_bid.specs.Bids.{AllWithinLimit, demand_at, zeros}
use Rattle.pm_base.specs.Limits.{demand_limit, sum_limit, IsWithin}
use Rattle.pm_cache.specs.Cache.{Cache, with_bid, with_gone, kept_number, child_demand, aggregate_of, aggregate_with}

-- the demand that a child offers: none is all zeros
abbrev pub demand_of_offer : Cache → Option (List ℤ) → List ℤ
demand_of_offer cache None = zeros cache.steps
demand_of_offer cache (Some bid) = bid

-- the demand of a bid, none if it is gone
abbrev pub bid_demand : Bool → List ℤ → Option (List ℤ)
bid_demand gone demand = if gone then None else Some demand

-- a bid may be learnt: it is a child's, it has the cache's steps, and all entries with it in the
-- child's place sum within the limit
pub record CanLearn (cache : Cache) (child : ℕ) (demand : Option (List ℤ)) : Type 0 where
  pub is_child : child < length cache.heads
  pub equal_lengths : length (demand_of_offer cache demand) ≡ cache.steps
  pub within : AllWithinLimit sum_limit (aggregate_with cache child (demand_of_offer cache demand))

-- the demand that is offered at a step: none is 0
abbrev pub offered_at : Option (List ℤ) → ℕ → ℤ
offered_at None step = pos 0
offered_at (Some bid) step = demand_at bid step

-- at this step the sum, with the demand that is offered in place of the child's, is within the limit
abbrev pub IsWithinAt : Cache → ℕ → Option (List ℤ) → ℕ → Type 0
IsWithinAt cache child demand step =
    IsWithin sum_limit ((demand_at (aggregate_of cache) step -ℤ demand_at (child_demand cache child) step) +ℤ offered_at demand step)

-- the cache with the child's newer bid; none makes the child gone
abbrev pub with_newer_bid : Cache → ℕ → ℕ → Option (List ℤ) → Cache
with_newer_bid cache child number None = with_gone cache child number
with_newer_bid cache child number (Some bid) = with_bid cache child number bid

-- the cache after a bid of that number: a bid that is not newer changes nothing
abbrev pub after_learning : Cache → ℕ → ℕ → Option (List ℤ) → Cache
after_learning cache child number demand = if nat_le number (kept_number cache child) then cache else with_newer_bid cache child number demand

-- each entry is one bid and no sum: within the limit of one demand
abbrev pub HasSingleBids : Cache → Type 0
HasSingleBids cache = All (λ bid. AllWithinLimit demand_limit bid) cache.demands
