-- The newest bid of each child of a node, and the sum of these bids.
use Rattle.std.specs.Prelude.{◌≡◌, ℕ, ◌<◌, ◌≤◌, ℤ, true, false, if◌then◌else◌, nat_le, List, [], length, replicate, slice_set}
use Rattle.std.specs.Prelude.{slice_index_or, Result, Ok, Err}
use Rattle.pm_bid.specs.Heads.{nothing_sent}
use Rattle.pm_base.specs.Limits.{AreSteps, most_nodes}
use Rattle.pm_bid.specs.Bids.{zeros, sum_of, HaveSteps}
use Rattle.pm_bid.specs.declared.head.BidHead.{BidHead}
use Rattle.pm_cache.specs.declared.fault.CacheFault.{CacheFault}
use Rattle.pm_cache.specs.declared.fault.CacheFault.TheVariants.{Old}

-- the entries of a cache, one for each child: the head of its newest bid and the demand, which is
-- all zeros if the child is gone; each demand has so many steps
pub record Cache : Type 0 where
  pub steps : ℕ
  pub heads : List BidHead
  pub demands : List (List ℤ)

-- the head of a child
abbrev pub child_head : Cache → ℕ → BidHead
child_head cache child = slice_index_or cache.heads child nothing_sent

-- the number of a child's newest bid, 0 if it sent none
abbrev pub kept_number : Cache → ℕ → ℕ
kept_number cache child = (child_head cache child).number

-- the demand of a child
abbrev pub child_demand : Cache → ℕ → List ℤ
child_demand cache child = slice_index_or cache.demands child []

-- the sum of all entries
abbrev pub aggregate_of : Cache → List ℤ
aggregate_of cache = sum_of cache.steps cache.demands

-- the sum of all entries with this demand in the child's place
abbrev pub aggregate_with : Cache → ℕ → List ℤ → List ℤ
aggregate_with cache child demand = sum_of cache.steps (slice_set cache.demands child demand)

-- a cache whose children sent nothing
abbrev pub empty_cache : ℕ → ℕ → Cache
empty_cache children steps = record {
  steps = steps;
  heads = replicate children nothing_sent;
  demands = replicate children (zeros steps);
}

-- the cache with another entry of a child
abbrev pub with_entry : Cache → ℕ → BidHead → List ℤ → Cache
with_entry cache child head demand = record {
  steps = cache.steps;
  heads = slice_set cache.heads child head;
  demands = slice_set cache.demands child demand;
}

-- the cache with a new bid of a child
abbrev pub with_bid : Cache → ℕ → ℕ → List ℤ → Cache
with_bid cache child number bid = with_entry cache child (record { number = number; gone = false }) bid

-- the cache with a child gone
abbrev pub with_gone : Cache → ℕ → ℕ → Cache
with_gone cache child number = with_entry cache child (record { number = number; gone = true }) (zeros cache.steps)

-- the answer to a bid: a number that is not above the kept one is old
abbrev pub answer_to : ℕ → ℕ → Result (Unit {0}) CacheFault
answer_to kept number = if nat_le number kept then Err (Old kept) else Ok tt

-- what holds of each cache
pub record IsCache (cache : Cache) : Type 0 where
  pub basis : AreSteps cache.steps
  pub few_children : length cache.heads ≤ most_nodes
  pub same_children : length cache.demands ≡ length cache.heads
  pub same_steps : HaveSteps cache.steps cache.demands
  pub zeros_where_gone : (child : ℕ) → child < length cache.heads → (child_head cache child).gone ≡ true →
      child_demand cache child ≡ zeros cache.steps
