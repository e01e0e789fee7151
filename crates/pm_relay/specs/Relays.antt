-- What a relay keeps, and what each call makes of it.
use Rattle.std.specs.Prelude.{◌≡◌, ◌⊎◌, ℕ, ◌+◌, ◌-◌, ◌%◌, ◌<◌, ◌≤◌, ◌^◌, ℤ, pos, List, length, Option, Some}
use Rattle.std.specs.Prelude.{None, ⊤}
use Rattle.std.specs.Prelude.{if◌then◌else◌, nat_lt, slice_index_or}
use Rattle.pm_base.specs.Limits.{AreLimits, IsWithin, demand_limit, most_nodes, window_size}
use Rattle.pm_base.specs.declared.limits.Limits.{Limits}
use Rattle.pm_bid.specs.Taken.{announced, HasStepWithin}
use Rattle.pm_cache.specs.Cache.{aggregate_of, kept_number}
use Rattle.pm_cache.specs.Learning.{after_learning}
use Rattle.pm_session.specs.Windows.{Sent, record_of}
use Rattle.pm_session.specs.declared.price.PriceUpdate.{PriceUpdate}
use Rattle.pm_concentrator.specs.Concentrators.{Gathered, published_heads, IsNewConcentrator, BidSettled, Passed}
use Rattle.pm_relay.specs.Numbers.{child_number, head_number, IsCaughtUp, HearsNothingNewer, HearsAgain}
use Rattle.pm_relay.specs.declared.fault.SendFault.{SendFault}
use Rattle.pm_relay.specs.declared.fault.SendFault.TheVariants.{NotCaughtUp, NotChanged, WindowFull, OutOfNumbers}
use Rattle.pm_relay.specs.declared.outcome.PriceOutcome.{PriceOutcome}
use Rattle.pm_relay.specs.declared.outcome.PriceOutcome.TheVariants.{PassedOn, Alone, Waits, Dropped}

-- What the concentrator in it has gathered and sent since the relay came up, under numbers of its own from 1 on, and `base`,
-- which the relay's numbers are ahead of these by; the number answered and the index of the price that it took last; and of
-- each child the number in its newest bid.
pub record RelayValue : Type 0 where
  pub gathered : Gathered
  pub base : ℕ
  pub answered : ℕ
  pub index : ℕ
  pub recorded : List ℕ
  -- the limits that the numbers were made under, in places by number
  pub made_under : List Limits

abbrev pub no_limits : Limits
no_limits = record { floor = pos 0; ceiling = pos 0 }

-- limits so small that each sum within them fits a message
pub record AreRelayLimits (limits : Limits) : Type 0 where
  pub around : AreLimits limits
  pub floor : IsWithin demand_limit limits.floor
  pub ceiling : IsWithin demand_limit limits.ceiling

-- ---- numbers

-- the number of its newest bid, 0 where there is none
abbrev pub newest_bid_number : RelayValue → ℕ
newest_bid_number r = r.base + r.gathered.window.last

-- the record of a number that it has: what went into that bid
abbrev pub record_at : RelayValue → ℕ → Sent
record_at r number = record_of r.gathered.window (number - r.base)

-- how many places there are for the limits of numbers: one for the number answered last, and one for each that may be unanswered
abbrev pub limits_places : ℕ
limits_places = window_size + 1

-- the limits that a number was made under; they are known of each number from the one answered to the newest
abbrev pub limits_of_number : RelayValue → ℕ → Option Limits
limits_of_number r number = Some (slice_index_or r.made_under (number % limits_places) no_limits)

-- something was heard that is not in the newest record, or not in the opening where there is none
abbrev pub HasChanged : RelayValue → Type 0
HasChanged r = r.gathered.cache.heads ≡ published_heads r.gathered → ⊥

-- how many numbers lie above the one answered last
abbrev pub unanswered_numbers : RelayValue → ℕ
unanswered_numbers r = newest_bid_number r - r.answered

-- ---- a relay comes up

-- A relay that heard nothing yet, and whose newest bid, before it restarted, had this number and these of the children, and was
-- made under these limits. It holds a price of this index, which answers this number.
pub record RelayComesBack (steps : ℕ) (limits' : Limits) (last answered' index' : ℕ) (numbers : List ℕ) (under : Limits) (r : RelayValue) : Type 0 where
  pub gathered : IsNewConcentrator most_nodes steps (Some limits') r.gathered
  pub base : r.base ≡ last
  pub answered : r.answered ≡ answered'
  pub index : r.index ≡ index'
  pub recorded : r.recorded ≡ numbers
  pub made_under : limits_of_number r last ≡ Some under

-- ---- a child's bid

-- the relay with the child's newer bid, before it looks for its record
abbrev pub with_child_bid : RelayValue → ℕ → ℕ → Option (List ℤ) → RelayValue
with_child_bid r child number demand =
    record r { gathered = record r.gathered { cache = after_learning r.gathered.cache child number demand } }

-- The relay with limits that are given under a number, as a child's bid is: if it is newer, the limits count from the next bid
-- on, and the child that gives them asks for nothing.
abbrev pub with_new_limits : RelayValue → ℕ → ℕ → Limits → RelayValue
with_new_limits r child number limits' =
    if nat_lt (kept_number r.gathered.cache child) number
    then record r { gathered = record (with_child_bid r child number None).gathered { limits = Some limits' } }
    else r

-- a relay that came back, has no record of its newest bid, and has heard of each child just what that bid had
abbrev pub HearsItsRecord : RelayValue → Type 0
HearsItsRecord r = HearsAgain r.base r.gathered.window.last r.recorded r.gathered.cache.heads (HasChanged r)

-- what it heard became the record of its newest bid again, under the same number
pub record RecordRebuilt (old new : RelayValue) : Type 0 where
  pub base : new.base + 1 ≡ old.base
  pub last : new.gathered.window.last ≡ 1
  pub window : new.gathered.window.answered ≡ old.answered - new.base
  pub heads : (record_at new old.base).heads ≡ old.gathered.cache.heads
  pub sum : (record_at new old.base).sum ≡ Some (aggregate_of old.gathered.cache)
  pub announced : new.gathered.announced ≡ Some (announced old.gathered.limits (aggregate_of old.gathered.cache))
  pub cache : new.gathered.cache ≡ old.gathered.cache
  pub limits : new.gathered.limits ≡ old.gathered.limits
  pub answered : new.answered ≡ old.answered
  pub index : new.index ≡ old.index
  pub recorded : new.recorded ≡ old.recorded
  pub made_under : limits_of_number new old.base ≡ old.gathered.limits

-- a relay has its record again as soon as it hears it, and else stays as it is
abbrev pub LooksForRecord : RelayValue → RelayValue → Type 0
LooksForRecord old new = (HearsItsRecord old × RecordRebuilt old new) ⊎ ((HearsItsRecord old → ⊥) × (new ≡ old))

-- ---- a bid of its own

-- some step of the sum of what it holds is within its limits
abbrev pub HasStepWithinAny : Option Limits → List ℤ → Type 0
HasStepWithinAny None sum = ⊤
HasStepWithinAny (Some limits) sum = HasStepWithin limits sum

abbrev pub HasOwnStepWithin : RelayValue → Type 0
HasOwnStepWithin r = HasStepWithinAny r.gathered.limits (aggregate_of r.gathered.cache)

-- what is taken where it settles goes up under the next number, and what went into it is its record
pub record BidSent (old new : RelayValue) (number' : ℕ) : Type 0 where
  pub caught_up : IsCaughtUp old.recorded old.gathered.cache.heads
  pub room : unanswered_numbers old < window_size
  pub number : number' ≡ newest_bid_number old + 1
  pub made : BidSettled old.gathered new.gathered (old.gathered.window.last + 1)
  pub announced : new.gathered.announced ≡ Some (announced old.gathered.limits (aggregate_of old.gathered.cache))
  pub numbers : (child : ℕ) → child < most_nodes → child_number new.recorded child ≡ head_number old.gathered.cache.heads child
  pub children : length new.recorded ≡ length old.recorded
  pub base : new.base ≡ old.base
  pub answered : new.answered ≡ old.answered
  pub index : new.index ≡ old.index
  -- the number was made under the limits of now, and the others under those of before
  pub made_under : limits_of_number new number' ≡ old.gathered.limits
  pub kept_under : (n : ℕ) → old.answered ≤ n → n ≤ newest_bid_number old → limits_of_number new n ≡ limits_of_number old n

-- when no bid is sent, and why
abbrev pub NotSent : RelayValue → SendFault → Type 0
NotSent r NotCaughtUp = IsCaughtUp r.recorded r.gathered.cache.heads → ⊥
NotSent r NotChanged = IsCaughtUp r.recorded r.gathered.cache.heads × (r.gathered.cache.heads ≡ published_heads r.gathered)
NotSent r WindowFull = IsCaughtUp r.recorded r.gathered.cache.heads × HasChanged r × (window_size ≤ unanswered_numbers r)
NotSent r OutOfNumbers =
    IsCaughtUp r.recorded r.gathered.cache.heads × HasChanged r × (unanswered_numbers r < window_size) × (newest_bid_number r + 1 ≡ 2 ^ 32)

-- ---- a price

-- a price is new where its index is above the last one, and it names a number from the one answered to the newest
pub record IsNewPrice (r : RelayValue) (price : PriceUpdate) : Type 0 where
  pub newer : r.index < price.index
  pub one : 1 ≤ price.number
  pub from : r.answered ≤ price.number
  pub to : price.number ≤ newest_bid_number r

-- it has the record of a number
pub record HasRecord (r : RelayValue) (number : ℕ) : Type 0 where
  pub own : r.base < number
  pub from : r.answered ≤ number
  pub to : number ≤ newest_bid_number r

-- the number is that of its newest bid, whose record it lost and may hear again
pub record MayHearRecord (r : RelayValue) (number : ℕ) : Type 0 where
  pub newest : number ≡ newest_bid_number r
  pub nothing_newer : HearsNothingNewer r.recorded r.gathered.cache.heads

-- what is taken of a price: its index, and the number that it answers
abbrev pub with_price : RelayValue → PriceUpdate → RelayValue
with_price r price = record r { answered = price.number; index = price.index }

-- a price that goes on answers the concentrator's number also
pub record PricePassedOn (old new : RelayValue) (price : PriceUpdate) : Type 0 where
  pub passed : Passed old.gathered new.gathered (price.number - old.base)
  pub base : new.base ≡ old.base
  pub answered : new.answered ≡ price.number
  pub index : new.index ≡ price.index
  pub recorded : new.recorded ≡ old.recorded
  pub made_under : new.made_under ≡ old.made_under

-- what was done with a price, and why
abbrev pub TakesPrice : RelayValue → RelayValue → PriceUpdate → PriceOutcome → Type 0
TakesPrice old new price Dropped = (IsNewPrice old price → ⊥) × (new ≡ old)
TakesPrice old new price PassedOn = IsNewPrice old price × (old.base < price.number) × PricePassedOn old new price
TakesPrice old new price Waits =
    IsNewPrice old price × (price.number ≤ old.base) × MayHearRecord old price.number × (new ≡ old)
TakesPrice old new price Alone =
    IsNewPrice old price × (price.number ≤ old.base) × (MayHearRecord old price.number → ⊥) × (new ≡ with_price old price)
