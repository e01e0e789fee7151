-- What a concentrator keeps, and what publishing and passing do.
use Rattle.std.specs.Prelude.{◌≡◌, ℕ, ◌+◌, ◌<◌, ℤ, false, List, length, Option, option_map, unwrap_or}
use Rattle.pm_base.specs.Limits.{window_size}
use Rattle.pm_base.specs.declared.limits.Limits.{Limits}
use Rattle.pm_bid.specs.Bids.{zeros}
use Rattle.pm_bid.specs.Limited.{within_limits}
use Rattle.pm_bid.specs.Taken.{announced}
use Rattle.pm_bid.specs.declared.head.BidHead.{BidHead}
use Rattle.pm_cache.specs.Cache.{Cache, aggregate_of, empty_cache}
use Rattle.pm_session.specs.Links.{Session, BidOffered}
use Rattle.pm_session.specs.Windows.{newest_record, unanswered_count, steps_of, RecordSent, RecordAnswered, IsNewWindow, WindowValue}
use Rattle.pm_concentrator.specs.Limited.{sum_kept, sum_steps}

-- the entries of the children, the records of what was published, and the limits if there are some, with the demand
-- of the newest bid then
pub record Gathered : Type 0 where
  pub cache : Cache
  pub window : WindowValue
  pub limits : Option Limits
  pub announced : Option (List ℤ)

-- the demand of the concentrator: with limits that of its newest bid, else the sum of its children's bids
abbrev pub own_demand : Gathered → List ℤ
own_demand c = unwrap_or c.announced (aggregate_of c.cache)

-- the heads that were published last, at first those of the opening
abbrev pub published_heads : Gathered → List BidHead
published_heads c = (newest_record c.window).heads

-- a concentrator whose children sent nothing
pub record IsNewConcentrator (children steps : ℕ) (limits' : Option Limits) (c : Gathered) : Type 0 where
  pub cache : c.cache ≡ empty_cache children steps
  pub window : IsNewWindow children (sum_steps limits' steps) c.window
  pub limits : c.limits ≡ limits'
  pub announced : c.announced ≡ option_map (λ limits. zeros steps) limits'

-- a bid was made under the next number: its demand is the children's sum, within the limits, and the
-- heads that went into it are its record
pub record BidMade (old new : Gathered) (number' : ℕ) : Type 0 where
  pub changed : old.cache.heads ≡ published_heads old → ⊥
  pub room : unanswered_count old.window < window_size
  pub number : number' ≡ old.window.last + 1
  pub demand : own_demand new ≡ within_limits old.limits (aggregate_of old.cache)
  pub sent : RecordSent old.window new.window (record { number = number'; heads = old.cache.heads; sum = sum_kept old.limits (aggregate_of old.cache) })
  pub cache : new.cache ≡ old.cache
  pub limits : new.limits ≡ old.limits

-- the same where it settles: its demand is what is taken at the steps for which it settles
pub record BidSettled (old new : Gathered) (number' : ℕ) : Type 0 where
  pub changed : old.cache.heads ≡ published_heads old → ⊥
  pub room : unanswered_count old.window < window_size
  pub number : number' ≡ old.window.last + 1
  pub demand : own_demand new ≡ announced old.limits (aggregate_of old.cache)
  pub sent : RecordSent old.window new.window (record { number = number'; heads = old.cache.heads; sum = sum_kept old.limits (aggregate_of old.cache) })
  pub cache : new.cache ≡ old.cache
  pub limits : new.limits ≡ old.limits

-- a bid was made, and offered to the parent
pub record Published (old new : Gathered) (up_old up_new : Session) (number' : ℕ) : Type 0 where
  pub made : BidMade old new number'
  pub bid : BidOffered up_old up_new (record { number = number'; gone = false; demand = within_limits old.limits (aggregate_of old.cache) })

-- the number that the price names was answered
pub record Passed (old new : Gathered) (number : ℕ) : Type 0 where
  pub window : RecordAnswered old.window new.window number
  pub cache : new.cache ≡ old.cache
  pub limits : new.limits ≡ old.limits
  pub announced : new.announced ≡ old.announced

-- what holds of each concentrator
pub record IsGathered (c : Gathered) : Type 0 where
  pub same_children : c.window.children ≡ length c.cache.heads
  pub steps : c.window.steps ≡ sum_steps c.limits c.cache.steps
  pub announced : steps_of c.announced ≡ sum_steps c.limits c.cache.steps
