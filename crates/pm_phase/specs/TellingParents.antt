-- What a node with children keeps from turn to turn: each entry of its cache is a message that came, or stood there before the
-- phase; each bid and each price that it puts says what its number says.
use Rattle.std.specs.Prelude.{◌≡◌, ◌⊎◌, ℕ, ◌≤◌, ℤ, false, List, [], ◌∷◌, length, Contains}
use Rattle.pm_auctioneer.specs.Auctions.{Auction}
use Rattle.pm_bid.specs.Limited.{within_limits}
use Rattle.pm_cache.specs.Cache.{Cache, aggregate_of, child_head, child_demand}
use Rattle.pm_cache.specs.Learning.{demand_of_offer}
use Rattle.pm_cells.specs.declared.message.UpMessage.{UpMessage}
use Rattle.pm_concentrator.specs.Concentrators.{Gathered, published_heads}
use Rattle.pm_concentrator.specs.Limited.{sum_kept}
use Rattle.pm_session.specs.Prices.{head_at}
use Rattle.pm_session.specs.Windows.{newest_record}
use Rattle.pm_session.specs.declared.price.PriceUpdate.{PriceUpdate}
use Rattle.pm_cells.specs.Ends.{LinkEnd}
use Rattle.pm_cells.specs.declared.message.Message.{Message}
use Rattle.pm_cells.specs.declared.message.Message.TheVariants.{Bid, Price}
use Rattle.pm_phase.specs.Matchers.{cache_of_matcher, MayLearnBid}
use Rattle.pm_phase.specs.Parents.{LearnsBid}
use Rattle.pm_phase.specs.declared.parent.ParentPart.{ParentPart}
use Rattle.pm_carried.specs.Kept.{IsPassedDown}

-- ---- what is learnt

-- the entry of a child is this bid
pub record IsEntryOf (cache : Cache) (child : ℕ) (bid : UpMessage) : Type 0 where
  pub number : (child_head cache child).number ≡ bid.number
  pub demand : child_demand cache child ≡ demand_of_offer cache bid.demand

-- there is a demand for each head
abbrev pub IsEven : Cache → Type 0
IsEven cache = length cache.demands ≡ length cache.heads

-- the entry of a child is as it was before the phase, or is a bid that came
pub record IsAsBefore (before now : Cache) (child : ℕ) : Type 0 where
  pub head : child_head now child ≡ child_head before child
  pub demand : child_demand now child ≡ child_demand before child

pub record CameOver (now : Cache) (child : ℕ) (bids : List UpMessage) : Type 0 where
  pub bid : UpMessage
  pub came : Contains bids bid
  pub entry : IsEntryOf now child bid

abbrev pub EntryCame : Cache → Cache → ℕ → List UpMessage → Type 0
EntryCame before now child bids = IsAsBefore before now child ⊎ CameOver now child bids

-- ---- what a concentrator puts

-- it has nothing to send
abbrev pub HasSent : Gathered → Type 0
HasSent g = g.cache.heads ≡ published_heads g

-- a bid with this number and demand: one with the newest number is that of the children's sum, if nothing was learnt since
pub record TellsSum (g : Gathered) (number : ℕ) (demand : List ℤ) : Type 0 where
  pub within : number ≤ g.window.last
  pub is : HasSent g → number ≡ g.window.last → demand ≡ within_limits g.limits (aggregate_of g.cache)

-- the numbers published are at most those kept, and the newest record has the children's sum, if a bid was made and nothing was
-- learnt since
pub record KeepsRecord (g : Gathered) : Type 0 where
  pub published : (child : ℕ) → (head_at (published_heads g) child).number ≤ (child_head g.cache child).number
  pub sum : HasSent g → 1 ≤ g.window.last → (newest_record g.window).sum ≡ sum_kept g.limits (aggregate_of g.cache)

-- a price for the child in a place follows from one that came from above
pub record FollowsAbove (g : Gathered) (prices : List PriceUpdate) (place : ℕ) (price : PriceUpdate) : Type 0 where
  pub above : PriceUpdate
  pub came : Contains prices above
  pub within : above.number ≤ g.window.last
  pub passed : IsPassedDown g place above price

-- ---- what the auctioneer puts

-- a price with the index of the last clearing has its step and the child's number, if nothing was learnt since
pub record FollowsClearing (a : Auction) (place : ℕ) (price : PriceUpdate) : Type 0 where
  pub within : price.index ≤ a.index
  pub step : price.index ≡ a.index → a.changed ≡ false → price.step ≡ a.step
  pub number : price.index ≡ a.index → a.changed ≡ false → price.number ≡ (child_head a.cache place).number

-- ---- what it makes of a bid that it took

-- the bid is learnt, as it may be, or nothing changes
abbrev pub TakesIn : ℕ → UpMessage → ParentPart → ParentPart → Type 0
TakesIn place bid parent parent' =
    (MayLearnBid (cache_of_matcher parent.matcher) place bid × LearnsBid place bid parent parent') ⊎ (parent' ≡ parent)

-- the bids among messages, in order
abbrev pub bids_among : List Message → List UpMessage
bids_among [] = []
bids_among (Bid bid ∷ rest) = bid ∷ bids_among rest
bids_among (Price price ∷ rest) = bids_among rest

-- the entry of the child in a place stays one that came over its link, and so do the others
pub record KeepsEntries (place : ℕ) (old new : LinkEnd) (parent parent' : ParentPart) : Type 0 where
  pub here : (before : Cache) → IsEven (cache_of_matcher parent.matcher) →
      EntryCame before (cache_of_matcher parent.matcher) place (bids_among old.known.up.received) →
      EntryCame before (cache_of_matcher parent'.matcher) place (bids_among new.known.up.received)
  pub others : (before : Cache) (other : ℕ) (bids : List UpMessage) → (other ≡ place → ⊥) →
      EntryCame before (cache_of_matcher parent.matcher) other bids → EntryCame before (cache_of_matcher parent'.matcher) other bids
