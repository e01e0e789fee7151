-- What a node with children starts from, learns, bids and passes on.
use Rattle.std.specs.Prelude.{◌≡◌, ◌⊎◌, ℕ, ◌+◌, ◌<◌, ◌≤◌, ◌^◌, true, List, length, Option, Some, None, slice_index_or}
use Rattle.pm_base.specs.Limits.{window_size}
use Rattle.pm_auctioneer.specs.Auctions.{new_auction}
use Rattle.pm_bid.specs.declared.head.BidHead.{BidHead}
use Rattle.pm_cache.specs.Cache.{Cache, kept_number}
use Rattle.pm_cache.specs.Learning.{CanLearn, after_learning}
use Rattle.pm_cells.specs.declared.message.UpMessage.{UpMessage}
use Rattle.pm_concentrator.specs.Concentrators.{Gathered, IsNewConcentrator, published_heads}
use Rattle.pm_plan.specs.Plans.{PlanData, limits_of}
use Rattle.pm_plan.specs.Plans as plans
use Rattle.pm_session.specs.Prices.{price_to}
use Rattle.pm_session.specs.Windows.{Keeps, unanswered_count}
use Rattle.pm_session.specs.declared.price.PriceUpdate.{PriceUpdate}
use Rattle.pm_tree.specs.Entries.{children_of}
use Rattle.pm_phase.specs.declared.matcher.Matcher.{Matcher}
use Rattle.pm_phase.specs.declared.matcher.Matcher.TheVariants.{Concentrator, Auctioneer}

-- how many children a node of a plan has
abbrev pub child_count : PlanData → ℕ → ℕ
child_count plan node = length (children_of plan.entries node)

-- what a node of a plan is before anybody sent anything: node 0 a new auctioneer, any other node a new concentrator with its
-- limits, each of as many children as the node has, over the steps of the plan
abbrev pub IsNewMatcher : PlanData → ℕ → Matcher → Type 0
IsNewMatcher plan node (Auctioneer auctioneer) = (node ≡ 0) × (auctioneer ≡ new_auction (child_count plan node) plan.basis.steps)
IsNewMatcher plan node (Concentrator concentrator) = (node ≡ 0 → ⊥)
    × IsNewConcentrator (child_count plan node) plan.basis.steps (limits_of (plans.node plan node)) concentrator

-- the newest bids of the children
abbrev pub cache_of_matcher : Matcher → Cache
cache_of_matcher (Concentrator concentrator) = concentrator.cache
cache_of_matcher (Auctioneer auctioneer) = auctioneer.cache

-- a bid may be learnt: it fits the cache, and is newer than the child's last
pub record MayLearnBid (cache : Cache) (child : ℕ) (bid : UpMessage) : Type 0 where
  pub fits : CanLearn cache child bid.demand
  pub newer : kept_number cache child < bid.number

-- the node after it learnt a child's bid
abbrev pub after_bid : Matcher → ℕ → UpMessage → Matcher
after_bid (Concentrator concentrator) child bid =
    Concentrator (record concentrator { cache = after_learning concentrator.cache child bid.number bid.demand })
after_bid (Auctioneer auctioneer) child bid =
    Auctioneer (record auctioneer { cache = after_learning auctioneer.cache child bid.number bid.demand; changed = true })

-- a concentrator has no bid to make: nothing changed, eight numbers are unanswered, or the numbers are used up
abbrev pub HasNoBid : Gathered → Type 0
HasNoBid concentrator =
    (concentrator.cache.heads ≡ published_heads concentrator)
    ⊎ (window_size ≤ unanswered_count concentrator.window)
    ⊎ (concentrator.window.last + 1 ≡ 2 ^ 32)

-- a price may be passed on: it has an index, its step is one of the market's, and the record of its number is kept
pub record MayPassOn (concentrator : Gathered) (price : PriceUpdate) : Type 0 where
  pub index : 1 ≤ price.index
  pub step : price.step < concentrator.cache.steps
  pub kept : Keeps concentrator.window price.number

-- the price that waits for a child
abbrev pub waiting_at : List (Option PriceUpdate) → ℕ → Option PriceUpdate
waiting_at waiting child = slice_index_or waiting child None

-- a child's price, or else the one before
abbrev pub newer_price : Option PriceUpdate → Option PriceUpdate → Option PriceUpdate
newer_price (Some price) before = Some price
newer_price None before = before

-- each child that is not gone has its price waiting; for the others what waited waits on
pub record PricesWait (heads : List BidHead) (step index : ℕ) (old new : List (Option PriceUpdate)) : Type 0 where
  pub same_length : length new ≡ length old
  pub each : (child : ℕ) → child < length old →
      waiting_at new child ≡ newer_price (price_to heads step index child) (waiting_at old child)
