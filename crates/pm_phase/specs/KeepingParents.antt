-- What a node with children keeps from turn to turn, with its ends of the links.
use Rattle.std.specs.Prelude.{◌≡◌, ◌⊎◌, ℕ, ◌+◌, ◌<◌, ℤ, Bool, true, false, List, [], Option, Some, None, All, Contains}
use Rattle.std.specs.Prelude.{IfSome, length, slice_index_or}
use Rattle.pm_cache.specs.Cache.{Cache}
use Rattle.pm_cells.specs.Ends.{LinkEnd}
use Rattle.pm_cells.specs.declared.message.UpMessage.{UpMessage}
use Rattle.pm_cells.specs.declared.message.Message.{Message}
use Rattle.pm_cells.specs.declared.message.Message.TheVariants.{Bid, Price}
use Rattle.pm_concentrator.specs.Concentrators.{Gathered}
use Rattle.pm_plan.specs.Plans.{PlanData, limits_of, is_leaf}
use Rattle.pm_plan.specs.Plans as plans
use Rattle.pm_session.specs.declared.price.PriceUpdate.{PriceUpdate}
use Rattle.pm_tree.specs.Entries.{place_of}
use Rattle.pm_carried.specs.Kept.{TellsAuction}
use Rattle.pm_phase.specs.Matchers.{cache_of_matcher, child_count, waiting_at}
use Rattle.pm_phase.specs.Messages.{prices_among}
use Rattle.pm_phase.specs.TellingParents.{bids_among, EntryCame, IsEven, KeepsRecord, TellsSum, FollowsAbove, FollowsClearing, TakesIn}
use Rattle.pm_phase.specs.Waiting.{TakesBidFromLink}
use Rattle.pm_phase.specs.declared.ends.UpEnd.{UpEnd}
use Rattle.pm_phase.specs.declared.ends.DownEnd.{DownEnd}
use Rattle.pm_phase.specs.declared.matcher.Matcher.{Matcher}
use Rattle.pm_phase.specs.declared.matcher.Matcher.TheVariants.{Concentrator, Auctioneer}
use Rattle.pm_phase.specs.declared.parent.ParentPart.{ParentPart}

-- ---- what a matcher tells

-- node 0 is the auctioneer, and any other node with children a concentrator with the plan's limits
abbrev pub IsKindOf : PlanData → ℕ → Matcher → Type 0
IsKindOf plan y (Concentrator g) = (y ≡ 0 → ⊥) × (g.limits ≡ limits_of (plans.node plan y))
IsKindOf plan y (Auctioneer a) = y ≡ 0

-- it has an entry for each child of the node, over the steps of the plan
pub record IsShapedMatcher (plan : PlanData) (y : ℕ) (matcher : Matcher) : Type 0 where
  pub inner : is_leaf plan y ≡ true → ⊥
  pub kind : IsKindOf plan y matcher
  pub even : IsEven (cache_of_matcher matcher)
  pub steps : (cache_of_matcher matcher).steps ≡ plan.basis.steps
  pub demands : length (cache_of_matcher matcher).demands ≡ child_count plan y

-- what its own numbers tell
abbrev pub TellsOwn : Matcher → Type 0
TellsOwn (Concentrator g) = KeepsRecord g
TellsOwn (Auctioneer a) = TellsAuction a

-- what a bid of it tells
abbrev pub TellsSumBid : Gathered → UpMessage → Type 0
TellsSumBid g bid = (demand : List ℤ) × (bid.demand ≡ Some demand) × TellsSum g bid.number demand

abbrev pub TellsBid : Matcher → UpMessage → Type 0
TellsBid (Concentrator g) bid = TellsSumBid g bid
TellsBid (Auctioneer a) bid = Unit {0}

abbrev pub TellsBidMessage : Matcher → Message → Type 0
TellsBidMessage matcher (Bid bid) = TellsBid matcher bid
TellsBidMessage matcher (Price price) = Unit {0}

-- what a price of it for the child in a place tells, where these prices came from above
abbrev pub TellsPrice : Matcher → List PriceUpdate → ℕ → PriceUpdate → Type 0
TellsPrice (Concentrator g) came place price = FollowsAbove g came place price
TellsPrice (Auctioneer a) came place price = FollowsClearing a place price

-- one that moved on tells what it told before
pub record MovesOn (old new : Matcher) : Type 0 where
  pub shaped : (plan : PlanData) (y : ℕ) → IsShapedMatcher plan y old → IsShapedMatcher plan y new
  pub own : TellsOwn old → TellsOwn new
  pub bids : (bid : UpMessage) → TellsOwn old → TellsBid old bid → TellsBid new bid
  pub prices : (came : List PriceUpdate) (place : ℕ) (price : PriceUpdate) → TellsOwn old → TellsPrice old came place price →
      TellsPrice new came place price

-- ---- what a node keeps

-- an end of a link to the parent is of the link above the node
abbrev pub IsUpHere : ℕ → Option UpEnd → Type 0
IsUpHere y None = Unit {0}
IsUpHere y (Some up) = up.at + 1 ≡ y

-- an end of a link to a child is of the link above the child in that place
abbrev pub IsDownHere : PlanData → ℕ → ℕ → ℕ → Type 0
IsDownHere plan y place at = (plans.parent plan (at + 1) ≡ y) × (place_of plan.entries (at + 1) ≡ place)

-- each of the ends of links to children is
abbrev pub AreDownHere : PlanData → ℕ → List DownEnd → Type 0
AreDownHere plan y downs =
    (place : ℕ) (d : DownEnd) → place < length downs → IsDownHere plan y place (slice_index_or downs place d).at

-- what holds with the end, or with any on which nothing was put and from which nothing was taken
abbrev pub OverEnd : (LinkEnd → Type 0) → Option UpEnd → Type 0
OverEnd P None = (end : LinkEnd) → end.known.up.sent ≡ [] → end.known.down.received ≡ [] → end.known.down.takes ≡ [] → P end
OverEnd P (Some up) = P up.end

-- the prices that came over the end, and the messages that were put on it
abbrev pub came_over : Option UpEnd → List PriceUpdate
came_over None = []
came_over (Some up) = prices_among up.end.known.down.received

abbrev pub sent_over : Option UpEnd → List Message
sent_over None = []
sent_over (Some up) = up.end.known.up.sent

-- the bid that was learnt last from the child in a place
abbrev pub learnt_at : List (Option UpMessage) → ℕ → Option UpMessage
learnt_at learnt place = slice_index_or learnt place None

-- the node's own: what waits, and what is to be passed on
pub record KeepsPart (plan : PlanData) (y : ℕ) (came : List PriceUpdate) (part : ParentPart) : Type 0 where
  pub shaped : IsShapedMatcher plan y part.matcher
  pub own : TellsOwn part.matcher
  pub waits : IfSome part.waiting (TellsBid part.matcher)
  pub pending : IfSome part.pending (Contains came)
  pub prices : (place : ℕ) (price : PriceUpdate) → waiting_at part.prices.items place ≡ Some price → TellsPrice part.matcher came place price

-- what it has of the child in a place, and its end of the link to that child: the link is the child's; the entry, and the bid
-- that was learnt last, are as before the phase, or came over the link; and each price that was put tells what it is to
pub record KeepsChild (plan : PlanData) (y : ℕ) (was : Cache) (had : List (Option UpMessage)) (came : List PriceUpdate) (part : ParentPart) (place : ℕ)
    (down : DownEnd) : Type 0 where
  pub link : IsDownHere plan y place down.at
  pub entry : EntryCame was (cache_of_matcher part.matcher) place (bids_among down.end.known.up.received)
  pub learnt : (bid : UpMessage) → learnt_at part.learnt.items place ≡ Some bid →
      (learnt_at had place ≡ Some bid) ⊎ Contains (bids_among down.end.known.up.received) bid
  pub put : All (TellsPrice part.matcher came place) (prices_among down.end.known.down.sent)

-- each of its children, by their places
abbrev pub KeepsEach : PlanData → ℕ → Cache → List (Option UpMessage) → List PriceUpdate → ParentPart → List DownEnd → Type 0
KeepsEach plan y was had came part downs =
    (place : ℕ) (d : DownEnd) → place < length downs → KeepsChild plan y was had came part place (slice_index_or downs place d)

-- with what it has of its children, and what it put on the link to its parent; these bids of it, which the parent had before the
-- phase, still tell what a bid of it is to
pub record KeepsParent (plan : PlanData) (y : ℕ) (was : Cache) (had : List (Option UpMessage)) (own : List Message) (parent : ParentPart)
    (up : Option UpEnd) (downs : List DownEnd) : Type 0 where
  pub part : KeepsPart plan y (came_over up) parent
  pub sent : All (TellsBidMessage parent.matcher) (sent_over up)
  pub told : All (TellsBidMessage parent.matcher) own
  pub each : KeepsEach plan y was had (came_over up) parent downs

-- ---- what the calls of a turn keep

-- a bid is taken and taken in, or none is
abbrev pub TookBid : ℕ → LinkEnd → LinkEnd → ParentPart → ParentPart → Bool → Type 0
TookBid place old new part part' true = (bid : UpMessage) × TakesBidFromLink old new (Some bid) × TakesIn place bid part part'
TookBid place old new part part' false = TakesBidFromLink old new None × (part' ≡ part)

-- the part moved on, without its ends
pub record PartMovesOn (part part' : ParentPart) : Type 0 where
  pub own : TellsOwn part.matcher → TellsOwn part'.matcher
  pub kept : (plan : PlanData) (y : ℕ) (came : List PriceUpdate) → KeepsPart plan y came part → KeepsPart plan y came part'
  pub sent : (messages : List Message) → TellsOwn part.matcher → All (TellsBidMessage part.matcher) messages →
      All (TellsBidMessage part'.matcher) messages
  pub child : (plan : PlanData) (y : ℕ) (was : Cache) (had : List (Option UpMessage)) (came : List PriceUpdate) (place : ℕ) (down : DownEnd) →
      TellsOwn part.matcher → KeepsChild plan y was had came part place down → KeepsChild plan y was had came part' place down

-- the part moved on, with its end of the link to the child in a place
pub record ChildMovesOn (place : ℕ) (old new : DownEnd) (part part' : ParentPart) : Type 0 where
  pub own : TellsOwn part.matcher → TellsOwn part'.matcher
  pub kept : (plan : PlanData) (y : ℕ) (came : List PriceUpdate) → KeepsPart plan y came part → KeepsPart plan y came part'
  pub sent : (messages : List Message) → TellsOwn part.matcher → All (TellsBidMessage part.matcher) messages →
      All (TellsBidMessage part'.matcher) messages
  pub here : (plan : PlanData) (y : ℕ) (was : Cache) (had : List (Option UpMessage)) (came : List PriceUpdate) →
      KeepsPart plan y came part → KeepsChild plan y was had came part place old → KeepsChild plan y was had came part' place new
  pub others : (plan : PlanData) (y : ℕ) (was : Cache) (had : List (Option UpMessage)) (came : List PriceUpdate) (other : ℕ) (down : DownEnd) →
      (other ≡ place → ⊥) → TellsOwn part.matcher → KeepsChild plan y was had came part other down → KeepsChild plan y was had came part' other down

-- the part moved on, with its ends of the links to its children
pub record ChildrenMoveOn (old new : List DownEnd) (part part' : ParentPart) : Type 0 where
  pub many : length new ≡ length old
  pub own : TellsOwn part.matcher → TellsOwn part'.matcher
  pub kept : (plan : PlanData) (y : ℕ) (came : List PriceUpdate) → KeepsPart plan y came part → KeepsPart plan y came part'
  pub sent : (messages : List Message) → TellsOwn part.matcher → All (TellsBidMessage part.matcher) messages →
      All (TellsBidMessage part'.matcher) messages
  pub each : (plan : PlanData) (y : ℕ) (was : Cache) (had : List (Option UpMessage)) (came : List PriceUpdate) →
      KeepsPart plan y came part → KeepsEach plan y was had came part old → KeepsEach plan y was had came part' new

-- the part moved on, with its end of the link to its parent
pub record UpMovesOn (old new : Option UpEnd) (part part' : ParentPart) : Type 0 where
  pub here : (y : ℕ) → IsUpHere y old → IsUpHere y new
  pub kept : (plan : PlanData) (y : ℕ) → KeepsPart plan y (came_over old) part → KeepsPart plan y (came_over new) part'
  pub sent : IfSome part.waiting (TellsBid part.matcher) → All (TellsBidMessage part.matcher) (sent_over old) →
      All (TellsBidMessage part'.matcher) (sent_over new)
  pub told : (messages : List Message) → All (TellsBidMessage part.matcher) messages → All (TellsBidMessage part'.matcher) messages
  pub child : (plan : PlanData) (y : ℕ) (was : Cache) (had : List (Option UpMessage)) (place : ℕ) (down : DownEnd) →
      KeepsChild plan y was had (came_over old) part place down → KeepsChild plan y was had (came_over new) part' place down
