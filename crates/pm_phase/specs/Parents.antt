-- What the part of a node with children starts from and keeps, and what each of its calls does.
use Rattle.std.specs.Prelude.{◌≡◌, ◌⊎◌, ℕ, ◌+◌, ◌^◌, false, Some, None, replicate, set}
use Rattle.pm_auctioneer.specs.Auctions.{Auction, MarketCleared}
use Rattle.pm_cells.specs.declared.message.UpMessage.{UpMessage}
use Rattle.pm_concentrator.specs.Concentrators.{Gathered, BidMade, Passed, own_demand}
use Rattle.pm_concentrator.specs.Limited.{local_step_of_record}
use Rattle.pm_plan.specs.Plans.{PlanData}
use Rattle.pm_session.specs.Windows.{record_of}
use Rattle.pm_session.specs.declared.price.PriceUpdate.{PriceUpdate}
use Rattle.pm_phase.specs.Matchers.{child_count, IsNewMatcher, after_bid, HasNoBid, MayPassOn, PricesWait}
use Rattle.pm_phase.specs.declared.parent.ParentPart.{ParentPart}
use Rattle.pm_phase.specs.declared.matcher.Matcher.{Matcher}
use Rattle.pm_phase.specs.declared.matcher.Matcher.TheVariants.{Concentrator, Auctioneer}

-- a node to which nobody sent anything: nothing waits, and no child has a bid or a price
pub record IsNewParent (plan : PlanData) (node : ℕ) (part : ParentPart) : Type 0 where
  pub matcher : IsNewMatcher plan node part.matcher
  pub waiting : part.waiting ≡ None
  pub pending : part.pending ≡ None
  pub prices : part.prices.items ≡ replicate (child_count plan node) None
  pub learnt : part.learnt.items ≡ replicate (child_count plan node) None

-- a child's bid was learnt, and is kept as the newest
pub record LearnsBid (child : ℕ) (bid : UpMessage) (old new : ParentPart) : Type 0 where
  pub matcher : new.matcher ≡ after_bid old.matcher child bid
  pub learnt : new.learnt.items ≡ set old.learnt.items child (Some bid)
  pub waiting : new.waiting ≡ old.waiting
  pub pending : new.pending ≡ old.pending
  pub prices : new.prices ≡ old.prices

-- the node is a concentrator that made a bid of the next number, which waits with its demand
pub record MakesBid (old new : ParentPart) : Type 0 where
  pub before : Gathered
  pub after : Gathered
  pub bid : UpMessage
  pub was : old.matcher ≡ Concentrator before
  pub is : new.matcher ≡ Concentrator after
  pub made : BidMade before after bid.number
  pub demand : bid.demand ≡ Some (own_demand after)
  pub none_waited : old.waiting ≡ None
  pub waits : new.waiting ≡ Some bid
  pub pending : new.pending ≡ old.pending
  pub prices : new.prices ≡ old.prices
  pub learnt : new.learnt ≡ old.learnt

-- the node has no bid to make now
abbrev pub MakesNone : Matcher → Type 0
MakesNone (Concentrator concentrator) = HasNoBid concentrator
MakesNone (Auctioneer auctioneer) = Unit {0}

abbrev pub HasNoBidToMake : ParentPart → Type 0
HasNoBidToMake part = (part.waiting ≡ None → ⊥) ⊎ MakesNone part.matcher

-- the node is a concentrator that passed on the price which its parent passed to it: the prices of its children wait
pub record PassesOn (old new : ParentPart) : Type 0 where
  pub before : Gathered
  pub after : Gathered
  pub price : PriceUpdate
  pub was : old.matcher ≡ Concentrator before
  pub is : new.matcher ≡ Concentrator after
  pub came : old.pending ≡ Some price
  pub none : new.pending ≡ None
  pub may : MayPassOn before price
  pub passed : Passed before after price.number
  pub prices : let sent = record_of before.window price.number in
      PricesWait sent.heads (local_step_of_record before.limits price.step sent.sum) price.index old.prices.items new.prices.items
  pub waiting : new.waiting ≡ old.waiting
  pub learnt : new.learnt ≡ old.learnt

-- a price may not be passed on by a node
abbrev pub MayNotPass : Matcher → PriceUpdate → Type 0
MayNotPass (Concentrator concentrator) price = MayPassOn concentrator price → ⊥
MayNotPass (Auctioneer auctioneer) price = Unit {0}

-- no price came, or one that may not be passed on and is dropped
pub record DropsPending (old new : ParentPart) : Type 0 where
  pub may_not : (price : PriceUpdate) → old.pending ≡ Some price → MayNotPass old.matcher price
  pub rest : new ≡ record old { pending = None }

-- the node is the auctioneer, which cleared the market: the prices of its children wait
pub record ClearsMarket (old new : ParentPart) : Type 0 where
  pub before : Auction
  pub after : Auction
  pub was : old.matcher ≡ Auctioneer before
  pub is : new.matcher ≡ Auctioneer after
  pub cleared : MarketCleared before after after.index after.step
  pub prices : PricesWait after.cache.heads after.step after.index old.prices.items new.prices.items
  pub waiting : new.waiting ≡ old.waiting
  pub pending : new.pending ≡ old.pending
  pub learnt : new.learnt ≡ old.learnt

-- a node does not clear now: it is a concentrator, nothing was learnt since the last clearing, or the indices are used up
abbrev pub HasNoClearing : Matcher → Type 0
HasNoClearing (Concentrator concentrator) = Unit {0}
HasNoClearing (Auctioneer auctioneer) = (auctioneer.changed ≡ false) ⊎ (auctioneer.index + 1 ≡ 2 ^ 32)
