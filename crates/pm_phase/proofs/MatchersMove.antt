-- A matcher that learnt, made a bid, passed a price on or cleared tells what it told before.
use Rattle.std.proofs.Common.{◌≡◌, ◌∙◌, sym, ap, ℕ, ℤ, true, false, List}
use Rattle.std.proofs.Common.{length, Option, Some, None, refl}
use Rattle.std.proofs.Math.ListN.{length-set}
use Rattle.std.proofs.lemmas.Bool.{cond-false, lt-leb}
use Rattle.pm_auctioneer.specs.Auctions.{Auction, MarketCleared}
use Rattle.pm_bid.specs.Bids.{zeros}
use Rattle.pm_cache.specs.Cache.{Cache}
use Rattle.pm_cache.specs.Learning.{after_learning, with_newer_bid}
use Rattle.pm_cells.specs.declared.message.UpMessage.{UpMessage}
use Rattle.pm_concentrator.specs.Concentrators.{Gathered, BidMade, Passed}
use Rattle.pm_plan.specs.Plans.{PlanData}
use Rattle.pm_session.specs.declared.price.PriceUpdate.{PriceUpdate}
use Rattle.pm_phase.specs.Matchers.{cache_of_matcher, after_bid, MayLearnBid, MayPassOn}
use Rattle.pm_phase.specs.KeepingParents.{IsShapedMatcher, IsKindOf, MovesOn}
use Rattle.pm_phase.specs.declared.matcher.Matcher.{Matcher}
use Rattle.pm_phase.specs.declared.matcher.Matcher.TheVariants.{Concentrator, Auctioneer}
use Rattle.pm_phase.proofs.ParentKeeps.{learn_keeps_record, learn_keeps_bid, learn_keeps_price, learn_keeps_clearing}
use Rattle.pm_phase.proofs.ParentKeeps.{make_keeps_record, make_keeps_bid, make_keeps_price, pass_keeps_record, pass_keeps_bid, pass_keeps_price}
use Rattle.pm_phase.proofs.ParentKeeps.{clear_tells, clear_keeps_price}

-- a matcher that did nothing moved on
pub moves_refl : (m : Matcher) → MovesOn m m
moves_refl m = record {
  shaped = λ plan y is. is;
  own = λ tells. tells;
  bids = λ bid own tells. tells;
  prices = λ came place price own tells. tells;
}

-- ---- shapes

-- a matcher with a cache of the same shape
shaped_like : (plan : PlanData) (y : ℕ) (old new : Matcher) → (IsKindOf plan y old → IsKindOf plan y new) →
    (cache_of_matcher new).steps ≡ (cache_of_matcher old).steps →
    length (cache_of_matcher new).demands ≡ length (cache_of_matcher old).demands →
    length (cache_of_matcher new).heads ≡ length (cache_of_matcher old).heads →
    IsShapedMatcher plan y old → IsShapedMatcher plan y new
shaped_like plan y old new kind steps demands heads is = record {
  inner = is.inner;
  kind = kind is.kind;
  even = demands ∙ is.even ∙ sym heads;
  steps = steps ∙ is.steps;
  demands = demands ∙ is.demands;
}

module _ (cache : Cache) (k : ℕ) (bid : UpMessage) (may : MayLearnBid cache k bid) where
  abbrev pub after : Cache
  after = after_learning cache k bid.number bid.demand

  learns : after ≡ with_newer_bid cache k bid.number bid.demand
  learns = cond-false _ cache (with_newer_bid cache k bid.number bid.demand) (lt-leb bid.number _ may.newer)

  steps_after : after.steps ≡ cache.steps
  steps_after = ap (λ (c : Cache). c.steps) learns ∙ by bid.demand
    where
      by : (demand : Option (List ℤ)) → (with_newer_bid cache k bid.number demand).steps ≡ cache.steps
      by None = refl
      by (Some d) = refl

  demands_after : length after.demands ≡ length cache.demands
  demands_after = ap (λ (c : Cache). length c.demands) learns ∙ by bid.demand
    where
      by : (demand : Option (List ℤ)) → length (with_newer_bid cache k bid.number demand).demands ≡ length cache.demands
      by None = length-set cache.demands k (zeros cache.steps)
      by (Some d) = length-set cache.demands k d

  heads_after : length after.heads ≡ length cache.heads
  heads_after = ap (λ (c : Cache). length c.heads) learns ∙ by bid.demand
    where
      by : (demand : Option (List ℤ)) → length (with_newer_bid cache k bid.number demand).heads ≡ length cache.heads
      by None = length-set cache.heads k (record { number = bid.number; gone = true })
      by (Some d) = length-set cache.heads k (record { number = bid.number; gone = false })

-- ---- the calls

pub learn_moves : (m : Matcher) (k : ℕ) (bid : UpMessage) → MayLearnBid (cache_of_matcher m) k bid → MovesOn m (after_bid m k bid)
learn_moves (Concentrator g) k bid may = record {
  shaped = λ plan y is. shaped_like plan y (Concentrator g) (after_bid (Concentrator g) k bid) (λ kind. kind) (steps_after g.cache k bid may)
      (demands_after g.cache k bid may) (heads_after g.cache k bid may) is;
  own = λ kept. learn_keeps_record g k bid may kept;
  bids = λ b kept tells. (tells.0, tells.1, learn_keeps_bid g k bid may kept b.number tells.0 tells.2);
  prices = λ came place price kept follows. learn_keeps_price g k bid may kept came place price follows;
}
learn_moves (Auctioneer a) k bid may = record {
  shaped = λ plan y is. shaped_like plan y (Auctioneer a) (after_bid (Auctioneer a) k bid) (λ kind. kind) (steps_after a.cache k bid may)
      (demands_after a.cache k bid may) (heads_after a.cache k bid may) is;
  own = λ kept still. absurd (cc still);
  bids = λ b kept tells. tt;
  prices = λ came place price kept follows. learn_keeps_clearing a (after_learning a.cache k bid.number bid.demand) place price follows;
}

-- a concentrator with the same cache and limits
concentrator_shaped : (plan : PlanData) (y : ℕ) (old new : Gathered) → new.cache ≡ old.cache → new.limits ≡ old.limits →
    IsShapedMatcher plan y (Concentrator old) → IsShapedMatcher plan y (Concentrator new)
concentrator_shaped plan y old new cache limits is =
    shaped_like plan y (Concentrator old) (Concentrator new) (λ kind. (kind.0, limits ∙ kind.1)) (ap (λ (c : Cache). c.steps) cache)
    (ap (λ (c : Cache). length c.demands) cache) (ap (λ (c : Cache). length c.heads) cache) is

-- one that made a bid moved on
pub make_moves : (old new : Gathered) (n : ℕ) → BidMade old new n → MovesOn (Concentrator old) (Concentrator new)
make_moves old new n made = record {
  shaped = λ plan y is. concentrator_shaped plan y old new made.cache made.limits is;
  own = λ kept. make_keeps_record old new n made;
  bids = λ b kept tells. (tells.0, tells.1, make_keeps_bid old new n made b.number tells.0 tells.2);
  prices = λ came place price kept follows. make_keeps_price old new n made came place price follows;
}

-- one that passed a price on moved on
pub pass_moves : (old new : Gathered) (price : PriceUpdate) → MayPassOn old price → Passed old new price.number →
    MovesOn (Concentrator old) (Concentrator new)
pass_moves old new price may passed = record {
  shaped = λ plan y is. concentrator_shaped plan y old new passed.cache passed.limits is;
  own = λ kept. pass_keeps_record old new price may passed kept;
  bids = λ b kept tells. (tells.0, tells.1, pass_keeps_bid old new price may passed b.number tells.0 tells.2);
  prices = λ came place down kept follows. pass_keeps_price old new price may passed came place down follows;
}

-- one that cleared moved on
pub clear_moves : (old new : Auction) (index step : ℕ) → MarketCleared old new index step → MovesOn (Auctioneer old) (Auctioneer new)
clear_moves old new index step cleared = record {
  shaped = λ plan y is. shaped_like plan y (Auctioneer old) (Auctioneer new) (λ kind. kind) (ap (λ (c : Cache). c.steps) cleared.cache)
      (ap (λ (c : Cache). length c.demands) cleared.cache) (ap (λ (c : Cache). length c.heads) cleared.cache) is;
  own = λ kept. clear_tells old new index step cleared;
  bids = λ b kept tells. tt;
  prices = λ came place price kept follows. clear_keeps_price old new index step cleared place price follows;
}
