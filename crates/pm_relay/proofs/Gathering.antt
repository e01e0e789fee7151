-- What the concentrator in a relay keeps over a bid and an answer.
use Rattle.std.proofs.Common.{◌≡◌, ◌∙◌, sym, ap, subst, ℕ, length, Some, Result, Ok, Err, true}
use Rattle.std.specs.Prelude.{IfOk}
use Rattle.std.specs.Result.{is_ok}
use Rattle.pm_base.specs.Limits.{demand_limit, most_nodes}
use Rattle.pm_bid.specs.Bids.{AllWithinLimit}
use Rattle.pm_cache.specs.Cache.{Cache, aggregate_of}
use Rattle.pm_cache.specs.Learning.{HasSingleBids}
use Rattle.pm_concentrator.specs.Concentrators.{Gathered, IsGathered, BidSettled, Passed, own_demand}
use Rattle.pm_relay.specs.Relays.{RelayValue}
use Rattle.pm_relay.specs.RelayFields.{IsRelay, HasRelayLimits}
use Rattle.pm_relay.proofs.Learnt.{same_demand}
use Rattle.pm_relay.proofs.Small.{said_small, demand_announced}

-- what a relay keeps of its concentrator, but for its numbers
pub record GathersRight (g : Gathered) : Type 0 where
  -- it has all children
  pub children : length g.cache.heads ≡ most_nodes
  -- its limits are a relay's
  pub limits : HasRelayLimits g.limits
  -- its entries are single bids
  pub single : HasSingleBids g.cache
  -- it announces a demand
  pub announced : g.announced ≡ Some (own_demand g)
  -- which is small
  pub small : AllWithinLimit demand_limit (own_demand g)

-- each relay keeps it
pub parts_of : (r : RelayValue) → IsRelay r → GathersRight r.gathered
parts_of r is = record { children = is.children; limits = is.limits; single = is.single; announced = is.announced; small = is.small }

-- it stays over a bid
pub over_bid : (old new : Gathered) (number : ℕ) → GathersRight old → BidSettled old new number → IsGathered new → GathersRight new
over_bid old new number was made sound =
    let limits : HasRelayLimits new.limits = subst HasRelayLimits (sym made.limits) was.limits in
    record {
      children = ap (λ (k : Cache). length k.heads) made.cache ∙ was.children;
      limits = limits;
      single = subst HasSingleBids (sym made.cache) was.single;
      announced = demand_announced new limits sound;
      small = subst (AllWithinLimit demand_limit) (sym made.demand) (said_small old.limits (aggregate_of old.cache) was.limits);
    }

-- and over an answer
pub over_answer : (old new : Gathered) (number : ℕ) → GathersRight old → Passed old new number → GathersRight new
over_answer old new number was passed =
    let own : own_demand new ≡ own_demand old = same_demand _ _ _ (passed.announced ∙ was.announced) in
    record {
      children = ap (λ (k : Cache). length k.heads) passed.cache ∙ was.children;
      limits = subst HasRelayLimits (sym passed.limits) was.limits;
      single = subst HasSingleBids (sym passed.cache) was.single;
      announced = passed.announced ∙ was.announced ∙ ap Some (sym own);
      small = subst (AllWithinLimit demand_limit) (sym own) was.small;
    }

-- a call that succeeded gave what it gives then
pub when_ok : {A E : Type 0} → (P : A → Type 0) (result : Result A E) → is_ok result ≡ true → IfOk result P → (value : A) × P value
when_ok P (Ok value) is h = (value, h)
when_ok P (Err fault) is h = absurd (cc is)
