-- An auctioneer after Hello keeps its steps and its children, and clears at a step of its basis.
use Rattle.std.proofs.Common.{◌≡◌, ◌∙◌, ap, refl, ℕ, ◌<◌, ◌≤◌, ℤ, ◌+ℤ◌, Bool, true, false, List, []}
use Rattle.std.proofs.Common.{◌∷◌, length, Option, None, Some, arith}
use Rattle.std.proofs.Common.{inl, inr}
use Rattle.std.specs.Prelude.{nat_le, if◌then◌else◌}
use Rattle.std.specs.Simd.Lanes.{zip2}
use Rattle.std.proofs.Math.ListN.{length-set}
use Rattle.pm_bid.specs.Bids.{sum_of}
use Rattle.pm_bid.specs.Clearing.{clearing_step}
use Rattle.pm_bid.proofs.Sums.{length-zeros}
use Rattle.pm_cache.specs.Cache.{Cache, kept_number, aggregate_of}
use Rattle.pm_cache.specs.Learning.{with_newer_bid, after_learning}
use Rattle.pm_relay.specs.Roots.{RootValue, with_root_bid, LooksForClearing, RootCleared}
use Rattle.pm_services.specs.HeldRootFields.{IsHeldRoot}

-- ---- the step at which the market clears

shorter : (xs ys : List ℤ) → length (zip2 ◌+ℤ◌ xs ys) ≤ length ys
shorter [] [] = omega arith
shorter [] (y ∷ ys) = omega arith
shorter (x ∷ xs) [] = omega arith
shorter (x ∷ xs) (y ∷ ys) = omega (arith, shorter xs ys)

sum_short : (steps : ℕ) (bids : List (List ℤ)) → length (sum_of steps bids) ≤ steps
sum_short steps [] = omega (arith, length-zeros steps)
sum_short steps (bid ∷ bids) = omega (arith, shorter bid (sum_of steps bids), sum_short steps bids)

clears_inside : (cache : Cache) → 1 ≤ cache.steps → clearing_step (aggregate_of cache) < cache.steps
clears_inside cache some = omega (arith, sum_short cache.steps cache.demands)

-- ---- what a bid leaves

-- as many steps and children
record SameShape (old new : Cache) : Type 0 where
  -- the steps
  pub steps : new.steps ≡ old.steps
  pub children : length new.heads ≡ length old.heads

newer_shape : (cache : Cache) (child number : ℕ) (demand : Option (List ℤ)) → SameShape cache (with_newer_bid cache child number demand)
newer_shape cache child number None = record { steps = refl; children = length-set cache.heads child _ }
newer_shape cache child number (Some bid) = record { steps = refl; children = length-set cache.heads child _ }

either_shape : (test : Bool) (old new : Cache) → SameShape old new → SameShape old (if test then old else new)
either_shape true old new same = record { steps = refl; children = refl }
either_shape false old new same = same

learnt_shape : (cache : Cache) (child number : ℕ) (demand : Option (List ℤ)) → SameShape cache (after_learning cache child number demand)
learnt_shape cache child number demand =
    either_shape (nat_le number (kept_number cache child)) cache (with_newer_bid cache child number demand) (newer_shape cache child number demand)

-- the cache of an auctioneer that looks for its clearing after a bid
looks_cache : (old new : RootValue) (child number : ℕ) (demand : Option (List ℤ)) → LooksForClearing (with_root_bid old child number demand) new →
    new.auction.cache ≡ after_learning old.auction.cache child number demand
looks_cache old new child number demand (inl found) = found.1.cleared.cache
looks_cache old new child number demand (inr stays) = ap (λ (r : RootValue). r.auction.cache) stays.1

-- an auctioneer keeps its steps with a bid
pub bid_steps : (old new : RootValue) (child number : ℕ) (demand : Option (List ℤ)) → LooksForClearing (with_root_bid old child number demand) new →
    new.auction.cache.steps ≡ old.auction.cache.steps
bid_steps old new child number demand looks =
    ap (λ (k : Cache). k.steps) (looks_cache old new child number demand looks) ∙ (learnt_shape old.auction.cache child number demand).steps

bid_children : (old new : RootValue) (child number : ℕ) (demand : Option (List ℤ)) → LooksForClearing (with_root_bid old child number demand) new →
    length new.auction.cache.heads ≡ length old.auction.cache.heads
bid_children old new child number demand looks =
    ap (λ (k : Cache). length k.heads) (looks_cache old new child number demand looks) ∙ (learnt_shape old.auction.cache child number demand).children

bid_inside : (steps : ℕ) (old new : RootValue) (child number : ℕ) (demand : Option (List ℤ)) → IsHeldRoot steps old →
    LooksForClearing (with_root_bid old child number demand) new → new.auction.step < steps
bid_inside steps old new child number demand is (inl found) =
    let shape = learnt_shape old.auction.cache child number demand in
    let inside = clears_inside (after_learning old.auction.cache child number demand) (omega (arith, shape.steps, is.steps, is.basis.least)) in
    omega (arith, found.1.cleared.new_step, inside, shape.steps, is.steps)
bid_inside steps old new child number demand is (inr stays) = omega (arith, ap (λ (r : RootValue). r.auction.step) stays.1, is.inside)

-- ---- what stays

-- an auctioneer that learns a bid
pub learnt : (steps : ℕ) (old new : RootValue) (child number : ℕ) (demand : Option (List ℤ)) → IsHeldRoot steps old →
    LooksForClearing (with_root_bid old child number demand) new → IsHeldRoot steps new
learnt steps old new child number demand is looks = record {
  basis = is.basis;
  steps = bid_steps old new child number demand looks ∙ is.steps;
  children = bid_children old new child number demand looks ∙ is.children;
  inside = bid_inside steps old new child number demand is looks;
}

-- one that clears the market
pub cleared : (steps : ℕ) (old new : RootValue) (index step : ℕ) → IsHeldRoot steps old → RootCleared old new index step → IsHeldRoot steps new
cleared steps old new index step is made =
    let inside = clears_inside old.auction.cache (omega (arith, is.steps, is.basis.least)) in
    record {
      basis = is.basis;
      steps = ap (λ (k : Cache). k.steps) made.cleared.cache ∙ is.steps;
      children = ap (λ (k : Cache). length k.heads) made.cleared.cache ∙ is.children;
      inside = omega (arith, made.cleared.new_step, made.cleared.step, inside, is.steps);
    }
