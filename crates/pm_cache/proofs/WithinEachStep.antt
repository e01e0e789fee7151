-- A bid may be learnt exactly where the sum with it is within the limit at each step.
use Rattle.std.proofs.Common.{◌≡◌, ◌∙◌, sym, ap, subst, refl, ℕ, ◌<◌, ℤ, pos, ◌+ℤ◌, ◌-ℤ◌, List, length, Option, Some, None}
use Rattle.std.proofs.Common.{arith, ◌+◌}
use mathlib.Core.Logic.{dite}
use native.Mathlib.Decide.{ℕ_discrete}
use Rattle.std.specs.Prelude.{IfSome}
use Rattle.pm_base.specs.Limits.{sum_limit, IsWithin}
use Rattle.pm_base.proofs.Lists.{get_or-replicate_same}
use Rattle.pm_bid.specs.Bids.{demand_at, pairwise_sum, pairwise_difference, AllWithinLimit}
use Rattle.pm_bid.proofs.EachStep.{pairwise_sum-at, pairwise_difference-at, length-added, length-taken_off}
use Rattle.pm_bid.proofs.Sums.{length-sum_of, length-zeros}
use Rattle.pm_cache.specs.Cache.{Cache, IsCache, aggregate_of, aggregate_with, child_demand}
use Rattle.pm_cache.specs.Learning.{CanLearn, IsWithinAt, demand_of_offer, offered_at}
use Rattle.pm_cache.proofs.Entries.{replaced}

-- what holds of the numbers below one, and of that one, holds of one more
pub one_more : (P : ℕ → Type 0) (n : ℕ) → ((k : ℕ) → k < n → P k) → P n → (k : ℕ) → k < n + 1 → P k
one_more P n before here k below = dite (ℕ_discrete k n) (λ e. subst P (sym e) here) (λ not. before k (omega (arith, below, not)))

-- the demand that is offered is that of the offer's list
offered_is : (cache : Cache) (demand : Option (List ℤ)) (k : ℕ) → offered_at demand k ≡ demand_at (demand_of_offer cache demand) k
offered_is cache None k = sym (get_or-replicate_same cache.steps k (pos 0))
offered_is cache (Some bid) k = refl

offered_steps : (cache : Cache) (demand : Option (List ℤ)) → IfSome demand (λ bid. length bid ≡ cache.steps)
    → length (demand_of_offer cache demand) ≡ cache.steps
offered_steps cache None h = length-zeros cache.steps
offered_steps cache (Some bid) h = h

-- a cache, a child of it, and a demand of as many steps
module _ (cache : Cache) (child : ℕ) (demand : Option (List ℤ)) (sound : IsCache cache) (inside : child < length cache.heads)
    (has_steps : IfSome demand (λ bid. length bid ≡ cache.steps)) where
  abbrev new : List ℤ
  new = demand_of_offer cache demand

  same : length new ≡ cache.steps
  same = offered_steps cache demand has_steps

  abbrev rest : List ℤ
  rest = pairwise_difference (aggregate_of cache) (child_demand cache child)

  long : length (aggregate_of cache) ≡ cache.steps
  long = length-sum_of cache.steps cache.demands sound.same_steps

  own_steps : length (child_demand cache child) ≡ cache.steps
  own_steps = sound.same_steps child _ (omega (arith, inside, sound.same_children))

  rest_steps : length rest ≡ cache.steps
  rest_steps = length-taken_off (aggregate_of cache) (child_demand cache child) (long ∙ sym own_steps) ∙ long

  is : pairwise_sum rest new ≡ aggregate_with cache child new
  is = replaced cache (aggregate_of cache) (child_demand cache child) new child sound refl inside refl same

  whole : length (pairwise_sum rest new) ≡ cache.steps
  whole = length-added rest new (rest_steps ∙ sym same) ∙ rest_steps

  -- the sum with the offer in the child's place, at a step
  at : (k : ℕ) → k < cache.steps → demand_at (pairwise_sum rest new) k
      ≡ ((demand_at (aggregate_of cache) k -ℤ demand_at (child_demand cache child) k) +ℤ offered_at demand k)
  at k within =
      pairwise_sum-at rest new k (omega (arith, within, rest_steps)) (rest_steps ∙ sym same)
      ∙ ap (λ z. z +ℤ demand_at new k)
      (pairwise_difference-at (aggregate_of cache) (child_demand cache child) k (omega (arith, within, long)) (long ∙ sym own_steps))
      ∙ ap (λ z. (demand_at (aggregate_of cache) k -ℤ demand_at (child_demand cache child) k) +ℤ z) (sym (offered_is cache demand k))

  -- a bid with which the sum is within the limit at every step may be learnt
  pub can_learn : ((k : ℕ) → k < cache.steps → IsWithinAt cache child demand k) → CanLearn cache child demand
  can_learn each = record {
    is_child = inside;
    equal_lengths = same;
    within = subst (AllWithinLimit sum_limit) is (λ k below.
        let here : k < cache.steps = omega (arith, below, whole) in
        subst (λ (z : ℤ). IsWithin sum_limit z) (sym (at k here)) (each k here));
  }

  -- with a bid that may be learnt the sum is within the limit at every step
  pub within_at : CanLearn cache child demand → (k : ℕ) → k < cache.steps → IsWithinAt cache child demand k
  within_at may k here =
      let all : AllWithinLimit sum_limit (pairwise_sum rest new) = subst (AllWithinLimit sum_limit) (sym is) may.within in
      subst (λ (z : ℤ). IsWithin sum_limit z) (at k here) (all k (omega (arith, here, whole)))
