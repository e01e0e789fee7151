-- What a relay announces fits a message, and a bid may be learnt beside single bids.
use Rattle.std.proofs.Common.{◌≡◌, sym, subst, ℕ, ◌<◌, ℤ, List, length, Option, Some, None, refl, arith, ◌≤ℤ◌}
use Rattle.std.specs.Prelude.{unwrap_or}
use Rattle.std.proofs.lemmas.Int.{ints, clamps}
use Rattle.std.proofs.lemmas.List.Elements.{All-replicate}
use Rattle.pm_base.specs.Limits.{IsWithin, demand_limit}
use Rattle.pm_base.specs.declared.limits.Limits.{Limits}
use Rattle.pm_bid.specs.Bids.{AllWithinLimit, zeros}
use Rattle.pm_bid.specs.Taken.{announced}
use Rattle.pm_bid.proofs.Taken.{announced-small}
use Rattle.pm_bid.proofs.Sums.{zeros-within}
use Rattle.pm_cache.specs.Cache.{Cache, IsCache, empty_cache, aggregate_of}
use Rattle.pm_cache.specs.Learning.{CanLearn, HasSingleBids, demand_of_offer}
use Rattle.pm_cache.proofs.SingleBids.{single_within}
use Rattle.pm_session.specs.Windows.{steps_of}
use Rattle.pm_concentrator.specs.Concentrators.{Gathered, IsGathered, own_demand}
use Rattle.pm_concentrator.specs.Limited.{sum_steps}
use Rattle.pm_relay.specs.RelayFields.{HasRelayLimits}

-- what a relay announces is small at each step
pub said_small : (limits : Option Limits) (sum : List ℤ) → HasRelayLimits limits → AllWithinLimit demand_limit (announced limits sum)
said_small None sum has = absurd has
said_small (Some limits) sum has = announced-small limits sum

-- a concentrator with a relay's limits has an announced demand
demand_there : (limits : Option Limits) (announced : Option (List ℤ)) (sum : List ℤ) (steps : ℕ) → HasRelayLimits limits →
    steps_of announced ≡ sum_steps limits steps → announced ≡ Some (unwrap_or announced sum)
demand_there None announced sum steps has is = absurd has
demand_there (Some limits) None sum steps has is = absurd (cc is)
demand_there (Some limits) (Some demand) sum steps has is = refl

-- so has one that stays sound
pub demand_announced : (g : Gathered) → HasRelayLimits g.limits → IsGathered g → g.announced ≡ Some (own_demand g)
demand_announced g has sound = demand_there g.limits g.announced (aggregate_of g.cache) g.cache.steps has sound.announced

-- a child's single bid may be learnt beside single bids
pub single_learnt : (cache : Cache) (child : ℕ) (demand : Option (List ℤ)) → IsCache cache → child < length cache.heads → HasSingleBids cache →
    length (demand_of_offer cache demand) ≡ cache.steps → AllWithinLimit demand_limit (demand_of_offer cache demand) → CanLearn cache child demand
single_learnt cache child demand sound inside single steps small = record {
  is_child = inside;
  equal_lengths = steps;
  within = single_within cache child (demand_of_offer cache demand) sound inside single steps small;
}
