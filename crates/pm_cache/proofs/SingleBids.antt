-- As many single bids as there may be nodes sum within the limit of a sum.
use Rattle.std.proofs.Common.{◌≡◌, sym, subst, ℕ, ◌*◌, ◌<◌, ◌≤◌, ℤ, List, length, arith, All}
use Rattle.std.proofs.Math.ListN.{set, length-set}
use Rattle.pm_bid.specs.Bids.{AllWithinLimit, sum_of, HaveSteps}
use Rattle.pm_base.specs.Limits.{most_nodes, demand_limit, sum_limit, IsWithin}
use Rattle.pm_base.proofs.Ints.{wider}
use Rattle.pm_bid.proofs.Sums.{length-sum_of, have_steps-set, sum_of-at}
use Rattle.pm_bid.proofs.SumLaws.{total_within, Bounded}
use Rattle.pm_cache.specs.Cache.{Cache, IsCache, aggregate_with}
use Rattle.pm_cache.specs.Learning.{HasSingleBids}
use Rattle.std.proofs.lemmas.List.Elements.{All-set}

sum_within : (steps : ℕ) (bids : List (List ℤ)) → length bids ≤ most_nodes → HaveSteps steps bids →
    All (λ bid. AllWithinLimit demand_limit bid) bids → AllWithinLimit sum_limit (sum_of steps bids)
sum_within steps bids few same small step inside =
    let inside' : step < steps = omega (arith, length-sum_of steps bids same) in
    let each : All (Bounded demand_limit step) bids = λ i other lt. small i other lt step (omega (arith, same i other lt)) in
    let P : ℤ → Type 0 = λ demand. IsWithin sum_limit demand in
    subst P (sym (sum_of-at steps bids step same inside'))
    (wider (length bids * demand_limit) sum_limit _ (omega arith) (total_within demand_limit step bids each))

-- the condition of a newer bid is met where each child sends single bids
pub single_within : (cache : Cache) (child : ℕ) (demand : List ℤ) → IsCache cache → child < length cache.heads → HasSingleBids cache →
    length demand ≡ cache.steps → AllWithinLimit demand_limit demand → AllWithinLimit sum_limit (aggregate_with cache child demand)
single_within cache child demand is inside single same small =
    sum_within cache.steps (set cache.demands child demand) (omega (arith, length-set cache.demands child demand, is.same_children, is.few_children))
    (have_steps-set cache.steps cache.demands child demand same is.same_steps)
    (All-set (λ bid. AllWithinLimit demand_limit bid) cache.demands child demand small single)
