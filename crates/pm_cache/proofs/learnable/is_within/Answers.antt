-- Of `is_within`: its clauses `yes` and `no`.
use Rattle.std.proofs.Common.{rules, ◌≡◌, ◌∙◌, sym, ap, subst, ℤ, ◌+ℤ◌, ◌-ℤ◌, w64, FitsSigned, to_z, of_z}
use Rattle.std.specs.Option.{option_copied}
use Rattle.std.proofs.lemmas.Int.{to_z-of_z}
use Rattle.pm_base.specs.Limits.{sum_limit, IsWithin}
use Rattle.pm_bid.specs.Bids.{demand_at}
use Rattle.pm_cache.specs.Cache.{aggregate_of, child_demand}
use Rattle.pm_cache.specs.Learning.{offered_at}
use Rattle.pm_cache.proofs.learnable.is_within.Given.{Over}
use Rattle.pm_cache.proofs.learnable.is_within.Goals as goal
use Rattle.pm_cache.proofs.learnable.is_within.Goals.{After-is_sum_within}

-- a number within the limit of a sum is that of its bits
read_back : (z : ℤ) → IsWithin sum_limit z → to_z w64 (of_z w64 z) ≡ z
read_back z within = let fits : FitsSigned w64 z = search rules in to_z-of_z w64 z fits

-- the sum that was tested is that of the three demands at the step
tested : (g : Over) (c : After-is_sum_within g) →
    ((to_z w64 (of_z w64 c.at-sum.result) -ℤ to_z w64 (of_z w64 c.demand-old.result)) +ℤ to_z w64 (of_z w64 c.demand_offered-new.result))
    ≡ ((demand_at (aggregate_of c.args.cache.now) c.args.step -ℤ demand_at (child_demand c.args.cache.now c.args.child) c.args.step)
    +ℤ offered_at (option_copied c.args.demand) c.args.step)
tested g c =
    let sum = read_back c.at-sum.result c.at-sum.ensures.within ∙ c.at-sum.ensures.demand
    ∙ ap (λ bid. demand_at bid c.args.step) c.aggregate.ensures.sum in
    let old = read_back c.demand-old.result c.demand-old.ensures.within ∙ c.demand-old.ensures.demand in
    let new = read_back c.demand_offered-new.result c.demand_offered-new.ensures.within ∙ c.demand_offered-new.ensures.demand in
    ap (λ (t : ℤ × ℤ × ℤ). (t.0 -ℤ t.1) +ℤ t.2) (λ i. (sum i, old i, new i))

pub returns-clause-yes : goal.returns-clause-yes
returns-clause-yes g c = λ passes. subst (IsWithin sum_limit) (tested g c) (c.is_sum_within.ensures.yes passes)

pub returns-clause-no : goal.returns-clause-no
returns-clause-no g c = λ fails is. c.is_sum_within.ensures.no fails (subst (IsWithin sum_limit) (sym (tested g c)) is)
