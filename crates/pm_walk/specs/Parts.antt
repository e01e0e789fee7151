-- The total of the first nodes.
use Rattle.std.specs.Prelude.{ℕ, ℤ, List, ◌∷◌, map, filter}
use Rattle.std.specs.List.{range_with_len}
use Rattle.pm_bid.specs.Bids.{sum_of}
use Rattle.pm_plan.specs.Plans.{PlanData, is_limited}
use Rattle.pm_plan.specs.Auction.{States, announcement}
use Rattle.pm_base.specs.Cuts.{Cut}

-- group 0, and the groups of the limited concentrators among the first k nodes
abbrev pub groups_to : PlanData → ℕ → List ℕ
groups_to plan k = 0 ∷ filter (is_limited plan) (range_with_len 1 k)

-- the total of these groups
unfoldable pub total_to : PlanData → States → Cut → ℕ → List ℤ
total_to plan states cut k = sum_of plan.basis.steps (map (announcement plan states cut) (groups_to plan k))
