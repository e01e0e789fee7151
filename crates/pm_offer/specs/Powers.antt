-- The powers that the members of a group take over a cut, and their sum.
use Rattle.std.specs.Prelude.{ℕ, ◌==◌, ◌&&◌, ℤ, pos, ◌+ℤ◌, ◌≤ℤ◌, List, [], ◌∷◌, map, filter}
use Rattle.pm_base.specs.Cuts.{Cut}
use Rattle.pm_base.specs.declared.limits.Limits.{Limits}
use Rattle.pm_bid.specs.Bids.{demand_at}
use Rattle.pm_plan.specs.Plans.{PlanData, group, is_member, node_numbers}
use Rattle.pm_plan.specs.Auction.{announcement, limited_nodes, power}
use Rattle.pm_plan.specs.States.{state}

-- numbers of watts added up
abbrev pub total_watts : List ℤ → ℤ
total_watts [] = pos 0
total_watts (watts ∷ rest) = watts +ℤ total_watts rest

-- the devices of group g that are members in the cut, in file order
abbrev pub members_in : PlanData → Cut → ℕ → List ℕ
members_in plan cut g = filter (λ d. group plan d == g && is_member plan d (cut d)) (node_numbers plan)

-- the powers that they take, added up
unfoldable pub group_power : PlanData → Cut → ℕ → ℤ
group_power plan cut g = total_watts (map (power plan (state plan) cut) (members_in plan cut g))

-- what the limited concentrators announce at a step, added up
unfoldable pub announced_power : PlanData → Cut → ℕ → ℤ
announced_power plan cut step = total_watts (map (λ g. demand_at (announcement plan (state plan) cut g) step) (limited_nodes plan))

-- a power between the floor and the ceiling of some limits
pub record KeepsLimits (limits : Limits) (watts : ℤ) : Type 0 where
  pub floor : limits.floor ≤ℤ watts
  pub ceiling : watts ≤ℤ limits.ceiling
