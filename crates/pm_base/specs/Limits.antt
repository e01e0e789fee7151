-- The limits of the market: this project's profile.
use Rattle.std.specs.Prelude.{ℕ, ◌+◌, ◌*◌, ◌≤◌, ℤ, pos, neg_ℤ, ◌≤ℤ◌}
use Rattle.pm_base.specs.declared.limits.Limits.{Limits}

-- the least and the greatest number of steps of a market basis
abbrev pub least_steps : ℕ
least_steps = 2

abbrev pub most_steps : ℕ
most_steps = 1000

-- so many steps may a market basis have
pub record AreSteps (steps : ℕ) : Type 0 where
  pub least : least_steps ≤ steps
  pub most : steps ≤ most_steps

-- the most nodes of a cluster, the auctioneer not counted
abbrev pub most_nodes : ℕ
most_nodes = 256

-- the most concentrators on a path from a node to the auctioneer, the node included
abbrev pub most_depth : ℕ
most_depth = 6

-- the most numbers of a concentrator that no price has answered
abbrev pub window_size : ℕ
window_size = 8

-- the largest absolute value of a price, in price units
abbrev pub price_limit : ℕ
price_limit = 1000000000

-- the largest absolute value of one demand, and of a sum of demands, in watts
abbrev pub demand_limit : ℕ
demand_limit = 1000000000

abbrev pub sum_limit : ℕ
sum_limit = 256000000000

-- a number between -limit and limit
pub record IsWithin (limit : ℕ) (number : ℤ) : Type 0 where
  pub low : neg_ℤ (pos limit) ≤ℤ number
  pub high : number ≤ℤ pos limit

-- a floor that is not positive and a ceiling that is not negative, both within the limit of a sum: power 0 lies
-- between them, so that a part of the cluster without members announces 0
pub record AreLimits (limits : Limits) : Type 0 where
  pub floor_not_positive : limits.floor ≤ℤ pos 0
  pub ceiling_not_negative : pos 0 ≤ℤ limits.ceiling
  pub floor_within : IsWithin sum_limit limits.floor
  pub ceiling_within : IsWithin sum_limit limits.ceiling

-- the most phases of a run, events of a phase, and changes of a run
abbrev pub most_phases : ℕ
most_phases = 1000

abbrev pub most_events : ℕ
most_events = 4096

abbrev pub most_changes : ℕ
most_changes = 20000

-- how many moves a run of so many changes, nodes and phases has at most: a change is counted at most once as itself,
-- 7 times as a learning, 6 times in publishing, once in clearing and once for each node in passing, and each phase is
-- closed once
abbrev pub move_bound : ℕ → ℕ → ℕ → ℕ
move_bound changes nodes phases = changes * (nodes + 15) + phases
