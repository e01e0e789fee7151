-- How many moves a legal journal has at most.
use Rattle.std.specs.Prelude.{ℕ, if◌then◌else◌}
use Rattle.pm_base.specs.Limits.{move_bound}
use Rattle.pm_market.specs.Lists.{Lists, nodes, phases, is_leaf, changes}
use Rattle.pm_market.specs.State.{sum_to}

-- the changes of all devices
abbrev pub change_total : Lists → ℕ
change_total lists = sum_to (nodes lists) (λ d. if is_leaf lists d then changes lists d else 0)

-- the bound on the moves of a run with these changes, nodes and phases
abbrev pub bound : Lists → ℕ
bound lists = move_bound (change_total lists) (nodes lists) (phases lists)
