-- The plan of the demo cluster.
use Rattle.std.specs.Prelude.{ℕ, pos, Bool, ◌&&◌, nat_le, Result}
use Rattle.pm_basis.specs.Prices.{BasisValue}
use Rattle.pm_plan.specs.Plans.{PlanData}
use Rattle.pm_plan.specs.Building.{checked_plan}
use Rattle.pm_plan.specs.declared.refusal.Refusal.{Refusal}
use Rattle.pm_gen.specs.Draws.{first_seed}
use Rattle.pm_gen.specs.Nodes.{demo_entries, demo_nodes, drawn_devices}
use Rattle.pm_gen.specs.Rounds.{demo_phases}

-- a cluster has 1 to 200 devices
abbrev pub is_size : ℕ → Bool
is_size size = nat_le 1 size && nat_le size 200

-- the prices 0, 1, .., 99
abbrev pub demo_basis : BasisValue
demo_basis = record { min = pos 0; max = pos 99; steps = 100 }

-- the seed after the draws of all devices, with which the rounds begin
abbrev pub seed_after_devices : ℕ → ℕ → ℕ
seed_after_devices size seed = (drawn_devices size seed).1

-- the plan of the cluster of so many devices, as a file with these parts would give it
unfoldable pub demo_plan_from : ℕ → ℕ → Result PlanData Refusal
demo_plan_from size seed =
    checked_plan demo_basis (demo_entries size) (demo_nodes size seed) (demo_phases size (seed_after_devices size seed))

abbrev pub demo_plan : ℕ → ℕ → Result PlanData Refusal
demo_plan size number = demo_plan_from size (first_seed number)
