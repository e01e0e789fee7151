-- Of `read_all_limited`: what its loop over `node` keeps.
use Rattle.std.proofs.Common.{◌≡◌, ◌-◌, ◌≤◌, map}
use Rattle.std.specs.Prelude.{filter}
use Rattle.std.specs.List.{range_with_len}
use Rattle.pm_plan.specs.Plans.{is_limited}
use Rattle.pm_carried.specs.Carried.{carried_limited}
use Rattle.pm_phase.specs.PartsEnd.{held_of_parts}
use Rattle.pm_phase.proofs.reading.read_all_limited.Given as goal

abbrev pub invariant-loop-node : goal.invariant-loop-node
invariant-loop-node l = (1 ≤ l.node)
    × (l.lines.items ≡ map (carried_limited l.plan (held_of_parts l.parts)) (filter (is_limited l.plan) (range_with_len 1 (l.node - 1))))
