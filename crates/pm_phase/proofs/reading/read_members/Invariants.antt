-- Of `read_members`: what its loop over `node` keeps.
use Rattle.std.proofs.Common.{◌≡◌, ◌-◌, ◌≤◌, map}
use Rattle.std.specs.Prelude.{filter}
use Rattle.std.specs.List.{range_with_len}
use Rattle.pm_carried.specs.Carried.{carried_member}
use Rattle.pm_phase.specs.PartsEnd.{held_of_parts, is_member_in}
use Rattle.pm_phase.proofs.reading.read_members.Given as goal

abbrev pub invariant-loop-node : goal.invariant-loop-node
invariant-loop-node l = (1 ≤ l.node)
    × (l.lines.items ≡ map (carried_member l.plan (held_of_parts l.parts)) (filter (is_member_in l.parts) (range_with_len 1 (l.node - 1))))
