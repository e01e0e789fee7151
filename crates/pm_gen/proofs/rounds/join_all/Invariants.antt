-- Of `join_all`: what its loop over `place` keeps.
use Rattle.std.proofs.Common.{◌≡◌, map}
use Rattle.std.specs.List.{range_with_len}
use Rattle.pm_plan.specs.Parts.{event_part, join}
use Rattle.pm_gen.specs.Nodes.{device_name}
use Rattle.pm_gen.proofs.rounds.join_all.Given as goal

abbrev pub invariant-loop-place : goal.invariant-loop-place
invariant-loop-place l = map event_part l.events.items ≡ map (λ i. join (device_name i)) (range_with_len 1 l.place)
