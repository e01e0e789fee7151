-- Of `join_all`: what it ensures; the turns of its loop over `place`.
use Rattle.std.proofs.Common.{rules, []}
use Rattle.pm_plan.specs.Parts.{event_part, join}
use Rattle.pm_gen.specs.Nodes.{device_name}
use Rattle.pm_gen.proofs.Ranges.{map-pushed}
use Rattle.pm_gen.proofs.rounds.join_all.Goals as goal

pub loop-place-preserved : goal.loop-place-preserved
loop-place-preserved c = map-pushed event_part (λ i. join (device_name i)) [] c.loop-place.events.items c.push.new.self.items
    c.in_ok-join.field-0 c.loop-place.place c.in_ok-push.ensures.items c.in_ok-join.ensures c.loop-place.invariant

pub returns : goal.returns
returns c = search rules
