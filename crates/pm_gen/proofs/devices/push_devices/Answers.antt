-- Of `push_devices`: its clauses `devices` and `seed`; what the call of `loop` requires.
use Rattle.std.proofs.Common.{ap, ◌∙◌, [], ◌∷◌, map}
use Rattle.std.proofs.lemmas.List.{map-append}
use Rattle.pm_plan.specs.Parts.{node_part}
use Rattle.pm_gen.proofs.Drawing.{drawn-more, drawn-all, seed-all}
use Rattle.pm_gen.proofs.devices.push_devices.Goals as goal

pub loop-preserved : goal.loop-preserved
loop-preserved c =
    drawn-more (map node_part c.args.nodes.now.items) c.args.size c.args.draws.now.seed (map node_part c.loop.nodes.items)
    (map node_part c.push.new.self.items) (node_part c.draw_device.result) c.loop.counter c.loop.draws.seed c.draw_device.new.draws.seed
    c.loop-test.true c.loop.invariant
    (ap (map node_part) c.in_ok-push.ensures.items ∙ map-append node_part c.loop.nodes.items (c.draw_device.result ∷ []))
    c.draw_device.ensures.device c.draw_device.ensures.seed

pub returns-clause-devices : goal.returns-clause-devices
returns-clause-devices c = drawn-all (map node_part c.args.nodes.now.items) c.args.size c.args.draws.now.seed
    (map node_part c.loop.nodes.items) c.loop.counter c.loop.draws.seed c.loop-test.false c.loop.invariant

pub returns-clause-seed : goal.returns-clause-seed
returns-clause-seed c = seed-all (map node_part c.args.nodes.now.items) c.args.size c.args.draws.now.seed
    (map node_part c.loop.nodes.items) c.loop.counter c.loop.draws.seed c.loop-test.false c.loop.invariant
