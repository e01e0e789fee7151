-- Of `with_start`: its clause `device`.
use Rattle.std.proofs.Common.{◌≡◌, ◌∙◌, ap, ℕ, ◌<◌, ◌≤◌, ℤ, pos, neg_ℤ, ◌+ℤ◌, ◌≤ℤ◌, w64, to_z, of_z, arith}
use Rattle.std.proofs.lemmas.Int.{ints}
use Rattle.pm_plan.specs.Parts.{device, number}
use Rattle.pm_gen.proofs.devices.with_start.Goals as goal

-- a start, as the code computes it
start_is : (least : ℤ) (draw count : ℕ) → neg_ℤ (pos 10000) ≤ℤ least → least ≤ℤ pos 10000 → draw < count → count ≤ 10000 →
    to_z w64 (of_z w64 (to_z w64 (of_z w64 least) +ℤ to_z w64 draw)) ≡ least +ℤ pos draw
start_is least draw count low high below few = omega (arith, ints)

pub returns-clause-device : goal.returns-clause-device
returns-clause-device c =
    c.device.ensures ∙ ap (λ start. device c.args.kind (number start))
    (start_is c.args.least c.draw.result c.args.count c.requires.low c.requires.high c.draw.ensures.below c.requires.few
    ∙ ap (λ draw. c.args.least +ℤ pos draw) c.draw.ensures.drawn)
