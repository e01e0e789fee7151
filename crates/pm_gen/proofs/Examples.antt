-- The first draws of a cluster of one device, worked by hand.
use Rattle.std.proofs.Common.{◌≡◌, refl, pos, [], ◌∷◌, take}
use Rattle.pm_device.specs.declared.kind.Kind.TheVariants.{Load}
use Rattle.pm_plan.specs.Parts.{number, device, join, leave, events, tick}
use Rattle.pm_gen.specs.Draws.{next, draw_below, first_seed}
use Rattle.pm_gen.specs.Nodes.{device_of, drawn_device, drawn_devices, device_name}
use Rattle.pm_gen.specs.Rounds.{picks, is_joined, turns, rounds, demo_phases, seed_after}

first_draw : next (first_seed 7) ≡ 599
unfolding next
first_draw = refl

second_draw : next 599 ≡ 44999
unfolding next
second_draw = refl

first_kind : draw_below 6 (first_seed 7) ≡ 5
unfolding next
first_kind = refl

first_device : drawn_devices 1 (first_seed 7) ≡ (device Load (number (pos 2000)) ∷ [], 44999)
unfolding next device_of drawn_device drawn_devices
first_device = refl

-- the device joins, and each round turns it round
first_rounds : take 5 (demo_phases 1 44999) ≡ events (join (device_name 1) ∷ []) ∷ tick (pos 15) ∷ events
    (leave (device_name 1) ∷ []) ∷ tick (pos 15) ∷ events (join (device_name 1) ∷ []) ∷ []
unfolding next picks seed_after is_joined turns rounds demo_phases
first_rounds = refl
