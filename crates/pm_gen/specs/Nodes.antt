-- The nodes of the demo cluster: first concentrators, then devices whose kinds, powers and starts are drawn.
use Rattle.std.specs.Prelude.{ℕ, zero, suc, ◌+◌, ◌-◌, ◌*◌, ◌/◌, ◌%◌, ◌==◌, ℤ, pos, neg_ℤ, ◌+ℤ◌, true, false}
use Rattle.std.specs.Prelude.{if◌then◌else◌, List, [], ◌∷◌, ◌++◌, map, replicate, codes, decimal}
use Rattle.std.specs.List.{range_with_len}
use Rattle.pm_device.specs.declared.kind.Kind.{Kind}
use Rattle.pm_device.specs.declared.kind.Kind.TheVariants.{Freezer, HeatPump, Cogeneration, Battery, Solar, Load}
use Rattle.pm_tree.specs.Names.{auctioneer}
use Rattle.pm_tree.specs.Entries.{Entry}
use Rattle.pm_plan.specs.Parts.{number, NodePart, concentrator, device}
use Rattle.pm_gen.specs.Draws.{next, draw_below}

-- ---- names and parents

-- how many concentrators a cluster of so many devices has: one for each 20, rounded up
abbrev pub concentrator_count : ℕ → ℕ
concentrator_count size = (size + 19) / 20

-- concentrator i is c1, c2, ..
abbrev pub concentrator_name : ℕ → List ℕ
concentrator_name i = codes "c" ++ decimal i

-- device i is d1, d2, ..
abbrev pub device_name : ℕ → List ℕ
device_name i = codes "d" ++ decimal i

-- the first concentrator stands under the auctioneer, and each other under that of half its number
abbrev pub parent_name : ℕ → List ℕ
parent_name i = if i == 1 then auctioneer else concentrator_name (i / 2)

abbrev pub concentrator_entry : ℕ → Entry
concentrator_entry i = record { name = concentrator_name i; parent = parent_name i; leaf = false }

-- the devices are dealt out to so many concentrators in turn
abbrev pub device_entry : ℕ → ℕ → Entry
device_entry count i = record { name = device_name i; parent = concentrator_name (1 + (i - 1) % count); leaf = true }

abbrev pub concentrator_entries : ℕ → List Entry
concentrator_entries count = map concentrator_entry (range_with_len 1 count)

abbrev pub device_entries : ℕ → ℕ → List Entry
device_entries count size = map (device_entry count) (range_with_len 1 size)

-- the tree of a cluster of so many devices
unfoldable pub demo_entries : ℕ → List Entry
demo_entries size = concentrator_entries (concentrator_count size) ++ device_entries (concentrator_count size) size

-- ---- kinds and starts

-- a device whose start is one of so many, from the least on, with the seed after that draw
abbrev pub with_start : Kind → ℤ → ℕ → ℕ → NodePart × ℕ
with_start kind least count seed = (device kind (number (least +ℤ pos (draw_below count seed))), next seed)

-- a device whose start is its power, without a draw
abbrev pub at_power : Kind → ℤ → ℕ → NodePart × ℕ
at_power kind power seed = (device kind (number power), seed)

-- the device of a drawn kind and power in watts, with the seed after it
unfoldable pub device_of : ℕ → ℤ → ℕ → NodePart × ℕ
device_of kind power seed =
    if kind == 0 then with_start (Freezer (neg_ℤ (pos 2200)) (neg_ℤ (pos 1800)) power (pos 20) (pos 60)) (neg_ℤ (pos 2200)) 401 seed
    else (if kind == 1 then with_start (HeatPump (pos 1900) (pos 2200) power (pos 10) (pos 30)) (pos 1900) 301 seed
    else (if kind == 2 then with_start (Cogeneration (pos 5000) (pos 8000) power (pos 100) (pos 300)) (pos 5000) 3001 seed
    else (if kind == 3 then with_start (Battery (pos 1000) power power (pos 5)) (pos 0) 1001 seed
    else (if kind == 4 then at_power Solar power seed
    else at_power Load power seed))))

-- the power of a device in watts: 100, 200, .. or 2000
abbrev pub drawn_power : ℕ → ℤ
drawn_power seed = pos (100 * (1 + draw_below 20 seed))

-- a device by its draws, first of its kind, then of its power, then of its start, with the seed after them
unfoldable pub drawn_device : ℕ → NodePart × ℕ
drawn_device seed = device_of (draw_below 6 seed) (drawn_power (next seed)) (next (next seed))

abbrev pub with_first : NodePart → List NodePart × ℕ → List NodePart × ℕ
with_first first rest = (first ∷ rest.0, rest.1)

-- so many devices one after another, with the seed after them
unfoldable pub drawn_devices : ℕ → ℕ → List NodePart × ℕ
drawn_devices zero seed = ([], seed)
drawn_devices (suc n) seed = with_first (drawn_device seed).0 (drawn_devices n (drawn_device seed).1)

-- the nodes of a cluster of so many devices, in the order of its tree
unfoldable pub demo_nodes : ℕ → ℕ → List NodePart
demo_nodes size seed = replicate (concentrator_count size) concentrator ++ (drawn_devices size seed).0
