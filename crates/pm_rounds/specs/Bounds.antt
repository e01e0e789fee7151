-- How many rounds are enough.
use Rattle.std.specs.Prelude.{ℕ, ◌+◌, ◌*◌, ◌-◌, ◌<◌, List, [], ◌∷◌}
use Rattle.pm_base.specs.Limits.{window_size}
use Rattle.pm_market.specs.Lists.{Lists, nodes}
use Rattle.pm_market.specs.Bound.{change_total}
use Rattle.pm_net.specs.Pricing.{Pricing}
use Rattle.pm_net.specs.Network.{Network}
use Rattle.pm_net.specs.Events.{Event, Sends, network_step, network_after}

-- ---- by the number of changes

-- More rounds than this settle a network. In each round before, a node takes a newer bid or price, makes a bid or a clearing, or has
-- a record again: of a node each of the first three happens at most once for each change of a device.
abbrev pub round_bound : Lists → ℕ
round_bound lists = nodes lists * (3 * change_total lists + 1) + change_total lists + 1

-- and so many full rounds: in one before, also a channel of bids or of prices may get a newer message
abbrev pub full_round_bound : Lists → ℕ
full_round_bound lists = nodes lists * (5 * change_total lists + 1) + change_total lists + 1

-- ---- by depth, while no window is full

-- So many rounds are enough with at most so many relays one below another: one round for the bids of devices, two for each level
-- of relays, one to clear, and one for each level of prices, devices included.
abbrev pub rounds_of_depth : ℕ → ℕ
rounds_of_depth depth = 3 * depth + 3

-- so many bring the bids of all devices into the newest clearing
abbrev pub rounds_to_clear : ℕ → ℕ
rounds_to_clear depth = 2 * depth + 2

-- a relay that is asked to send has room in its window
abbrev pub HasRoomFor : Network → Event → Type 0
HasRoomFor net (Sends c) = net.last_number c - net.answered c < window_size
HasRoomFor net _ = Unit {0}

abbrev pub HaveRoom : Lists → Pricing → Network → List Event → Type 0
HaveRoom lists p net [] = Unit {0}
HaveRoom lists p net (e ∷ es) = HasRoomFor net e × HaveRoom lists p (network_step lists p net e) es

abbrev pub RoundsHaveRoom : Lists → Pricing → Network → List (List Event) → Type 0
RoundsHaveRoom lists p net [] = Unit {0}
RoundsHaveRoom lists p net (round ∷ rounds) = HaveRoom lists p net round × RoundsHaveRoom lists p (network_after lists p net round) rounds
