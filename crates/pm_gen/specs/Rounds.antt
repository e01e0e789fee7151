-- The phases of the demo cluster: all devices join, and then ten rounds of a tick and of events that turn drawn
-- devices round.
use Rattle.std.specs.Prelude.{ℕ, zero, suc, ◌+◌, ◌/◌, ◌==◌, pos, Bool, false, not, if◌then◌else◌, List, [], ◌∷◌, ◌++◌, map}
use Rattle.std.specs.List.{range_with_len, fold}
use Rattle.pm_plan.specs.Parts.{EventPart, join, leave, PhasePart, events, tick}
use Rattle.pm_gen.specs.Draws.{next, draw_below}
use Rattle.pm_gen.specs.Nodes.{device_name}

-- so many drawn devices of a cluster of this size, one draw for each
unfoldable pub picks : ℕ → ℕ → ℕ → List ℕ
picks zero size seed = []
picks (suc n) size seed = (1 + draw_below size seed) ∷ picks n size (next seed)

-- the seed after so many draws
unfoldable pub seed_after : ℕ → ℕ → ℕ
seed_after zero seed = seed
seed_after (suc n) seed = seed_after n (next seed)

-- whether a device is joined after events of these devices: each event of a device turns it round
unfoldable pub is_joined : List ℕ → ℕ → Bool
is_joined earlier i = fold (λ joined named. if named == i then not joined else joined) false earlier

-- the same of each device of a cluster in order
abbrev pub joined_flags : ℕ → List ℕ → List Bool
joined_flags size earlier = map (is_joined earlier) (range_with_len 1 size)

-- an event of a device after events of these: a leave if it is joined, else a join
abbrev pub turn_event : List ℕ → ℕ → EventPart
turn_event earlier i = if is_joined earlier i then leave (device_name i) else join (device_name i)

-- the events of devices, one after another, after events of the earlier ones
unfoldable pub turns : List ℕ → List ℕ → List EventPart
turns earlier [] = []
turns earlier (i ∷ rest) = turn_event earlier i ∷ turns (earlier ++ i ∷ []) rest

-- how many events a round has
abbrev pub round_len : ℕ → ℕ
round_len size = size / 10 + 1

-- the devices that a round turns round
abbrev pub round_picks : ℕ → ℕ → List ℕ
round_picks size seed = picks (round_len size) size seed

-- so many rounds: each is a tick of 15 minutes, and then the events
unfoldable pub rounds : ℕ → ℕ → List ℕ → ℕ → List PhasePart
rounds zero size earlier seed = []
rounds (suc n) size earlier seed =
    tick (pos 15) ∷ events (turns earlier (round_picks size seed))
    ∷ rounds n size (earlier ++ round_picks size seed) (seed_after (round_len size) seed)

-- the phases of a cluster of so many devices: all join in order, and then ten rounds follow
unfoldable pub demo_phases : ℕ → ℕ → List PhasePart
demo_phases size seed =
    events (map (λ i. join (device_name i)) (range_with_len 1 size)) ∷ rounds 10 size (range_with_len 1 size) seed
