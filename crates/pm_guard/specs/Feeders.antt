-- A feeder: a guard and the nodes below it, which are devices and relays with guards of their own, over any history of events.
use Rattle.std.specs.Prelude.{ℕ, zero, suc, ℤ, Bool, true, false, ◌&&◌, if◌then◌else◌, nat_le}
use Rattle.std.specs.Prelude.{List, [], ◌∷◌, ◌++◌, slice_get, Option, Some, None}
use Rattle.std.specs.Int.{int_max, int_min}
use Rattle.pm_base.specs.declared.limits.Limits.{Limits}
use Rattle.pm_guard.specs.Bands.{total_by, may_span, are_held}
use Rattle.pm_guard.specs.Guards.{GuardData, worst, best, may_tell, told_in, promised_in, under_limits}
use Rattle.pm_guard.specs.declared.band.Band.{Band}

-- a device: all that it was ever told, the index below which it promised to take nothing any more, and the watts that it really takes
pub record Device : Type 0 where
  pub told : List Band
  pub promised : ℕ
  pub power : ℤ

-- a guard and what is below it
pub record FeederOf (Below : Type 0) : Type 0 where
  pub guard : GuardData
  pub nodes : List Below

-- a relay: what the guard above it told it, what it promised, and its own feeder. It takes what its nodes take
pub record RelayOf (Below : Type 0) : Type 0 where
  pub told : List Band
  pub promised : ℕ
  pub feeder : FeederOf Below

-- what is below a guard
pub data NodeOf (Below : Type 0) : Type 0 where
  DeviceNode : Device → NodeOf Below
  RelayNode : RelayOf Below → NodeOf Below

-- a node with at most so many guards one below another
abbrev pub Node : ℕ → Type 0
Node zero = Device
Node (suc depth) = NodeOf (Node depth)

-- a feeder below whose guard there are at most so many others, one below another
abbrev pub Feeder : ℕ → Type 0
Feeder depth = FeederOf (Node depth)

-- ---- what a node was told, what it promised, and what it takes

abbrev pub told_to : (depth : ℕ) → Node depth → List Band
told_to zero device = device.told
told_to (suc depth) (DeviceNode device) = device.told
told_to (suc depth) (RelayNode relay) = relay.told

abbrev pub promise_of : (depth : ℕ) → Node depth → ℕ
promise_of zero device = device.promised
promise_of (suc depth) (DeviceNode device) = device.promised
promise_of (suc depth) (RelayNode relay) = relay.promised

-- the watts that really flow to a node: of a relay those of all devices below it together
abbrev pub flow_to : (depth : ℕ) → Node depth → ℤ
flow_to zero device = device.power
flow_to (suc depth) (DeviceNode device) = device.power
flow_to (suc depth) (RelayNode relay) = total_by (flow_to depth) relay.feeder.nodes

abbrev pub flow_in : (depth : ℕ) → Feeder depth → ℤ
flow_in depth feeder = total_by (flow_to depth) feeder.nodes

-- what a guard may let flow at least and at most, now and until it gets other limits
abbrev pub low_end : GuardData → ℤ
low_end guard = int_min guard.limits.floor (best guard)

abbrev pub high_end : GuardData → ℤ
high_end guard = int_max guard.limits.ceiling (worst guard)

-- the same of a node: a device takes what it takes
abbrev pub low_of : (depth : ℕ) → Node depth → ℤ
low_of zero device = device.power
low_of (suc depth) (DeviceNode device) = device.power
low_of (suc depth) (RelayNode relay) = low_end relay.feeder.guard

abbrev pub high_of : (depth : ℕ) → Node depth → ℤ
high_of zero device = device.power
high_of (suc depth) (DeviceNode device) = device.power
high_of (suc depth) (RelayNode relay) = high_end relay.feeder.guard

-- ---- what may happen

-- At a guard and the nodes right below it. A message that is lost is an event that never comes; one that is late or repeated comes later,
-- or again.
pub data FeederEvent : Type 0 where
  -- the guard tells a child a band, if it may
  Tells : (child : ℕ) (band : Band) → FeederEvent
  -- a device takes some power that it may take, by anything that it was told and did not promise away: also after a restart
  Takes : (child : ℕ) (power : ℤ) → FeederEvent
  -- a node promises, and stores, that it takes nothing below an index any more; it may take what it takes without that
  Promises : (child index : ℕ) → FeederEvent
  -- the guard hears that a node made such a promise
  Hears : (child index : ℕ) → FeederEvent
  -- the guard is given other limits
  Limited : (limits : Limits) → FeederEvent
  -- the guard starts anew, and holds these bands: they allow all that the nodes were told and may still take
  Restarts : (held : List (List Band)) → FeederEvent

-- a node after it was told one more band
abbrev pub told_more : Band → (depth : ℕ) → Node depth → Node depth
told_more band zero device = record { told = device.told ++ band ∷ []; promised = device.promised; power = device.power }
told_more band (suc depth) (DeviceNode device) = DeviceNode (record { told = device.told ++ band ∷ []; promised = device.promised; power = device.power })
told_more band (suc depth) (RelayNode relay) = RelayNode (record { told = relay.told ++ band ∷ []; promised = relay.promised; feeder = relay.feeder })

-- a device after it took a power, if it may
abbrev pub power_taken : ℤ → Device → Device
power_taken power device =
    if may_span device.told device.promised power power
    then record { told = device.told; promised = device.promised; power = power }
    else device

-- a relay takes what its own nodes take
abbrev pub node_takes : ℤ → (depth : ℕ) → Node depth → Node depth
node_takes power zero device = power_taken power device
node_takes power (suc depth) (DeviceNode device) = DeviceNode (power_taken power device)
node_takes power (suc depth) (RelayNode relay) = RelayNode relay

-- whether a node may promise: it promises no less than before, and without all below the index it may take what it may take now
abbrev pub may_promise : (told : List Band) (promised index : ℕ) (low high : ℤ) → Bool
may_promise told promised index low high = nat_le promised index && may_span told index low high

abbrev pub device_promises : ℕ → Device → Device
device_promises index device =
    if may_promise device.told device.promised index device.power device.power
    then record { told = device.told; promised = index; power = device.power }
    else device

abbrev pub relay_promises : {Below : Type 0} → ℕ → RelayOf Below → RelayOf Below
relay_promises index relay =
    if may_promise relay.told relay.promised index (low_end relay.feeder.guard) (high_end relay.feeder.guard)
    then record { told = relay.told; promised = index; feeder = relay.feeder }
    else relay

abbrev pub node_promises : ℕ → (depth : ℕ) → Node depth → Node depth
node_promises index zero device = device_promises index device
node_promises index (suc depth) (DeviceNode device) = DeviceNode (device_promises index device)
node_promises index (suc depth) (RelayNode relay) = RelayNode (relay_promises index relay)

-- the nodes with one of them changed, if it is there
abbrev pub one_changed : {A : Type 0} → ℕ → (A → A) → List A → List A
one_changed child change [] = []
one_changed zero change (node ∷ nodes) = change node ∷ nodes
one_changed (suc child) change (node ∷ nodes) = node ∷ one_changed child change nodes

-- whether a node did promise this: a message may only come if it was sent
abbrev pub has_promised : (depth : ℕ) → ℕ → Option (Node depth) → Bool
has_promised depth index None = false
has_promised depth index (Some node) = nat_le index (promise_of depth node)

-- whether these bands, a list for each node, allow all that the nodes were told and may still take
abbrev pub are_all_held : (depth : ℕ) → List (List Band) → List (Node depth) → Bool
are_all_held depth [] [] = true
are_all_held depth [] (node ∷ nodes) = false
are_all_held depth (held ∷ helds) [] = false
are_all_held depth (held ∷ helds) (node ∷ nodes) =
    are_held held (promise_of depth node) (told_to depth node) && are_all_held depth helds nodes

-- the feeder after an event at its own guard
abbrev pub here_after : (depth : ℕ) → FeederEvent → Feeder depth → Feeder depth
here_after depth (Tells child band) feeder =
    if may_tell feeder.guard child band.low band.high
    then record { guard = told_in feeder.guard child band; nodes = one_changed child (told_more band depth) feeder.nodes }
    else feeder
here_after depth (Takes child power) feeder =
    record { guard = feeder.guard; nodes = one_changed child (node_takes power depth) feeder.nodes }
here_after depth (Promises child index) feeder =
    record { guard = feeder.guard; nodes = one_changed child (node_promises index depth) feeder.nodes }
here_after depth (Hears child index) feeder =
    if has_promised depth index (slice_get feeder.nodes child)
    then record { guard = promised_in feeder.guard child index; nodes = feeder.nodes }
    else feeder
here_after depth (Limited limits) feeder = record { guard = under_limits feeder.guard limits; nodes = feeder.nodes }
here_after depth (Restarts held) feeder =
    if are_all_held depth held feeder.nodes
    then record { guard = record { limits = feeder.guard.limits; held = held }; nodes = feeder.nodes }
    else feeder

-- A relay's own guard goes on: not if it might then let flow what the relay may not take by what it was told. So it takes limits only
-- within that.
abbrev pub relay_after : {Below : Type 0} → RelayOf Below → FeederOf Below → RelayOf Below
relay_after relay feeder =
    if may_span relay.told relay.promised (low_end feeder.guard) (high_end feeder.guard)
    then record { told = relay.told; promised = relay.promised; feeder = feeder }
    else relay

-- something that happens below a relay; a device has nothing below it
abbrev pub below_after : {Below : Type 0} → (FeederOf Below → FeederOf Below) → NodeOf Below → NodeOf Below
below_after happens (DeviceNode device) = DeviceNode device
below_after happens (RelayNode relay) = RelayNode (relay_after relay (happens relay.feeder))

-- the feeder after an event at the guard that a path leads to: the number of a child at each guard on the way down
abbrev pub feeder_after : (depth : ℕ) → List ℕ → FeederEvent → Feeder depth → Feeder depth
feeder_after depth [] event feeder = here_after depth event feeder
feeder_after zero (child ∷ path) event feeder = feeder
feeder_after (suc depth) (child ∷ path) event feeder =
    record { guard = feeder.guard; nodes = one_changed child (below_after (feeder_after depth path event)) feeder.nodes }

-- an event and the guard at which it happens
pub record PlacedEvent : Type 0 where
  pub path : List ℕ
  pub event : FeederEvent

-- a whole history
abbrev pub after_all : (depth : ℕ) → Feeder depth → List PlacedEvent → Feeder depth
after_all depth feeder [] = feeder
after_all depth feeder (next ∷ events) = after_all depth (feeder_after depth next.path next.event feeder) events
