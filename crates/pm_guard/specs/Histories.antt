-- What is asked of a feeder at the beginning of a history, what stays so, and the limits that are in force during it.
use Rattle.std.specs.Prelude.{◌≡◌, ℕ, zero, suc, ℤ, Bool, true, false, pos, List, [], ◌∷◌, All}
use Rattle.std.specs.List.{AllZip}
use Rattle.std.specs.Int.{int_max, int_min}
use Rattle.pm_guard.specs.Bands.{may_span, are_held}
use Rattle.pm_guard.specs.Guards.{GuardData}
use Rattle.pm_guard.specs.Feeders.{FeederOf, NodeOf, Node, Feeder, FeederEvent, PlacedEvent, told_to, promise_of, low_of, high_of, flow_in}
use Rattle.pm_guard.specs.Feeders.{feeder_after}
use Rattle.pm_guard.specs.Feeders.NodeOf.{DeviceNode, RelayNode}
use Rattle.pm_guard.specs.Feeders.FeederEvent.{Tells, Takes, Promises, Hears, Limited, Restarts}
use Rattle.pm_guard.specs.declared.band.Band.{Band}

-- A guard knows a node: what it holds allows all that the node was told and may still take, and the node takes nothing else
pub record FitsHeld (held told : List Band) (promised : ℕ) (low high : ℤ) : Type 0 where
  pub allows : are_held held promised told ≡ true
  pub takes : may_span told promised low high ≡ true

abbrev pub FitsNode : (depth : ℕ) → List Band → Node depth → Type 0
FitsNode depth held node = FitsHeld held (told_to depth node) (promise_of depth node) (low_of depth node) (high_of depth node)

-- so does each guard further down know its nodes
abbrev pub KnowsBelow : (depth : ℕ) → Node depth → Type 0
KnowsBelow zero device = Unit {0}
KnowsBelow (suc depth) (DeviceNode device) = Unit {0}
KnowsBelow (suc depth) (RelayNode relay) =
    AllZip (λ held node. FitsNode depth held node × KnowsBelow depth node) relay.feeder.guard.held relay.feeder.nodes

-- each guard of a feeder, at any depth, knows the nodes right below it
abbrev pub KnowsAll : (depth : ℕ) → Feeder depth → Type 0
KnowsAll depth feeder = AllZip (λ held node. FitsNode depth held node × KnowsBelow depth node) feeder.guard.held feeder.nodes

-- a node at the beginning: it was told what the guard holds of it, promised nothing, and takes some of that
pub record IsNew (held told : List Band) (promised : ℕ) (low high : ℤ) : Type 0 where
  pub is_told : told ≡ held
  pub nothing : promised ≡ 0
  pub takes : may_span told promised low high ≡ true

abbrev pub IsNewNode : (depth : ℕ) → List Band → Node depth → Type 0
IsNewNode depth held node = IsNew held (told_to depth node) (promise_of depth node) (low_of depth node) (high_of depth node)

abbrev pub IsNewBelow : (depth : ℕ) → Node depth → Type 0
IsNewBelow zero device = Unit {0}
IsNewBelow (suc depth) (DeviceNode device) = Unit {0}
IsNewBelow (suc depth) (RelayNode relay) =
    AllZip (λ held node. IsNewNode depth held node × IsNewBelow depth node) relay.feeder.guard.held relay.feeder.nodes

abbrev pub IsNewFeeder : (depth : ℕ) → Feeder depth → Type 0
IsNewFeeder depth feeder = AllZip (λ held node. IsNewNode depth held node × IsNewBelow depth node) feeder.guard.held feeder.nodes

-- ---- one guard of a feeder

-- a guard without children, for a path that leads to none
abbrev pub no_guard : GuardData
no_guard = record { limits = record { floor = pos 0; ceiling = pos 0 }; held = [] }

-- what a function gives of the element in a place
abbrev pub at_place : {A B : Type 0} → B → (A → B) → List A → ℕ → B
at_place none f [] place = none
at_place none f (x ∷ xs) zero = f x
at_place none f (x ∷ xs) (suc place) = at_place none f xs place

abbrev pub of_relay : {Below B : Type 0} → B → (FeederOf Below → B) → NodeOf Below → B
of_relay none f (DeviceNode device) = none
of_relay none f (RelayNode relay) = f relay.feeder

-- the guard that a path leads to
abbrev pub guard_at : (depth : ℕ) → List ℕ → Feeder depth → GuardData
guard_at depth [] feeder = feeder.guard
guard_at zero (child ∷ path) feeder = no_guard
guard_at (suc depth) (child ∷ path) feeder = at_place no_guard (of_relay no_guard (guard_at depth path)) feeder.nodes child

-- what all devices below that guard really take together, in watts
abbrev pub flow_at : (depth : ℕ) → List ℕ → Feeder depth → ℤ
flow_at depth [] feeder = flow_in depth feeder
flow_at zero (child ∷ path) feeder = pos 0
flow_at (suc depth) (child ∷ path) feeder = at_place (pos 0) (of_relay (pos 0) (flow_at depth path)) feeder.nodes child

-- the greatest ceiling and the least floor that are in force there at any moment of a history
abbrev pub highest_ceiling : (depth : ℕ) → List ℕ → Feeder depth → List PlacedEvent → ℤ
highest_ceiling depth path feeder [] = (guard_at depth path feeder).limits.ceiling
highest_ceiling depth path feeder (next ∷ events) =
    int_max (guard_at depth path feeder).limits.ceiling
    (highest_ceiling depth path (feeder_after depth next.path next.event feeder) events)

abbrev pub lowest_floor : (depth : ℕ) → List ℕ → Feeder depth → List PlacedEvent → ℤ
lowest_floor depth path feeder [] = (guard_at depth path feeder).limits.floor
lowest_floor depth path feeder (next ∷ events) =
    int_min (guard_at depth path feeder).limits.floor
    (lowest_floor depth path (feeder_after depth next.path next.event feeder) events)

-- which events start a guard anew, and which give it limits
abbrev pub is_restart : FeederEvent → Bool
is_restart (Tells child band) = false
is_restart (Takes child power) = false
is_restart (Promises child index) = false
is_restart (Hears child index) = false
is_restart (Limited limits) = false
is_restart (Restarts held) = true

abbrev pub gives_limits : FeederEvent → Bool
gives_limits (Tells child band) = false
gives_limits (Takes child power) = false
gives_limits (Promises child index) = false
gives_limits (Hears child index) = false
gives_limits (Limited limits) = true
gives_limits (Restarts held) = false

-- the guard that a path leads to does not start anew during these events; or gets no other limits
abbrev pub NeverStartsAnew : List ℕ → List PlacedEvent → Type 0
NeverStartsAnew path events = All (λ (next : PlacedEvent). next.path ≡ path → is_restart next.event ≡ false) events

abbrev pub HasSameLimits : List ℕ → List PlacedEvent → Type 0
HasSameLimits path events = All (λ (next : PlacedEvent). next.path ≡ path → gives_limits next.event ≡ false) events
