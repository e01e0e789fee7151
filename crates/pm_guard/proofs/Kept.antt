-- Each guard of a feeder goes on knowing its nodes, whatever happens, and so what flows is between what it counts.
use Rattle.std.proofs.Common.{◌≡◌, ◌∙◌, sym, ap, subst, refl, ℕ, zero, suc, ◌≤◌, ℤ, pos, ◌+ℤ◌, ◌≤ℤ◌, List, []}
use Rattle.std.proofs.Common.{◌∷◌, ◌++◌}
use Rattle.std.proofs.Common.{Bool, true, false, arith, slice_get, Option, Some, cond}
use Rattle.std.specs.List.{AllZip}
use Rattle.std.specs.Int.{int_max, int_min}
use Rattle.std.proofs.lemmas.Int.{ints, clamps}
use Rattle.std.proofs.lemmas.Bool.{and_parts}
use Rattle.pm_guard.specs.Bands.{greatest_power, least_power, total_by, may_span, kept_after, are_held}
use Rattle.pm_guard.specs.Guards.{GuardData, worst, best, may_tell, with_bands, bands_of, promised_in}
use Rattle.pm_guard.specs.Feeders.{Device, Node, Feeder, FeederEvent, PlacedEvent, told_to, promise_of, flow_to, flow_in, low_of, high_of}
use Rattle.pm_guard.specs.Feeders.{low_end, high_end, told_more, power_taken, node_takes, may_promise, device_promises, node_promises}
use Rattle.pm_guard.specs.Feeders.{one_changed, has_promised, are_all_held, here_after, below_after, feeder_after, after_all}
use Rattle.pm_guard.specs.Feeders.NodeOf.{DeviceNode, RelayNode}
use Rattle.pm_guard.specs.Feeders.FeederEvent.{Tells, Takes, Promises, Hears, Limited, Restarts}
use Rattle.pm_guard.specs.Histories.{FitsHeld, FitsNode, KnowsBelow, KnowsAll, IsNewNode, IsNewBelow, IsNewFeeder, no_guard, of_relay, guard_at, flow_at}
use Rattle.pm_guard.specs.declared.band.Band.{Band}
use Rattle.pm_guard.proofs.Ends.{at_most-trans}
use Rattle.pm_guard.proofs.Nodes.{le_from, span_below, span_above, fits_new, fits_told, fits_takes, fits_promises, fits_heard}
use Rattle.pm_guard.proofs.Pairs.{zip_both, zip_right, zip_left, zip_weaker, place_both}

-- what a guard knows of a node, and each guard below that of its own
abbrev pub Knows : (depth : ℕ) → List Band → Node depth → Type 0
Knows depth held node = FitsNode depth held node × KnowsBelow depth node

-- ---- what flows

add_most : (a b c d : ℤ) → a ≤ℤ b → c ≤ℤ d → (a +ℤ c) ≤ℤ (b +ℤ d)
add_most a b c d h k = omega (arith, ints)

same_least : (a : ℤ) → a ≤ℤ a
same_least a = omega (arith, ints)

-- what flows to nodes together is not above the greatest that is held of them
nodes_below : (depth : ℕ) (helds : List (List Band)) (nodes : List (Node depth)) →
    ((held : List Band) (node : Node depth) → Knows depth held node → flow_to depth node ≤ℤ high_of depth node) →
    AllZip (Knows depth) helds nodes → total_by (flow_to depth) nodes ≤ℤ total_by greatest_power helds
nodes_below depth [] [] each all = omega (arith, ints)
nodes_below depth [] (node ∷ nodes) each all = absurd all
nodes_below depth (held ∷ helds) [] each all = absurd all
nodes_below depth (held ∷ helds) (node ∷ nodes) each all =
    add_most _ _ _ _
    (at_most-trans _ _ _ (each held node all.0)
    (span_below held (told_to depth node) (promise_of depth node) (low_of depth node) (high_of depth node) all.0.0))
    (nodes_below depth helds nodes each all.1)

-- .. and not below the least
nodes_above : (depth : ℕ) (helds : List (List Band)) (nodes : List (Node depth)) →
    ((held : List Band) (node : Node depth) → Knows depth held node → low_of depth node ≤ℤ flow_to depth node) →
    AllZip (Knows depth) helds nodes → total_by least_power helds ≤ℤ total_by (flow_to depth) nodes
nodes_above depth [] [] each all = omega (arith, ints)
nodes_above depth [] (node ∷ nodes) each all = absurd all
nodes_above depth (held ∷ helds) [] each all = absurd all
nodes_above depth (held ∷ helds) (node ∷ nodes) each all =
    add_most _ _ _ _
    (at_most-trans _ _ _ (span_above held (told_to depth node) (promise_of depth node) (low_of depth node) (high_of depth node) all.0.0)
    (each held node all.0))
    (nodes_above depth helds nodes each all.1)

max_right : (a b : ℤ) → b ≤ℤ int_max a b
max_right a b = omega (arith, ints, clamps)

min_right : (a b : ℤ) → int_min a b ≤ℤ b
min_right a b = omega (arith, ints, clamps)

-- what flows to a node is not above what it may take
node_below : (depth : ℕ) (held : List Band) (node : Node depth) → Knows depth held node → flow_to depth node ≤ℤ high_of depth node
node_below zero held device knows = same_least device.power
node_below (suc depth) held (DeviceNode device) knows = same_least device.power
node_below (suc depth) held (RelayNode relay) knows =
    at_most-trans _ _ _
    (nodes_below depth relay.feeder.guard.held relay.feeder.nodes (λ h n k. node_below depth h n k) knows.1)
    (max_right relay.feeder.guard.limits.ceiling (worst relay.feeder.guard))

-- .. and not below
node_above : (depth : ℕ) (held : List Band) (node : Node depth) → Knows depth held node → low_of depth node ≤ℤ flow_to depth node
node_above zero held device knows = same_least device.power
node_above (suc depth) held (DeviceNode device) knows = same_least device.power
node_above (suc depth) held (RelayNode relay) knows =
    at_most-trans _ _ _ (min_right relay.feeder.guard.limits.floor (best relay.feeder.guard))
    (nodes_above depth relay.feeder.guard.held relay.feeder.nodes (λ h n k. node_above depth h n k) knows.1)

-- what flows in a feeder is between what its guard counts
pub flow_between : (depth : ℕ) (feeder : Feeder depth) → KnowsAll depth feeder →
    (best feeder.guard ≤ℤ flow_in depth feeder) × (flow_in depth feeder ≤ℤ worst feeder.guard)
flow_between depth feeder knows = (
  nodes_above depth feeder.guard.held feeder.nodes (λ h n k. node_above depth h n k) knows,
  nodes_below depth feeder.guard.held feeder.nodes (λ h n k. node_below depth h n k) knows,
)

abbrev pub CountsRight : GuardData → ℤ → Type 0
CountsRight guard flow = (best guard ≤ℤ flow) × (flow ≤ℤ worst guard)

none_between : CountsRight no_guard (pos 0)
none_between = (omega (arith, ints), omega (arith, ints))

-- so it is at each guard, at any depth
pub flow_between_at : (depth : ℕ) (path : List ℕ) (feeder : Feeder depth) → KnowsAll depth feeder →
    CountsRight (guard_at depth path feeder) (flow_at depth path feeder)
flow_between_at depth [] feeder knows = flow_between depth feeder knows
flow_between_at zero (child ∷ path) feeder knows = none_between
flow_between_at (suc depth) (child ∷ path) feeder knows =
    place_both (Knows (suc depth)) CountsRight no_guard (pos 0) (of_relay no_guard (guard_at depth path)) (of_relay (pos 0) (flow_at depth path))
    feeder.guard.held feeder.nodes child none_between (λ held node k. each held node k (λ f known. flow_between_at depth path f known)) knows
  where
    each : (held : List Band) (node : Node (suc depth)) → Knows (suc depth) held node →
        ((f : Feeder depth) → KnowsAll depth f → CountsRight (guard_at depth path f) (flow_at depth path f)) →
        CountsRight (of_relay no_guard (guard_at depth path) node) (of_relay (pos 0) (flow_at depth path) node)
    each held (DeviceNode device) k next = none_between
    each held (RelayNode relay) k next = next relay.feeder k.1

-- ---- one node

knows_told : (depth : ℕ) (held : List Band) (band : Band) (node : Node depth) → Knows depth held node → Knows depth (held ++ band ∷ [])
    (told_more band depth node)
knows_told zero held band device k = (fits_told held device.told band device.promised device.power device.power k.0, tt)
knows_told (suc depth) held band (DeviceNode device) k = (fits_told held device.told band device.promised device.power device.power k.0, tt)
knows_told (suc depth) held band (RelayNode relay) k =
    (fits_told held relay.told band relay.promised (low_end relay.feeder.guard) (high_end relay.feeder.guard) k.0, k.1)

abbrev pub FitsDevice : List Band → Device → Type 0
FitsDevice held d = FitsHeld held d.told d.promised d.power d.power

device_takes : (held : List Band) (power : ℤ) (d : Device) → FitsDevice held d → FitsDevice held (power_taken power d)
device_takes held power d fits = cases (may_span d.told d.promised power power) refl
  where
    cases : (b : Bool) → may_span d.told d.promised power power ≡ b →
        FitsDevice held (cond b (record { told = d.told; promised = d.promised; power = power }) d)
    cases true e = fits_takes held d.told d.promised d.power d.power power power fits e
    cases false e = fits

knows_takes : (depth : ℕ) (power : ℤ) (held : List Band) (node : Node depth) → Knows depth held node → Knows depth held (node_takes power depth node)
knows_takes zero power held device k = (device_takes held power device k.0, tt)
knows_takes (suc depth) power held (DeviceNode device) k = (device_takes held power device k.0, tt)
knows_takes (suc depth) power held (RelayNode relay) k = k

promise_kept : (held : List Band) (index : ℕ) (d : Device) → FitsDevice held d → FitsDevice held (device_promises index d)
promise_kept held index d fits = cases (may_promise d.told d.promised index d.power d.power) refl
  where
    cases : (b : Bool) → may_promise d.told d.promised index d.power d.power ≡ b →
        FitsDevice held (cond b (record { told = d.told; promised = index; power = d.power }) d)
    cases true e = fits_promises held d.told d.promised index d.power d.power fits e
    cases false e = fits

knows_promises : (depth index : ℕ) (held : List Band) (node : Node depth) → Knows depth held node → Knows depth held (node_promises index depth node)
knows_promises zero index held device k = (promise_kept held index device k.0, tt)
knows_promises (suc depth) index held (DeviceNode device) k = (promise_kept held index device k.0, tt)
knows_promises (suc depth) index held (RelayNode relay) k =
    cases (may_promise relay.told relay.promised index (low_end relay.feeder.guard) (high_end relay.feeder.guard)) refl
  where
    cases : (b : Bool) → may_promise relay.told relay.promised index (low_end relay.feeder.guard) (high_end relay.feeder.guard) ≡ b →
        Knows (suc depth) held (RelayNode (cond b (record { told = relay.told; promised = index; feeder = relay.feeder }) relay))
    cases true e =
        (fits_promises held relay.told relay.promised index (low_end relay.feeder.guard) (high_end relay.feeder.guard) k.0 e, k.1)
    cases false e = k

knows_heard : (depth : ℕ) (held : List Band) (index : ℕ) (node : Node depth) → index ≤ promise_of depth node → Knows depth held node →
    Knows depth (kept_after held index) node
knows_heard depth held index node said k =
    (fits_heard held (told_to depth node) (promise_of depth node) index (low_of depth node) (high_of depth node) said k.0, k.1)

-- ---- events

-- a guard that starts anew and holds enough knows its nodes
knows_anew : (depth : ℕ) (news helds : List (List Band)) (nodes : List (Node depth)) → AllZip (Knows depth) helds nodes →
    are_all_held depth news nodes ≡ true → AllZip (Knows depth) news nodes
knows_anew depth [] helds [] all h = tt
knows_anew depth [] helds (node ∷ nodes) all h = absurd (let clash : false ≡ true = h in cc)
knows_anew depth (new ∷ news) helds [] all h = absurd (let clash : false ≡ true = h in cc)
knows_anew depth (new ∷ news) [] (node ∷ nodes) all h = absurd all
knows_anew depth (new ∷ news) (held ∷ helds) (node ∷ nodes) all h =
    let both = and_parts (are_held new (promise_of depth node) (told_to depth node)) (are_all_held depth news nodes) h in
    ((record { allows = both.0; takes = all.0.0.takes }, all.0.1), knows_anew depth news helds nodes all.1 both.1)

-- .. which is so of a feeder whose guard starts anew
pub restart_known : (depth : ℕ) (feeder : Feeder depth) (held : List (List Band)) → KnowsAll depth feeder → are_all_held depth held feeder.nodes
    ≡ true →
    ((here_after depth (Restarts held) feeder).guard.held ≡ held) × KnowsAll depth (here_after depth (Restarts held) feeder)
restart_known depth feeder held knows h = (
  ap (λ (b : Bool). (cond b (record { guard = record { limits = feeder.guard.limits; held = held }; nodes = feeder.nodes }) feeder).guard.held) h,
  subst (λ (b : Bool). KnowsAll depth (cond b (record { guard = record { limits = feeder.guard.limits; held = held }; nodes = feeder.nodes }) feeder)) (sym h)
      (knows_anew depth held feeder.guard.held feeder.nodes knows h),
)

-- after an event at the guard on top
knows_here : (depth : ℕ) (event : FeederEvent) (feeder : Feeder depth) → KnowsAll depth feeder → KnowsAll depth (here_after depth event feeder)
knows_here depth (Tells child band) feeder knows = cases (may_tell feeder.guard child band.low band.high) refl
  where
    new : List Band
    new = bands_of feeder.guard child ++ band ∷ []

    cases : (b : Bool) → may_tell feeder.guard child band.low band.high ≡ b →
        KnowsAll depth (cond b (record
        { guard = cond b (with_bands feeder.guard child new) feeder.guard; nodes = one_changed child (told_more band depth) feeder.nodes }) feeder)
    cases true may =
        zip_both (Knows depth) (told_more band depth) feeder.guard.held feeder.nodes child [] new knows
        (λ node k. knows_told depth (bands_of feeder.guard child) band node k)
    cases false may = knows
knows_here depth (Takes child power) feeder knows =
    zip_right (Knows depth) (node_takes power depth) feeder.guard.held feeder.nodes child knows (λ held node k. knows_takes depth power held node k)
knows_here depth (Promises child index) feeder knows =
    zip_right (Knows depth) (node_promises index depth) feeder.guard.held feeder.nodes child knows (λ held node k. knows_promises depth index held node k)
knows_here depth (Hears child index) feeder knows = cases (has_promised depth index (slice_get feeder.nodes child)) refl
  where
    said : (o : Option (Node depth)) (node : Node depth) → o ≡ Some node → has_promised depth index o ≡ true → index ≤ promise_of depth node
    said o node is h = le_from index (promise_of depth node) (sym (ap (has_promised depth index) is) ∙ h)

    cases : (b : Bool) → has_promised depth index (slice_get feeder.nodes child) ≡ b →
        KnowsAll depth (cond b (record { guard = promised_in feeder.guard child index; nodes = feeder.nodes }) feeder)
    cases true did =
        zip_left (Knows depth) feeder.guard.held feeder.nodes child [] (kept_after (bands_of feeder.guard child) index) knows
        (λ node is k. knows_heard depth (bands_of feeder.guard child) index node (said (slice_get feeder.nodes child) node is did) k)
    cases false did = knows
knows_here depth (Limited limits) feeder knows = knows
knows_here depth (Restarts held) feeder knows = cases (are_all_held depth held feeder.nodes) refl
  where
    cases : (b : Bool) → are_all_held depth held feeder.nodes ≡ b →
        KnowsAll depth (cond b (record { guard = record { limits = feeder.guard.limits; held = held }; nodes = feeder.nodes }) feeder)
    cases true e = knows_anew depth held feeder.guard.held feeder.nodes knows e
    cases false e = knows

-- after something below a relay that its guard's nodes stay known by
below_known : (depth : ℕ) (happens : Feeder depth → Feeder depth) (held : List Band) (node : Node (suc depth)) → Knows (suc depth) held node →
    ((f : Feeder depth) → KnowsAll depth f → KnowsAll depth (happens f)) → Knows (suc depth) held (below_after happens node)
below_known depth happens held (DeviceNode device) k next = k
below_known depth happens held (RelayNode relay) k next =
    cases (may_span relay.told relay.promised (low_end (happens relay.feeder).guard) (high_end (happens relay.feeder).guard)) refl
    (next relay.feeder k.1)
  where
    cases : (b : Bool) → may_span relay.told relay.promised (low_end (happens relay.feeder).guard) (high_end (happens relay.feeder).guard) ≡ b →
        KnowsAll depth (happens relay.feeder) →
        Knows (suc depth) held (RelayNode (cond b (record { told = relay.told; promised = relay.promised; feeder = happens relay.feeder }) relay))
    cases true e known = (
      fits_takes held relay.told relay.promised (low_end relay.feeder.guard) (high_end relay.feeder.guard)
          (low_end (happens relay.feeder).guard) (high_end (happens relay.feeder).guard) k.0 e,
      known,
    )
    cases false e known = k

-- after an event at any guard
pub knows_after : (depth : ℕ) (path : List ℕ) (event : FeederEvent) (feeder : Feeder depth) → KnowsAll depth feeder →
    KnowsAll depth (feeder_after depth path event feeder)
knows_after depth [] event feeder knows = knows_here depth event feeder knows
knows_after zero (child ∷ path) event feeder knows = knows
knows_after (suc depth) (child ∷ path) event feeder knows =
    zip_right (Knows (suc depth)) (below_after (feeder_after depth path event)) feeder.guard.held feeder.nodes child knows
    (λ held node k. below_known depth (feeder_after depth path event) held node k (λ f known. knows_after depth path event f known))

-- after a whole history
pub knows_all_after : (depth : ℕ) (events : List PlacedEvent) (feeder : Feeder depth) → KnowsAll depth feeder →
    KnowsAll depth (after_all depth feeder events)
knows_all_after depth [] feeder knows = knows
knows_all_after depth (next ∷ events) feeder knows =
    knows_all_after depth events (feeder_after depth next.path next.event feeder) (knows_after depth next.path next.event feeder knows)

-- ---- the beginning

-- what a guard knows of a node at the beginning
knows_node : (depth : ℕ) (held : List Band) (node : Node depth) → IsNewNode depth held node × IsNewBelow depth node → Knows depth held node
knows_node zero held device new = (fits_new held device.told device.promised device.power device.power new.0, tt)
knows_node (suc depth) held (DeviceNode device) new = (fits_new held device.told device.promised device.power device.power new.0, tt)
knows_node (suc depth) held (RelayNode relay) new = (
  fits_new held relay.told relay.promised (low_end relay.feeder.guard) (high_end relay.feeder.guard) new.0,
  zip_weaker (λ h n. IsNewNode depth h n × IsNewBelow depth n) (Knows depth) relay.feeder.guard.held relay.feeder.nodes
      (λ h n k. knows_node depth h n k) new.1,
)

-- a feeder at the beginning is known
pub knows_new : (depth : ℕ) (feeder : Feeder depth) → IsNewFeeder depth feeder → KnowsAll depth feeder
knows_new depth feeder new =
    zip_weaker (λ h n. IsNewNode depth h n × IsNewBelow depth n) (Knows depth) feeder.guard.held feeder.nodes (λ h n k. knows_node depth h n k) new
