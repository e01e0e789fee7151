-- What a guard lets flow never goes further outside its limits.
use Rattle.std.proofs.Common.{◌≡◌, ◌∙◌, sym, ap, subst, refl, ℕ, zero, suc, ◌<◌, ◌≤◌, ℤ, ◌+ℤ◌, ◌-ℤ◌}
use Rattle.std.proofs.Common.{◌≤ℤ◌, List, [], ◌∷◌, ◌++◌, length}
use Rattle.std.proofs.Common.{Bool, true, false, not, ◌⊎◌, inl, inr, arith, get_or, slice_get, Option, Some, None, cond}
use Rattle.std.proofs.Math.ListN.{set}
use Rattle.std.specs.Prelude.{int_lt}
use Rattle.std.specs.Int.{int_max, int_min}
use Rattle.std.proofs.lemmas.Int.{ints, clamps}
use Rattle.std.proofs.lemmas.Bool.{and_parts, and_left}
use Rattle.std.proofs.lemmas.Option.{slice_get_within, get_or_from_slice_get, slice_get_cases, slice_get-get_or}
use Rattle.std.proofs.lemmas.List.{set_past}
use Rattle.std.proofs.lemmas.List.Elements.{All-head, All-tail}
use Rattle.pm_base.specs.declared.limits.Limits.{Limits}
use Rattle.pm_base.proofs.Ints.{not_below}
use Rattle.pm_bid.specs.Taken.{IsWithinLimits}
use Rattle.pm_guard.specs.Bands.{greatest_power, least_power, total_by, has_room, kept_after, may_span}
use Rattle.pm_guard.specs.Guards.{GuardData, worst, best, is_inside, may_tell, may_tell_holder, promised_in, with_bands, bands_of, told_in}
use Rattle.pm_guard.specs.Feeders.{Node, Feeder, FeederEvent, PlacedEvent, told_more, node_takes, node_promises, may_promise, low_end, high_end}
use Rattle.pm_guard.specs.Feeders.{has_promised, are_all_held, here_after, below_after, feeder_after, after_all, one_changed}
use Rattle.pm_guard.specs.Feeders.NodeOf.{DeviceNode, RelayNode}
use Rattle.pm_guard.specs.Feeders.FeederEvent.{Tells, Takes, Promises, Hears, Limited, Restarts}
use Rattle.pm_guard.specs.Histories.{KnowsAll, no_guard, at_place, of_relay, guard_at, flow_at, highest_ceiling, lowest_floor, is_restart}
use Rattle.pm_guard.specs.Histories.{gives_limits, NeverStartsAnew, HasSameLimits}
use Rattle.pm_guard.specs.declared.band.Band.{Band}
use Rattle.pm_guard.proofs.Ends.{greatest_power-push, least_power-push, kept_at_most, kept_at_least, total_by-set, ceiling_room, floor_room, has_room-parts}
use Rattle.pm_guard.proofs.Ends.{at_most-trans, has_room-from, may_tell_is}
use Rattle.pm_guard.proofs.Nodes.{not_less}
use Rattle.pm_guard.proofs.Pairs.{place_changed}
use Rattle.pm_guard.proofs.Kept.{knows_all_after, flow_between_at}

-- ---- the worst and the best after one child's bands are others

most_after : (helds : List (List Band)) (i : ℕ) (new : List Band) (bound : ℤ) → i < length helds →
    ((total_by greatest_power helds -ℤ greatest_power (get_or helds i [])) +ℤ greatest_power new) ≤ℤ bound →
    total_by greatest_power (set helds i new) ≤ℤ bound
most_after helds i new bound inside h = let e = total_by-set greatest_power helds i new [] inside in omega (arith, ints, e, h)

least_after : (helds : List (List Band)) (i : ℕ) (new : List Band) (bound : ℤ) → i < length helds →
    bound ≤ℤ ((total_by least_power helds -ℤ least_power (get_or helds i [])) +ℤ least_power new) →
    bound ≤ℤ total_by least_power (set helds i new)
least_after helds i new bound inside h = let e = total_by-set least_power helds i new [] inside in omega (arith, ints, e, h)

-- what may be taken never grows further outside
pub record NoFurther (old new : GuardData) : Type 0 where
  -- at most the ceiling, or no more than before
  pub worst : worst new ≤ℤ int_max old.limits.ceiling (worst old)
  pub best : int_min old.limits.floor (best old) ≤ℤ best new

same_no_further : (g : GuardData) (limits : Limits) → NoFurther g (record { limits = limits; held = g.held })
same_no_further g limits = record { worst = omega (arith, ints, clamps); best = omega (arith, ints, clamps) }

-- the child that may be told a band is there
may_tell-there : (g : GuardData) (child : ℕ) (low high : ℤ) → may_tell g child low high ≡ true →
    (held : List Band) × (slice_get g.held child ≡ Some held)
    × (has_room g.limits (worst g) (best g) (greatest_power held) (least_power held) low high ≡ true)
may_tell-there g child low high may = cases (slice_get g.held child) refl may
  where
    cases : (o : Option (List Band)) → slice_get g.held child ≡ o → may_tell_holder g low high o ≡ true →
        (held : List Band) × (slice_get g.held child ≡ Some held)
        × (has_room g.limits (worst g) (best g) (greatest_power held) (least_power held) low high ≡ true)
    cases None p h = absurd (let clash : false ≡ true = h in cc)
    cases (Some held) p h = (held, p, h)

no_further_told : (g : GuardData) (child : ℕ) (band : Band) → may_tell g child band.low band.high ≡ true →
    NoFurther g (with_bands g child (bands_of g child ++ band ∷ []))
no_further_told g child band may =
    let there = may_tell-there g child band.low band.high may in
    let held = bands_of g child in
    let inside = slice_get_within g.held child there.0 there.1 in
    let is : held ≡ there.0 = get_or_from_slice_get g.held child there.0 [] there.1 in
    let room = subst (λ (l : List Band). has_room g.limits (worst g) (best g) (greatest_power l) (least_power l) band.low band.high ≡ true)
    (sym is) there.2 in
    let parts = has_room-parts g.limits (worst g) (best g) (greatest_power held) (least_power held) band.low band.high room in
    let over = ceiling_room (worst g) (greatest_power held) band.high g.limits.ceiling parts.0 in
    let under = floor_room (best g) (least_power held) band.low g.limits.floor parts.1 in
    record {
      worst = most_after g.held child (held ++ band ∷ []) (int_max g.limits.ceiling (worst g)) inside
          (subst (λ z. ((worst g -ℤ greatest_power held) +ℤ z) ≤ℤ int_max g.limits.ceiling (worst g)) (sym (greatest_power-push held band)) over);
      best = least_after g.held child (held ++ band ∷ []) (int_min g.limits.floor (best g)) inside
          (subst (λ z. int_min g.limits.floor (best g) ≤ℤ ((best g -ℤ least_power held) +ℤ z)) (sym (least_power-push held band)) under);
    }

-- telling lets no more flow than before
pub no_further_tell : (g : GuardData) (child : ℕ) (band : Band) → NoFurther g (told_in g child band)
no_further_tell g child band = cases (may_tell g child band.low band.high) refl
  where
    cases : (b : Bool) → may_tell g child band.low band.high ≡ b → NoFurther g (cond b (with_bands g child (bands_of g child ++ band ∷ [])) g)
    cases true may = no_further_told g child band may
    cases false may = same_no_further g g.limits

-- nor does hearing a promise
pub no_further_heard : (g : GuardData) (child index : ℕ) → NoFurther g (promised_in g child index)
no_further_heard g child index = cases (slice_get_cases g.held child).1
  where
    cases : ((x : List Band) × (child < length g.held) × (slice_get g.held child ≡ Some x) × (get_or g.held child x ≡ x))
        ⊎ ((length g.held ≤ child) × (slice_get g.held child ≡ None)) → NoFurther g (promised_in g child index)
    cases (inl there) =
        let m = kept_at_most (bands_of g child) index in
        let l = kept_at_least (bands_of g child) index in
        record {
          worst = most_after g.held child (kept_after (bands_of g child) index) _ there.1 (omega (arith, ints, clamps, m));
          best = least_after g.held child (kept_after (bands_of g child) index) _ there.1 (omega (arith, ints, clamps, l));
        }
    cases (inr past) =
        subst (λ (l : List (List Band)). NoFurther g (record { limits = g.limits; held = l })) (sym (set_past g.held child _ past.0))
        (same_no_further g g.limits)

-- ---- the same at each guard

no_further_here : (depth : ℕ) (event : FeederEvent) (feeder : Feeder depth) → is_restart event ≡ false → NoFurther feeder.guard
    (here_after depth event feeder).guard
no_further_here depth (Tells child band) feeder on = cases (may_tell feeder.guard child band.low band.high) refl
  where
    cases : (b : Bool) → may_tell feeder.guard child band.low band.high ≡ b →
        NoFurther feeder.guard
        (cond b (record {
          guard = cond b
              (with_bands feeder.guard child (bands_of feeder.guard child ++ band ∷ [])) feeder.guard;
          nodes =
              one_changed child (told_more band depth) feeder.nodes;
        }) feeder).guard
    cases true may = no_further_told feeder.guard child band may
    cases false may = same_no_further feeder.guard feeder.guard.limits
no_further_here depth (Takes child power) feeder on = same_no_further feeder.guard feeder.guard.limits
no_further_here depth (Promises child index) feeder on = same_no_further feeder.guard feeder.guard.limits
no_further_here depth (Hears child index) feeder on = cases (has_promised depth index (slice_get feeder.nodes child))
  where
    cases : (b : Bool) → NoFurther feeder.guard (cond b (record { guard = promised_in feeder.guard child index; nodes = feeder.nodes }) feeder).guard
    cases true = no_further_heard feeder.guard child index
    cases false = same_no_further feeder.guard feeder.guard.limits
no_further_here depth (Limited limits) feeder on = same_no_further feeder.guard limits
no_further_here depth (Restarts held) feeder on = absurd (let clash : true ≡ false = on in cc)

abbrev pub SameLimits : GuardData → GuardData → Type 0
SameLimits old new = new.limits ≡ old.limits

same_limits_here : (depth : ℕ) (event : FeederEvent) (feeder : Feeder depth) → gives_limits event ≡ false → SameLimits feeder.guard
    (here_after depth event feeder).guard
same_limits_here depth (Tells child band) feeder none = cases (may_tell feeder.guard child band.low band.high)
  where
    cases : (b : Bool) → SameLimits feeder.guard
        (cond b (record {
          guard = cond b
              (with_bands feeder.guard child (bands_of feeder.guard child ++ band ∷ [])) feeder.guard;
          nodes =
              one_changed child (told_more band depth) feeder.nodes;
        }) feeder).guard
    cases true = refl
    cases false = refl
same_limits_here depth (Takes child power) feeder none = refl
same_limits_here depth (Promises child index) feeder none = refl
same_limits_here depth (Hears child index) feeder none = cases (has_promised depth index (slice_get feeder.nodes child))
  where
    cases : (b : Bool) → SameLimits feeder.guard (cond b (record { guard = promised_in feeder.guard child index; nodes = feeder.nodes }) feeder).guard
    cases true = refl
    cases false = refl
same_limits_here depth (Limited limits) feeder none = absurd (let clash : true ≡ false = none in cc)
same_limits_here depth (Restarts held) feeder none = cases (are_all_held depth held feeder.nodes)
  where
    cases : (b : Bool) → SameLimits feeder.guard
        (cond b (record { guard = record { limits = feeder.guard.limits; held = held }; nodes = feeder.nodes }) feeder).guard
    cases true = refl
    cases false = refl

-- what is below a node, by a function of it, and whether it stays as it is by an event at the guard above
abbrev pub Stays : (depth : ℕ) → (GuardData → GuardData → Type 0) → (Feeder depth → GuardData) →
    (Node (suc depth) → Node (suc depth)) → Type 0
Stays depth Q f change = (node : Node (suc depth)) → Q (of_relay no_guard f node) (of_relay no_guard f (change node))

told_stays : (depth : ℕ) (Q : GuardData → GuardData → Type 0) (f : Feeder depth → GuardData) (band : Band) → ((g : GuardData) → Q g g) →
    Stays depth Q f (told_more band (suc depth))
told_stays depth Q f band same (DeviceNode device) = same no_guard
told_stays depth Q f band same (RelayNode relay) = same (f relay.feeder)

takes_stays : (depth : ℕ) (Q : GuardData → GuardData → Type 0) (f : Feeder depth → GuardData) (power : ℤ) → ((g : GuardData) → Q g g) →
    Stays depth Q f (node_takes power (suc depth))
takes_stays depth Q f power same (DeviceNode device) = same no_guard
takes_stays depth Q f power same (RelayNode relay) = same (f relay.feeder)

promises_stays : (depth : ℕ) (Q : GuardData → GuardData → Type 0) (f : Feeder depth → GuardData) (index : ℕ) → ((g : GuardData) → Q g g) →
    Stays depth Q f (node_promises index (suc depth))
promises_stays depth Q f index same (DeviceNode device) = same no_guard
promises_stays depth Q f index same (RelayNode relay) =
    cases (may_promise relay.told relay.promised index (low_end relay.feeder.guard) (high_end relay.feeder.guard))
  where
    cases : (b : Bool) → Q (f relay.feeder)
        (of_relay no_guard f (RelayNode (cond b (record { told = relay.told; promised = index; feeder = relay.feeder }) relay)))
    cases true = same (f relay.feeder)
    cases false = same (f relay.feeder)

-- an event at the guard above changes nothing below a child
above_stays : (depth : ℕ) (Q : GuardData → GuardData → Type 0) (f : Feeder depth → GuardData) (event : FeederEvent)
    (feeder : Feeder (suc depth)) (child : ℕ) →
    ((g : GuardData) → Q g g) →
    Q (at_place no_guard (of_relay no_guard f) feeder.nodes child)
    (at_place no_guard (of_relay no_guard f) (here_after (suc depth) event feeder).nodes child)
above_stays depth Q f (Tells at band) feeder child same = cases (may_tell feeder.guard at band.low band.high)
  where
    cases : (b : Bool) → Q (at_place no_guard (of_relay no_guard f) feeder.nodes child)
        (at_place no_guard (of_relay no_guard f)
        (cond b (record {
          guard = cond b (with_bands feeder.guard at (bands_of feeder.guard at ++ band ∷ [])) feeder.guard;
          nodes = one_changed at
              (told_more band (suc depth)) feeder.nodes;
        }) feeder).nodes child)
    cases true = place_changed Q no_guard (of_relay no_guard f) (told_more band (suc depth)) feeder.nodes at child same
        (λ e x. told_stays depth Q f band same x)
    cases false = same _
above_stays depth Q f (Takes at power) feeder child same =
    place_changed Q no_guard (of_relay no_guard f) (node_takes power (suc depth)) feeder.nodes at child same (λ e x. takes_stays depth Q f power same x)
above_stays depth Q f (Promises at index) feeder child same =
    place_changed Q no_guard (of_relay no_guard f) (node_promises index (suc depth)) feeder.nodes at child same (λ e x. promises_stays depth Q f index same x)
above_stays depth Q f (Hears at index) feeder child same = cases (has_promised (suc depth) index (slice_get feeder.nodes at))
  where
    cases : (b : Bool) → Q (at_place no_guard (of_relay no_guard f) feeder.nodes child)
        (at_place no_guard (of_relay no_guard f)
        (cond b (record { guard = promised_in feeder.guard at index; nodes = feeder.nodes }) feeder).nodes child)
    cases true = same _
    cases false = same _
above_stays depth Q f (Limited limits) feeder child same = same _
above_stays depth Q f (Restarts held) feeder child same = cases (are_all_held (suc depth) held feeder.nodes)
  where
    cases : (b : Bool) → Q (at_place no_guard (of_relay no_guard f) feeder.nodes child)
        (at_place no_guard (of_relay no_guard f)
        (cond b (record { guard = record { limits = feeder.guard.limits; held = held }; nodes = feeder.nodes }) feeder).nodes child)
    cases true = same _
    cases false = same _

-- what holds of a guard and what it is after an event of its own, and of a guard and itself, holds of each guard and any event
step_at : (Q : GuardData → GuardData → Type 0) (May : FeederEvent → Type 0) → ((g : GuardData) → Q g g) →
    ((depth : ℕ) (event : FeederEvent) (feeder : Feeder depth) → May event → Q feeder.guard (here_after depth event feeder).guard) →
    (depth : ℕ) (path at : List ℕ) (event : FeederEvent) (feeder : Feeder depth) → (at ≡ path → May event) →
    Q (guard_at depth path feeder) (guard_at depth path (feeder_after depth at event feeder))
step_at Q May same here depth [] [] event feeder may = here depth event feeder (may refl)
step_at Q May same here zero [] (child ∷ at) event feeder may = same feeder.guard
step_at Q May same here (suc depth) [] (child ∷ at) event feeder may = same feeder.guard
step_at Q May same here zero (place ∷ path) [] event feeder may = same no_guard
step_at Q May same here zero (place ∷ path) (child ∷ at) event feeder may = same no_guard
step_at Q May same here (suc depth) (place ∷ path) [] event feeder may =
    above_stays depth Q (guard_at depth path) event feeder place same
step_at Q May same here (suc depth) (place ∷ path) (child ∷ at) event feeder may =
    place_changed Q no_guard (of_relay no_guard (guard_at depth path)) (below_after (feeder_after depth at event)) feeder.nodes child place same
    (λ e node. below (λ f. step_at Q May same here depth path at event f (λ rest. may (ap (λ c. c ∷ at) e ∙ ap (λ l. place ∷ l) rest))) node)
  where
    below : ((f : Feeder depth) → Q (guard_at depth path f) (guard_at depth path (feeder_after depth at event f))) → (node : Node (suc depth)) →
        Q (of_relay no_guard (guard_at depth path) node) (of_relay no_guard (guard_at depth path) (below_after (feeder_after depth at event) node))
    below next (DeviceNode device) = same no_guard
    below next (RelayNode relay) =
        cases (may_span relay.told relay.promised (low_end (feeder_after depth at event relay.feeder).guard)
        (high_end (feeder_after depth at event relay.feeder).guard)) (next relay.feeder)
      where
        cases : (b : Bool) → Q (guard_at depth path relay.feeder) (guard_at depth path (feeder_after depth at event relay.feeder)) →
            Q (guard_at depth path relay.feeder)
            (of_relay no_guard (guard_at depth path)
            (RelayNode (cond b (record { told = relay.told; promised = relay.promised; feeder = feeder_after depth at event relay.feeder }) relay)))
        cases true it = it
        cases false it = same (guard_at depth path relay.feeder)

no_further_at : (depth : ℕ) (path : List ℕ) (next : PlacedEvent) (feeder : Feeder depth) → (next.path ≡ path → is_restart next.event ≡ false) →
    NoFurther (guard_at depth path feeder) (guard_at depth path (feeder_after depth next.path next.event feeder))
no_further_at depth path next feeder on =
    step_at NoFurther (λ event. is_restart event ≡ false) (λ g. same_no_further g g.limits)
    (λ d e f m. no_further_here d e f m) depth path next.path next.event feeder on

same_limits_at : (depth : ℕ) (path : List ℕ) (next : PlacedEvent) (feeder : Feeder depth) → (next.path ≡ path → gives_limits next.event ≡ false) →
    SameLimits (guard_at depth path feeder) (guard_at depth path (feeder_after depth next.path next.event feeder))
same_limits_at depth path next feeder none =
    step_at SameLimits (λ event. gives_limits event ≡ false) (λ g. refl) (λ d e f m. same_limits_here d e f m) depth path next.path next.event feeder none

-- ---- histories

next_max : (n w c w' h : ℤ) → n ≤ℤ int_max w' h → w' ≤ℤ int_max c w → n ≤ℤ int_max w (int_max c h)
next_max n w c w' h first next = omega (arith, ints, clamps)

next_min : (n b f b' l : ℤ) → int_min b' l ≤ℤ n → int_min f b ≤ℤ b' → int_min b (int_min f l) ≤ℤ n
next_min n b f b' l first next = omega (arith, ints, clamps)

abbrev pub Running : List ℕ → PlacedEvent → Type 0
Running path next = next.path ≡ path → is_restart next.event ≡ false

abbrev pub Unlimited : List ℕ → PlacedEvent → Type 0
Unlimited path next = next.path ≡ path → gives_limits next.event ≡ false

worst_no_further : (depth : ℕ) (path : List ℕ) (events : List PlacedEvent) (feeder : Feeder depth) → NeverStartsAnew path events →
    worst (guard_at depth path (after_all depth feeder events)) ≤ℤ int_max (worst (guard_at depth path feeder)) (highest_ceiling depth path feeder events)
worst_no_further depth path [] feeder on = omega (arith, ints, clamps)
worst_no_further depth path (next ∷ events) feeder on =
    next_max _ (worst (guard_at depth path feeder)) (guard_at depth path feeder).limits.ceiling
    (worst (guard_at depth path (feeder_after depth next.path next.event feeder)))
    (highest_ceiling depth path (feeder_after depth next.path next.event feeder) events)
    (worst_no_further depth path events (feeder_after depth next.path next.event feeder) (All-tail (Running path) next events on))
    (no_further_at depth path next feeder (All-head (Running path) next events on)).worst

best_no_further : (depth : ℕ) (path : List ℕ) (events : List PlacedEvent) (feeder : Feeder depth) → NeverStartsAnew path events →
    int_min (best (guard_at depth path feeder)) (lowest_floor depth path feeder events) ≤ℤ best (guard_at depth path (after_all depth feeder events))
best_no_further depth path [] feeder on = omega (arith, ints, clamps)
best_no_further depth path (next ∷ events) feeder on =
    next_min _ (best (guard_at depth path feeder)) (guard_at depth path feeder).limits.floor
    (best (guard_at depth path (feeder_after depth next.path next.event feeder)))
    (lowest_floor depth path (feeder_after depth next.path next.event feeder) events)
    (best_no_further depth path events (feeder_after depth next.path next.event feeder) (All-tail (Running path) next events on))
    (no_further_at depth path next feeder (All-head (Running path) next events on)).best

same_limits : (depth : ℕ) (path : List ℕ) (events : List PlacedEvent) (feeder : Feeder depth) → HasSameLimits path events →
    (highest_ceiling depth path feeder events ≡ (guard_at depth path feeder).limits.ceiling)
    × (lowest_floor depth path feeder events ≡ (guard_at depth path feeder).limits.floor)
same_limits depth path [] feeder none = (refl, refl)
same_limits depth path (it ∷ events) feeder none =
    let new = feeder_after depth it.path it.event feeder in
    let next = same_limits depth path events new (All-tail (Unlimited path) it events none) in
    let stay = same_limits_at depth path it feeder (All-head (Unlimited path) it events none) in
    let ceiling : (guard_at depth path new).limits.ceiling ≡ (guard_at depth path feeder).limits.ceiling = ap (λ (l : Limits). l.ceiling) stay in
    let floor : (guard_at depth path new).limits.floor ≡ (guard_at depth path feeder).limits.floor = ap (λ (l : Limits). l.floor) stay in
    (omega (arith, ints, clamps, next.0, ceiling), omega (arith, ints, clamps, next.1, floor))

ceiling_is_low : (depth : ℕ) (path : List ℕ) (events : List PlacedEvent) (feeder : Feeder depth) →
    (guard_at depth path feeder).limits.ceiling ≤ℤ highest_ceiling depth path feeder events
ceiling_is_low depth path [] feeder = omega (arith, ints)
ceiling_is_low depth path (next ∷ events) feeder = omega (arith, ints, clamps)

floor_is_high : (depth : ℕ) (path : List ℕ) (events : List PlacedEvent) (feeder : Feeder depth) →
    lowest_floor depth path feeder events ≤ℤ (guard_at depth path feeder).limits.floor
floor_is_high depth path [] feeder = omega (arith, ints)
floor_is_high depth path (next ∷ events) feeder = omega (arith, ints, clamps)

-- what flows goes no further out than the guard was, or limits were
pub flow_no_further : (depth : ℕ) (feeder : Feeder depth) (path : List ℕ) (events : List PlacedEvent) → KnowsAll depth feeder →
    NeverStartsAnew path events →
    (int_min (best (guard_at depth path feeder)) (lowest_floor depth path feeder events) ≤ℤ flow_at depth path (after_all depth feeder events))
    × (flow_at depth path (after_all depth feeder events) ≤ℤ int_max (worst (guard_at depth path feeder)) (highest_ceiling depth path feeder events))
flow_no_further depth feeder path events knows on =
    let between = flow_between_at depth path (after_all depth feeder events) (knows_all_after depth events feeder knows) in (
      at_most-trans _ _ _ (best_no_further depth path events feeder on) between.0,
      at_most-trans _ _ _ between.1 (worst_no_further depth path events feeder on),
    )

-- what is inside, by the test of it
pub inside_is : (g : GuardData) → is_inside g ≡ true → (worst g ≤ℤ g.limits.ceiling) × (g.limits.floor ≤ℤ best g)
inside_is g inside =
    let parts = and_parts (not (int_lt g.limits.ceiling (worst g))) (not (int_lt (best g) g.limits.floor)) inside in
    (not_less g.limits.ceiling (worst g) parts.0, not_less (best g) g.limits.floor parts.1)

-- once a guard is inside, what flows is within the limits that are in force
pub flow_within : (depth : ℕ) (feeder : Feeder depth) (path : List ℕ) (events : List PlacedEvent) → KnowsAll depth feeder →
    NeverStartsAnew path events →
    is_inside (guard_at depth path feeder) ≡ true →
    (lowest_floor depth path feeder events ≤ℤ flow_at depth path (after_all depth feeder events))
    × (flow_at depth path (after_all depth feeder events) ≤ℤ highest_ceiling depth path feeder events)
flow_within depth feeder path events knows on inside =
    let sides = inside_is (guard_at depth path feeder) inside in
    let flows = flow_no_further depth feeder path events knows on in
    let high = ceiling_is_low depth path events feeder in
    let low = floor_is_high depth path events feeder in
    (omega (arith, ints, clamps, sides.1, low, flows.0), omega (arith, ints, clamps, sides.0, high, flows.1))

-- .. and within the limits themselves, if they stay
pub flow_steady : (depth : ℕ) (feeder : Feeder depth) (path : List ℕ) (events : List PlacedEvent) → KnowsAll depth feeder →
    NeverStartsAnew path events →
    HasSameLimits path events → is_inside (guard_at depth path feeder) ≡ true →
    IsWithinLimits (guard_at depth path feeder).limits (flow_at depth path (after_all depth feeder events))
flow_steady depth feeder path events knows on none inside =
    let flows = flow_within depth feeder path events knows on inside in
    let same = same_limits depth path events feeder none in
    record { floor = omega (arith, ints, flows.0, same.1); ceiling = omega (arith, ints, flows.1, same.0) }

-- what is between the least and the greatest that is held may be told always
pub inside_hull : (g : GuardData) (child : ℕ) (low high : ℤ) → child < length g.held → least_power (bands_of g child) ≤ℤ low →
    high ≤ℤ greatest_power (bands_of g child) → may_tell g child low high ≡ true
inside_hull g child low high inside above below =
    let held = bands_of g child in
    sym (may_tell_is g child held (worst g) (best g) (greatest_power held) (least_power held) low high _
    (slice_get-get_or g.held child [] inside) refl refl refl refl refl)
    ∙ has_room-from g.limits (worst g) (best g) (greatest_power held) (least_power held) low high
    (and_left _ (int_lt g.limits.ceiling (worst g +ℤ (high -ℤ greatest_power held))) (not_below (greatest_power held) high below))
    (and_left _ (int_lt (best g +ℤ (low -ℤ least_power held)) g.limits.floor) (not_below low (least_power held) above))
