-- A market is sound at each device.
use Rattle.std.proofs.Common.{◌≡◌, refl, ℕ, ◌≤◌, arith, Bool, true, false, List, [], ◌∷◌, cond, eqb, ap, ℤ, pos}
use Rattle.std.proofs.Common.{◌⊎◌, inl, inr}
use Rattle.std.proofs.lemmas.Bool.{true≢false, cases_Bool, cond_both}
use Rattle.pm_silence.specs.Clocks.{Clocks, AreClocks, IsEnough}
use Rattle.pm_silence.specs.Leases.{LeaseState, first_state, state_after_event, is_holding}
use Rattle.pm_silence.specs.Market.{MarketEvent, takes_no_time, market_step, leases_after, watts_taken, sum_of_devices, watts_consumed, watts_counted}
use Rattle.pm_silence.specs.Market.{PassesForAll, HappensAt}
use Rattle.pm_silence.proofs.Sound.{IsSound}
use Rattle.pm_silence.proofs.Keeping.{event_keeps, passing}
use Rattle.pm_silence.proofs.Runs.{starts_sound, not_counted_holds_not}

step_keeps : (e grace validity : ℕ) (clocks : ℕ → Clocks) → ((d : ℕ) → AreClocks e (clocks d)) → (worlds : ℕ → LeaseState) →
    ((d : ℕ) → IsSound e grace validity (clocks d) (worlds d)) → (it : MarketEvent) →
    (d : ℕ) → IsSound e grace validity (clocks d) (market_step clocks grace worlds it d)
step_keeps e grace validity clocks are worlds s (PassesForAll ticks) d = passing e grace validity (clocks d) (are d) (worlds d) (s d) ticks
step_keeps e grace validity clocks are worlds s (HappensAt device it) d =
    cond_both (eqb d device)
    (cond (takes_no_time it) (state_after_event (clocks d) grace (worlds d) it) (worlds d)) (worlds d) (λ w. IsSound e grace validity (clocks d) w)
    (λ _. cond_both (takes_no_time it) (state_after_event (clocks d) grace (worlds d) it) (worlds d) (λ w. IsSound e grace validity (clocks d) w)
    (λ _. event_keeps e grace validity (clocks d) (are d) (worlds d) (s d) it) (λ _. s d))
    (λ _. s d)

market_keeps : (e grace validity : ℕ) (clocks : ℕ → Clocks) → ((d : ℕ) → AreClocks e (clocks d)) → (es : List MarketEvent)
    (worlds : ℕ → LeaseState) →
    ((d : ℕ) → IsSound e grace validity (clocks d) (worlds d)) → (d : ℕ) → IsSound e grace validity (clocks d) (leases_after clocks grace worlds es d)
market_keeps e grace validity clocks are [] worlds s d = s d
market_keeps e grace validity clocks are (it ∷ es) worlds s d =
    market_keeps e grace validity clocks are es (market_step clocks grace worlds it) (step_keeps e grace validity clocks are worlds s it) d

-- whom its parent does not count takes nothing
pub takes_nothing : (clocks : ℕ → Clocks) (e validity grace device : ℕ) (told : ℤ) (events : List MarketEvent) →
    ((d : ℕ) → AreClocks e (clocks d)) →
    IsEnough e validity grace → (leases_after clocks grace (λ x. first_state (clocks x)) events device).place.counts ≡ false →
    watts_taken (clocks device) validity (leases_after clocks grace (λ x. first_state (clocks x)) events device) told ≡ pos 0
takes_nothing clocks e validity grace device told events are enough gone =
    let w : LeaseState = leases_after clocks grace (λ x. first_state (clocks x)) events device in
    let none : is_holding (clocks device) validity w ≡ false =
    not_counted_holds_not e grace validity (clocks device) w
    (market_keeps e grace validity clocks are events (λ x. first_state (clocks x)) (λ d. starts_sound e grace validity (clocks d)) device) enough gone in
    ap (λ (b : Bool). cond b told (pos 0)) none

-- one device takes no more than is counted of it
one_takes_no_more : (holds counts : Bool) (told : ℕ) → (counts ≡ false → holds ≡ false) → cond holds told 0 ≤ cond counts told 0
one_takes_no_more true true told law = omega arith
one_takes_no_more false true told law = omega arith
one_takes_no_more false false told law = omega arith
one_takes_no_more true false told law = absurd (true≢false (law refl))

all_take_no_more : (f g : ℕ → ℕ) → ((d : ℕ) → f d ≤ g d) → (ds : List ℕ) → sum_of_devices f ds ≤ sum_of_devices g ds
all_take_no_more f g less [] = omega arith
all_take_no_more f g less (d ∷ ds) = let here = less d in let rest = all_take_no_more f g less ds in omega (arith, here, rest)

-- all take together no more than is counted
pub takes_no_more : (clocks : ℕ → Clocks) (e validity grace : ℕ) (told : ℕ → ℕ) (events : List MarketEvent) (devices : List ℕ) →
    ((d : ℕ) → AreClocks e (clocks d)) → IsEnough e validity grace →
    sum_of_devices (watts_consumed clocks validity (leases_after clocks grace (λ x. first_state (clocks x)) events) told) devices
    ≤ sum_of_devices (watts_counted (leases_after clocks grace (λ x. first_state (clocks x)) events) told) devices
takes_no_more clocks e validity grace told events devices are enough =
    let worlds : ℕ → LeaseState = leases_after clocks grace (λ x. first_state (clocks x)) events in
    all_take_no_more (watts_consumed clocks validity worlds told) (watts_counted worlds told)
    (λ d. one_takes_no_more (is_holding (clocks d) validity (worlds d)) (worlds d).place.counts (told d)
    (λ gone. not_counted_holds_not e grace validity (clocks d) (worlds d)
    (market_keeps e grace validity clocks are events (λ x. first_state (clocks x)) (λ x. starts_sound e grace validity (clocks x)) d) enough gone)) devices

-- a device takes what it was told, or is not counted and takes nothing
pub takes_as_told : (clocks : ℕ → Clocks) (e validity grace device : ℕ) (told : ℤ) (events : List MarketEvent) →
    ((d : ℕ) → AreClocks e (clocks d)) →
    IsEnough e validity grace →
    ((leases_after clocks grace (λ x. first_state (clocks x)) events device).place.counts ≡ true →
    is_holding (clocks device) validity (leases_after clocks grace (λ x. first_state (clocks x)) events device) ≡ true) →
    (watts_taken (clocks device) validity (leases_after clocks grace (λ x. first_state (clocks x)) events device) told ≡ told)
    ⊎ (((leases_after clocks grace (λ x. first_state (clocks x)) events device).place.counts ≡ false)
    × (watts_taken (clocks device) validity (leases_after clocks grace (λ x. first_state (clocks x)) events device) told ≡ pos 0))
takes_as_told clocks e validity grace device told events are enough hold =
    let w : LeaseState = leases_after clocks grace (λ x. first_state (clocks x)) events device in
    elim (cases_Bool w.place.counts) as
    (λ _. (watts_taken (clocks device) validity w told ≡ told) ⊎
    ((w.place.counts ≡ false) × (watts_taken (clocks device) validity w told ≡ pos 0))) [
      | inl counts ↦ inl (ap (λ (b : Bool). cond b told (pos 0)) (hold counts))
      | inr gone ↦ inr (gone, takes_nothing clocks e validity grace device told events are enough gone)
    ]
