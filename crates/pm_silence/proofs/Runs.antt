-- Each run keeps a lease sound, and what that says.
use Rattle.std.proofs.Common.{◌≡◌, sym, subst, refl, ℕ, ◌+◌, ◌-◌, ◌*◌, ◌<◌, ◌≤◌, true, false, Option, Some, None, List}
use Rattle.std.proofs.Common.{[], ◌∷◌, arith, le_trans, inl, inr}
use Rattle.std.proofs.lemmas.Bool.{le-ltb, le-leb, cases_lt}
use Rattle.std.proofs.lemmas.Nat.{mul-le}
use Rattle.pm_silence.specs.Clocks.{Clocks, IsEnough, AreClocks, IsNotSlow}
use Rattle.pm_silence.specs.Holding.{lasts}
use Rattle.pm_silence.specs.Leases.{LeaseState, LeaseEvent, first_state, states_after, state_after_event, is_holding}
use Rattle.pm_silence.specs.declared.beating.Listener.{Listener}
use Rattle.pm_silence.specs.Beating.{is_silent}
use Rattle.pm_silence.proofs.Counting.{slow_part}
use Rattle.pm_silence.proofs.Sound.{If, IsHeld, good_in, IsSound}
use Rattle.pm_silence.proofs.Keeping.{event_keeps}

-- a lease is sound at first
pub starts_sound : (e grace validity : ℕ) (clocks : Clocks) → IsSound e grace validity clocks (first_state clocks)
starts_sound e grace validity clocks = record {
  times = omega arith;
  answered = omega arith;
  counting = refl;
  floor = omega arith;
  number = omega arith;
  words = tt;
  answers = tt;
  leaves = tt;
  frames = tt;
  since = tt;
}

-- .. and after any events
pub run_keeps : (e grace validity : ℕ) (clocks : Clocks) → AreClocks e clocks → (es : List LeaseEvent) (w : LeaseState) →
    IsSound e grace validity clocks w →
    IsSound e grace validity clocks (states_after clocks grace w es)
run_keeps e grace validity clocks are [] w s = s
run_keeps e grace validity clocks are (it ∷ es) w s =
    run_keeps e grace validity clocks are es (state_after_event clocks grace w it) (event_keeps e grace validity clocks are w s it)

-- a hold that is over does not last
none_lasts : (e grace validity : ℕ) (clocks : Clocks) (w : LeaseState) → IsEnough e validity grace → w.place.counts ≡ false → (o : Option ℕ) →
    If (IsHeld (good_in e grace validity clocks w) w.hold.floor w.place.number) o → lasts o validity (clocks.control w.life w.time) ≡ false
none_lasts e grace validity clocks w enough gone None it = refl
none_lasts e grace validity clocks w enough gone (Some s) it = le-ltb (clocks.control w.life w.time) (s + validity) (it.sound.over enough gone)

-- who is not counted holds nothing
pub not_counted_holds_not : (e grace validity : ℕ) (clocks : Clocks) (w : LeaseState) → IsSound e grace validity clocks w → IsEnough e validity grace →
    w.place.counts ≡ false → is_holding clocks validity w ≡ false
not_counted_holds_not e grace validity clocks w s enough gone = none_lasts e grace validity clocks w enough gone w.hold.since s.since

-- a hold from before the cut does not last
ended_lasts : (e grace validity : ℕ) (clocks : Clocks) → AreClocks e clocks → (w : LeaseState) (cut d : ℕ) → w.answered_at ≤ cut →
    w.time ≡ cut + d →
    validity * 1000000 < d * (1000000 - e) → (o : Option ℕ) → If (IsHeld (good_in e grace validity clocks w) w.hold.floor w.place.number) o →
    lasts o validity (clocks.control w.life w.time) ≡ false
ended_lasts e grace validity clocks are w cut d answered at long None it = refl
ended_lasts e grace validity clocks are w cut d answered at long (Some s) it =
    let clock : ℕ → ℕ = clocks.control w.life in
    let g = it.sound in
    let S : ℕ = g.at in
    let early : S ≤ cut = le_trans g.answered answered in
    let far : S + (w.time - S) ≡ w.time = omega (arith, early, at) in
    let within : d ≤ w.time - S = omega (arith, early, at) in
    elim (cases_lt (clock w.time) (s + validity)) as (λ _. lasts (Some s) validity (clock w.time) ≡ false) [
      | inl under ↦
          let shows = g.shows in
          let more : clock w.time < clock S + validity = omega (arith, shows, under) in
          let short : (w.time - S) * (1000000 - e) ≤ validity * 1000000 =
          slow_part e clock (are.control w.life) validity S (w.time - S)
          (subst (λ (x : ℕ). clock x < clock S + validity) (sym far) more) in
          let less : d * (1000000 - e) ≤ (w.time - S) * (1000000 - e) = mul-le d (1000000 - e) (w.time - S) (1000000 - e) within (omega arith) in
          absurd (omega (arith, short, less, long))
      | inr done ↦ le-ltb (clock w.time) (s + validity) done
    ]

-- who was not answered for long enough holds nothing
pub unanswered_holds_not : (e grace validity : ℕ) (clocks : Clocks) → AreClocks e clocks → (events : List LeaseEvent) (d : ℕ) →
    (states_after clocks grace (first_state clocks) events).time ≡ (states_after clocks grace (first_state clocks) events).answered_at + d →
    validity * 1000000 < d * (1000000 - e) → is_holding clocks validity (states_after clocks grace (first_state clocks) events) ≡ false
unanswered_holds_not e grace validity clocks are events d at long =
    let w : LeaseState = states_after clocks grace (first_state clocks) events in
    let s = run_keeps e grace validity clocks are events (first_state clocks) (starts_sound e grace validity clocks) in
    ended_lasts e grace validity clocks are w w.answered_at d (omega arith) at long w.hold.since s.since

-- who heard nothing for long enough knows that it is silent
pub silent_by_then : (clock : ℕ → ℕ) (l : Listener) (e validity heard d : ℕ) → IsNotSlow e clock → l.heard ≡ clock heard →
    validity * 1000000 < d * (1000000 - e) → is_silent l validity (clock (heard + d)) ≡ true
silent_by_then clock l e validity heard d slow at long =
    elim (cases_lt (clock (heard + d)) (clock heard + validity)) as (λ _. is_silent l validity (clock (heard + d)) ≡ true) [
      | inl under ↦ let short = slow_part e clock slow validity heard d under in absurd (omega (arith, short, long))
      | inr done ↦ le-leb (l.heard + validity) (clock (heard + d)) (omega (arith, at, done))
    ]
