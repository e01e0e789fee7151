-- The events of the demo cluster are accepted: each joins a device that is out, or takes one out that is in.
use Rattle.std.proofs.Common.{◌≡◌, ℕ, zero, suc, ◌+◌, ◌≤◌, ◌==◌, Bool, true, false, not, if◌then◌else◌, List, [], ◌∷◌}
use Rattle.std.proofs.Common.{◌++◌, length, map, Some, Result, Ok, refl, sym, ap, ◌∙◌, arith, append_assoc, append-nil}
use Rattle.std.specs.List.{AllByRecursion, fold, range_with_len}
use Rattle.std.proofs.lemmas.Bool.Decides.{nat_tests}
use Rattle.pm_plan.specs.declared.refusal.Cause.TheVariants as cause
use Rattle.pm_plan.specs.declared.planned.Planned.TheVariants.{Join, Leave}
use Rattle.pm_plan.specs.declared.refusal.Place.{Place}
use Rattle.pm_plan.specs.declared.refusal.Place.TheVariants.{Event}
use Rattle.pm_plan.specs.declared.refusal.Refusal.{Refusal}
use Rattle.pm_plan.specs.Parts.{join, leave}
use Rattle.pm_plan.specs.Plans.{PlanData}
use Rattle.pm_plan.specs.Building.{device_named, with_change_of, is_member_now, member_named, stranger_named, event_of, add_event}
use Rattle.pm_plan.specs.Refusals.{need, check}
use Rattle.pm_base.specs.Outcomes.{◌>>=◌, ◌>>◌, fold_from}
use Rattle.pm_gen.specs.Draws.{next}
use Rattle.pm_gen.specs.Nodes.{device_name, concentrator_count}
use Rattle.pm_gen.specs.Rounds.{picks, is_joined, turn_event, turns}
use Rattle.pm_gen.proofs.Ranges.{range_with_len-append}
use Rattle.pm_gen.proofs.Trees.{device_named-demo}
use Rattle.pm_gen.proofs.Drafts.{Stands, turning, stands-turned}

-- ---- one event

leave-accepted : (place : Place) (p : ℕ) (plan : PlanData) (name : List ℕ) (d : ℕ) → device_named plan.entries name ≡ Some d →
    is_member_now plan d ≡ true → event_of place p plan (leave name) ≡ Ok (with_change_of plan d p Leave)
unfolding event_of member_named
leave-accepted place p plan name d named member =
    ap (λ found. (need cause.UnknownDevice place found >>= λ e. check cause.NotJoined place (is_member_now plan e) >> Ok e) >>= λ e.
    Ok (with_change_of plan e p Leave)) named
    ∙ ap (λ b. (check cause.NotJoined place b >> Ok d) >>= λ e. Ok (with_change_of plan e p Leave)) member

join-accepted : (place : Place) (p : ℕ) (plan : PlanData) (name : List ℕ) (d : ℕ) → device_named plan.entries name ≡ Some d →
    is_member_now plan d ≡ false → event_of place p plan (join name) ≡ Ok (with_change_of plan d p Join)
unfolding event_of stranger_named
join-accepted place p plan name d named stranger =
    ap (λ found. (need cause.UnknownDevice place found >>= λ e. check cause.JoinedAlready place (not (is_member_now plan e)) >> Ok e)
    >>= λ e. Ok (with_change_of plan e p Join)) named
    ∙ ap (λ b. (check cause.JoinedAlready place (not b) >> Ok d) >>= λ e. Ok (with_change_of plan e p Join)) stranger

module _ (size : ℕ) (few : size ≤ 200) where
  turn_event-accepted : (earlier : List ℕ) (most : ℕ) (plan : PlanData) (i : ℕ) (place : Place) (p : ℕ) → Stands size earlier most plan →
      1 ≤ i → i ≤ size
      → event_of place p plan (turn_event earlier i) ≡ Ok (with_change_of plan (concentrator_count size + i) p (turning (is_joined earlier i)))
  turn_event-accepted earlier most plan i place p stands low high = by (is_joined earlier i) refl
    where
      named : device_named plan.entries (device_name i) ≡ Some (concentrator_count size + i)
      named = ap (λ entries. device_named entries (device_name i)) stands.entries_are ∙ device_named-demo size i low high few

      by : (b : Bool) → is_joined earlier i ≡ b →
          event_of place p plan (turn_event earlier i) ≡ Ok (with_change_of plan (concentrator_count size + i) p (turning (is_joined earlier i)))
      by true is =
          ap (λ b. event_of place p plan (if b then leave (device_name i) else join (device_name i))) is
          ∙ leave-accepted place p plan (device_name i) (concentrator_count size + i) named (stands.joined i low high ∙ is)
          ∙ ap (λ b. Ok (with_change_of plan (concentrator_count size + i) p (turning b))) (sym is)
      by false is =
          ap (λ b. event_of place p plan (if b then leave (device_name i) else join (device_name i))) is
          ∙ join-accepted place p plan (device_name i) (concentrator_count size + i) named (stands.joined i low high ∙ is)
          ∙ ap (λ b. Ok (with_change_of plan (concentrator_count size + i) p (turning b))) (sym is)

  -- ---- events one after another

  -- the result is a draft that stands so
  abbrev pub IsDraft : List ℕ → ℕ → Result PlanData Refusal → Type 0
  IsDraft earlier most result = (plan : PlanData) × (result ≡ Ok plan) × Stands size earlier most plan

  -- numbers of devices
  abbrev pub AreDevices : List ℕ → Type 0
  AreDevices devices = AllByRecursion (λ i. (1 ≤ i) × (i ≤ size)) devices

  -- events that turn devices round are accepted, and the draft stands as after them, with a change more for each
  pub turns-accepted : (n p : ℕ) (earlier devices : List ℕ) (most : ℕ) (plan : PlanData) → AreDevices devices → Stands size earlier most plan
      → IsDraft (earlier ++ devices) (most + length devices) (fold_from n (add_event p) plan (turns earlier devices))
  unfolding turns
  turns-accepted n p earlier [] most plan all stands = (
    plan,
    refl,
    record {
      entries_are = stands.entries_are;
      one_each = stands.one_each;
      devices = stands.devices;
      joined = λ i low high. stands.joined i low high ∙ ap (λ devices. is_joined devices i) (sym (append-nil earlier));
      few = omega (arith, stands.few);
    },
  )
  turns-accepted n p earlier (i ∷ devices) most plan all stands =
      let new : PlanData = with_change_of plan (concentrator_count size + i) p (turning (is_joined earlier i)) in
      let here = turn_event-accepted earlier most plan i (Event p n) p stands all.0.0 all.0.1 in
      let rest = turns-accepted (n + 1) p (earlier ++ i ∷ []) devices (most + 1) new all.1
      (stands-turned size earlier most plan stands i all.0.0 all.0.1 p) in
      let longer : most + 1 + length devices ≡ most + length (i ∷ devices) = omega arith in (
        rest.0,
        ap (λ first. first >>= λ draft. fold_from (n + 1) (add_event p) draft (turns (earlier ++ i ∷ []) devices)) here ∙ rest.1,
        record {
          entries_are = rest.2.entries_are;
          one_each = rest.2.one_each;
          devices = rest.2.devices;
          joined = λ j low high. rest.2.joined j low high ∙ ap (λ others. is_joined others j) (append_assoc earlier (i ∷ []) devices);
          few = omega (arith, rest.2.few);
        },
      )

  -- the drawn numbers are those of devices, where there is a device
  pub picks-are_devices : (n seed : ℕ) → 1 ≤ size → AreDevices (picks n size seed)
  unfolding picks
  picks-are_devices zero seed some = tt
  picks-are_devices (suc n) seed some = ((omega arith, omega arith), picks-are_devices n (next seed) some)

  -- the numbers of a range from 1 or more up to at most the size are those of devices
  pub range-are_devices : (a n : ℕ) → 1 ≤ a → a + n ≤ size + 1 → AreDevices (range_with_len a n)
  range-are_devices a zero low high = tt
  range-are_devices a (suc n) low high = ((low, omega arith), range-are_devices (a + 1) n (omega arith) (omega arith))

-- there are as many events as devices to turn round
pub length-turns : (earlier devices : List ℕ) → length (turns earlier devices) ≡ length devices
unfolding turns
length-turns earlier [] = refl
length-turns earlier (i ∷ devices) = ap suc (length-turns (earlier ++ i ∷ []) devices)

-- as many devices are drawn as are asked for
pub length-picks : (n size seed : ℕ) → length (picks n size seed) ≡ n
unfolding picks
length-picks zero size seed = refl
length-picks (suc n) size seed = ap suc (length-picks n size (next seed))

-- ---- the first phase

-- who is not among the devices is not turned
pub not_turned : (a n i : ℕ) (joined : Bool) → a + n ≤ i → fold (λ b named. if named == i then not b else b) joined (range_with_len a n) ≡ joined
not_turned a zero i joined past = refl
not_turned a (suc n) i joined past =
    let apart : (a == i) ≡ false = grind (arith, nat_tests) in
    ap (λ same. fold (λ b named. if named == i then not b else b) (if same then not joined else joined) (range_with_len (a + 1) n)) apart
    ∙ not_turned (a + 1) n i joined (omega arith)

-- the devices in order are all joined
turns_of_range : (k n : ℕ) → turns (range_with_len 1 k) (range_with_len (1 + k) n) ≡ map (λ i. join (device_name i)) (range_with_len (1 + k) n)
unfolding turns is_joined
turns_of_range k zero = refl
turns_of_range k (suc n) =
    let out = not_turned 1 k (1 + k) false (omega arith) in
    let longer : range_with_len 1 k ++ (1 + k) ∷ [] ≡ range_with_len 1 (k + 1) = sym (range_with_len-append 1 k 1) in
    let seam : 1 + k + 1 ≡ 1 + (k + 1) = omega arith in
    let first = ap (λ b. if b then leave (device_name (1 + k)) else join (device_name (1 + k))) out in
    let rest = ap (λ earlier. turns earlier (range_with_len (1 + k + 1) n)) longer
    ∙ ap (λ a. turns (range_with_len 1 (k + 1)) (range_with_len a n)) seam
    ∙ turns_of_range (k + 1) n
    ∙ ap (λ a. map (λ i. join (device_name i)) (range_with_len a n)) (sym seam) in
    (λ t. first t ∷ rest t)

-- the joins of all devices in order are the events that turn them round where none came before
pub joins-are_turns : (size : ℕ) → map (λ i. join (device_name i)) (range_with_len 1 size) ≡ turns [] (range_with_len 1 size)
joins-are_turns size = sym (turns_of_range 0 size)
