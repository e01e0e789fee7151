-- The flags of the devices, and the events of a round one after another.
use Rattle.std.proofs.Common.{◌≡◌, ◌≢◌, ℕ, zero, suc, ◌+◌, ◌-◌, ◌<◌, ◌≤◌, ◌==◌, Bool, true, false, not, if◌then◌else◌}
use Rattle.std.proofs.Common.{List, [], ◌∷◌, ◌++◌, get_or, set, replicate, refl, sym, ap, subst, pos, ◌∙◌, arith, append_assoc, append-nil}
use Rattle.std.proofs.Common.{◌⊎◌, inl, inr}
use Rattle.std.specs.List.{range_with_len, fold}
use Rattle.std.proofs.lemmas.List.{length-set, length-replicate, get_or-set_same, get_or-set_other, get_or-replicate, ext_get_or}
use Rattle.std.proofs.lemmas.List.FromFn.{get_or-map-range_with_len, length-map-range_with_len}
use Rattle.std.proofs.lemmas.List.Sums.{fold-append}
use Rattle.std.proofs.lemmas.Bool.{cases_eq}
use Rattle.std.proofs.lemmas.Bool.Decides.{nat_tests}
use Rattle.pm_plan.specs.Parts.{EventPart, PhasePart, events, tick, join, leave}
use Rattle.pm_gen.specs.Draws.{next, draw_below}
use Rattle.pm_gen.specs.Nodes.{device_name}
use Rattle.pm_gen.specs.Rounds.{picks, is_joined, joined_flags, turn_event, turns, round_len, round_picks, rounds, seed_after}
use Rattle.pm_gen.proofs.Ranges.{range_with_len-append}
use Rattle.pm_gen.proofs.Drafts.{is_joined-same, is_joined-other}
use Rattle.pm_gen.proofs.Turns.{not_turned}

-- ---- one draw more

-- the seed after one draw more is what a draw leaves of the seed before it
pub after-more : (n seed : ℕ) → seed_after (n + 1) seed ≡ next (seed_after n seed)
unfolding seed_after
after-more zero seed = refl
after-more (suc n) seed = let one : suc n + 1 ≡ suc (n + 1) = omega arith in ap (λ m. seed_after m seed) one ∙ after-more n (next seed)

picks-more : (n size seed : ℕ) → picks (n + 1) size seed ≡ picks n size seed ++ (1 + draw_below size (seed_after n seed)) ∷ []
unfolding picks seed_after
picks-more zero size seed = refl
picks-more (suc n) size seed =
    let one : suc n + 1 ≡ suc (n + 1) = omega arith in
    ap (λ m. picks m size seed) one ∙ ap (λ devices. (1 + draw_below size seed) ∷ devices) (picks-more n size (next seed))

turns-more : (earlier devices : List ℕ) (i : ℕ) → turns earlier (devices ++ i ∷ [])
    ≡ turns earlier devices ++ turn_event (earlier ++ devices) i ∷ []
unfolding turns
turns-more earlier [] i = ap (λ es. turn_event es i ∷ []) (sym (append-nil earlier))
turns-more earlier (d ∷ devices) i =
    ap (λ events. turn_event earlier d ∷ events) (turns-more (earlier ++ d ∷ []) devices i
    ∙ ap (λ es. turns (earlier ++ d ∷ []) devices ++ turn_event es i ∷ []) (append_assoc earlier (d ∷ []) devices))

-- ---- flags

-- the flag at a place, counted from 0, says whether the device of the next number is joined
pub flag-at : (size : ℕ) (earlier : List ℕ) (k : ℕ) → k < size → get_or (joined_flags size earlier) k false ≡ is_joined earlier (1 + k)
flag-at size earlier k low = get_or-map-range_with_len (is_joined earlier) 1 size k (1 + k) false low refl

flag-turned : (size : ℕ) (earlier : List ℕ) (k j : ℕ) → k < size → j < size → (k ≡ j) ⊎ (k ≡ j → ⊥)
    → get_or (set (joined_flags size earlier) k (not (get_or (joined_flags size earlier) k false))) j false ≡ is_joined (earlier ++ (1 + k) ∷ []) (1 + j)
flag-turned size earlier k j low high (inl same) =
    ap (λ m. get_or (set (joined_flags size earlier) k (not (get_or (joined_flags size earlier) k false))) m false) (sym same)
    ∙ get_or-set_same (joined_flags size earlier) k (not (get_or (joined_flags size earlier) k false)) false
    (omega (arith, length-map-range_with_len (is_joined earlier) 1 size))
    ∙ ap not (flag-at size earlier k low)
    ∙ sym (is_joined-same earlier (1 + k))
    ∙ ap (λ m. is_joined (earlier ++ (1 + k) ∷ []) (1 + m)) same
flag-turned size earlier k j low high (inr differ) =
    let apart : j ≢ k = λ same. differ (sym same) in
    let named : 1 + k ≢ 1 + j = λ same. differ (omega arith) in
    get_or-set_other (joined_flags size earlier) k j (not (get_or (joined_flags size earlier) k false)) false apart
    ∙ flag-at size earlier j high
    ∙ sym (is_joined-other earlier (1 + k) (1 + j) named)

-- a device that is turned round
flags-turned : (size : ℕ) (earlier : List ℕ) (k : ℕ) → k < size →
    set (joined_flags size earlier) k (not (get_or (joined_flags size earlier) k false)) ≡ joined_flags size (earlier ++ (1 + k) ∷ [])
flags-turned size earlier k low =
    let old = length-map-range_with_len (is_joined earlier) 1 size in
    let new = length-map-range_with_len (is_joined (earlier ++ (1 + k) ∷ [])) 1 size in
    let kept = length-set (joined_flags size earlier) k (not (get_or (joined_flags size earlier) k false)) in
    ext_get_or false _ _ (omega arith) (λ j inside.
    let high : j < size = omega arith in
    flag-turned size earlier k j low high (cases_eq k j) ∙ sym (flag-at size (earlier ++ (1 + k) ∷ []) j high))

-- ---- a round, as far as it has come

-- after so many events of a round: the flags and the events are those of the devices drawn so far
pub record Turned (size : ℕ) (earlier : List ℕ) (first : ℕ) (count : ℕ) (members : List Bool) (made : List EventPart) : Type 0 where
  -- the flags are those after the earlier events and those of the devices drawn so far
  pub flags : members ≡ joined_flags size (earlier ++ picks count size first)
  -- the events made are those that turn round the devices drawn so far
  pub turned : made ≡ turns earlier (picks count size first)

-- with the flags after the earlier events and nothing made, a round stands before its first event
pub turned-none : (size : ℕ) (earlier : List ℕ) (first : ℕ) (members : List Bool) (made : List EventPart) →
    members ≡ joined_flags size earlier → made ≡ [] → Turned size earlier first 0 members made
unfolding picks turns
turned-none size earlier first members made flags nothing = record { flags = flags ∙ ap (joined_flags size) (sym (append-nil earlier)); turned = nothing }

-- the seed after no draw is the first seed
pub after-none : (seed : ℕ) → seed_after 0 seed ≡ seed
unfolding seed_after
after-none seed = refl

-- with the next drawn device's flag turned and its event made, the round has come one event further
pub turned-more : (size : ℕ) (earlier : List ℕ) (first count k : ℕ) (members new : List Bool) (made more : List EventPart)
    (event : EventPart) → k < size → k ≡ draw_below size (seed_after count first)
    → Turned size earlier first count members made
    → new ≡ set members k (not (get_or members k false)) →
    event ≡ (if get_or members k false then leave (device_name (1 + k)) else join (device_name (1 + k))) → more ≡ made ++ event ∷ []
    → Turned size earlier first (count + 1) new more
turned-more size earlier first count k members new made more event low pick before set_is event_is pushed =
    let devices : List ℕ = picks count size first in
    let longer : picks (count + 1) size first ≡ devices ++ (1 + k) ∷ [] = picks-more count size first ∙ ap (λ m. devices ++ (1 + m) ∷ []) (sym pick) in
    let flag : get_or members k false ≡ is_joined (earlier ++ devices) (1 + k) = ap (λ ms. get_or ms k false) before.flags
    ∙ flag-at size (earlier ++ devices) k low in
    record {
      flags = set_is
          ∙ ap (λ ms. set ms k (not (get_or ms k false))) before.flags
          ∙ flags-turned size (earlier ++ devices) k low
          ∙ ap (joined_flags size) (append_assoc earlier devices ((1 + k) ∷ []) ∙ ap (λ ds. earlier ++ ds) (sym longer));
      turned = pushed
          ∙ (let old = before.turned in let last = event_is
          ∙ ap (λ b. if b then leave (device_name (1 + k)) else join (device_name (1 + k))) flag in (λ i. old i ++ last i ∷ []))
          ∙ sym (turns-more earlier devices (1 + k))
          ∙ ap (turns earlier) (sym longer);
    }

-- ---- all devices joined

not_turned_yet : (a n i : ℕ) (joined : Bool) → i < a → fold (λ b named. if named == i then not b else b) joined (range_with_len a n) ≡ joined
not_turned_yet a zero i joined before = refl
not_turned_yet a (suc n) i joined before =
    let apart : (a == i) ≡ false = grind (arith, nat_tests) in
    ap (λ same. fold (λ b named. if named == i then not b else b) (if same then not joined else joined) (range_with_len (a + 1) n)) apart
    ∙ not_turned_yet (a + 1) n i joined (omega arith)

turned_on : (n i : ℕ) → 1 ≤ i → i ≤ n → is_joined (range_with_len 1 n) i ≡ true
unfolding is_joined
turned_on n i low high =
    let parts : n ≡ (i - 1) + suc (n - i) = omega arith in
    let here : 1 + (i - 1) ≡ i = omega arith in
    let same : (i == i) ≡ true = grind (arith, nat_tests) in
    ap (λ m. fold (λ b named. if named == i then not b else b) false (range_with_len 1 m)) parts
    ∙ ap (fold (λ b named. if named == i then not b else b) false) (range_with_len-append 1 (i - 1) (suc (n - i)))
    ∙ fold-append (λ b named. if named == i then not b else b) false (range_with_len 1 (i - 1)) (range_with_len (1 + (i - 1)) (suc (n - i)))
    ∙ ap (λ b. fold (λ b named. if named == i then not b else b) b (range_with_len (1 + (i - 1)) (suc (n - i))))
    (not_turned 1 (i - 1) i false (omega arith))
    ∙ ap (λ a. fold (λ b named. if named == i then not b else b) false (range_with_len a (suc (n - i)))) here
    ∙ ap (λ b. fold (λ b named. if named == i then not b else b) (if b then true else false) (range_with_len (i + 1) (n - i))) same
    ∙ not_turned_yet (i + 1) (n - i) i true (omega arith)

-- flags that are all set are those after one event of each device
pub all_flags : (size : ℕ) (members : List Bool) → members ≡ replicate size true → members ≡ joined_flags size (range_with_len 1 size)
all_flags size members made =
    let count = length-map-range_with_len (is_joined (range_with_len 1 size)) 1 size in
    made ∙ ext_get_or false _ _ (length-replicate size true ∙ sym count) (λ k inside.
    let low : k < size = omega (arith, length-replicate size true) in
    get_or-replicate size k true false low ∙ sym (flag-at size (range_with_len 1 size) k low ∙ turned_on size (1 + k) (omega arith) (omega arith)))

-- ---- the rounds, as far as they have come

-- after so many rounds: the flags, and the phases so far with those of the rounds that are left
pub record Rounded (size first : ℕ) (front : List PhasePart) (count seed : ℕ) (members : List Bool) (made : List PhasePart) : Type 0 where
  -- the devices of all events so far
  pub earlier : List ℕ
  -- the flags are those after all events so far
  pub flags : members ≡ joined_flags size earlier
  -- the phases so far and the rounds that are left are the phases before and all ten rounds
  pub left : made ++ rounds (10 - count) size earlier seed ≡ front ++ rounds 10 size (range_with_len 1 size) first

rounds-suc : (n size : ℕ) (earlier : List ℕ) (seed : ℕ) →
    rounds (suc n) size earlier seed ≡ tick (pos 15) ∷ events (turns earlier (round_picks size seed)) ∷ rounds n size
    (earlier ++ round_picks size seed) (seed_after (round_len size) seed)
unfolding rounds
rounds-suc n size earlier seed = refl

rounds-step : (count size : ℕ) (earlier : List ℕ) (seed : ℕ) → count < 10 →
    rounds (10 - count) size earlier seed ≡ tick (pos 15) ∷ events (turns earlier (round_picks size seed)) ∷ rounds
    (10 - (count + 1)) size (earlier ++ round_picks size seed) (seed_after (round_len size) seed)
rounds-step count size earlier seed low =
    let one : 10 - count ≡ suc (10 - (count + 1)) = omega arith in
    ap (λ n. rounds n size earlier seed) one ∙ rounds-suc (10 - (count + 1)) size earlier seed

-- what a round makes of the flags and of the phases
pub record Round (size seed : ℕ) (members new : List Bool) (made more : List PhasePart) : Type 0 where
  -- a round puts a tick of 15 minutes and the events of its drawn devices behind the phases
  pub phases : (earlier : List ℕ) → members ≡ joined_flags size earlier →
      more ≡ made ++ tick (pos 15) ∷ events (turns earlier (round_picks size seed)) ∷ []
  -- a round makes the flags those after its events too
  pub flags : (earlier : List ℕ) → members ≡ joined_flags size earlier → new ≡ joined_flags size (earlier ++ round_picks size seed)

-- with one round's flags, phases and seed after it, the rounds have come one further
pub rounded-more : (size have first : ℕ) (front : List PhasePart) (count seed left : ℕ) (members new : List Bool)
    (made more : List PhasePart) → count < 10 → have ≡ size
    → Rounded size first front count seed members made → Round have seed members new made more →
    left ≡ seed_after (round_len have) seed → Rounded size first front (count + 1) left new more
rounded-more size have first front count seed left members new made more low same before here left_is =
    let round : Round size seed members new made more = subst (λ n. Round n seed members new made more) same here in
    let earlier : List ℕ = before.earlier in
    let pair : List PhasePart = tick (pos 15) ∷ events (turns earlier (round_picks size seed)) ∷ [] in
    record {
      earlier = earlier ++ round_picks size seed;
      flags = round.flags earlier before.flags;
      left =
          ap (λ s. more ++ rounds (10 - (count + 1)) size (earlier ++ round_picks size seed) s) (left_is ∙ ap (λ n. seed_after (round_len n) seed) same)
          ∙ ap (λ phases. phases ++ rounds (10 - (count + 1)) size (earlier ++ round_picks size seed)
          (seed_after (round_len size) seed)) (round.phases earlier before.flags)
          ∙ append_assoc made pair (rounds (10 - (count + 1)) size (earlier ++ round_picks size seed) (seed_after (round_len size) seed))
          ∙ ap (λ rest. made ++ rest) (sym (rounds-step count size earlier seed low))
          ∙ before.left;
    }

-- once ten rounds have come, the phases are those before and all ten rounds
pub rounded-all : (size first : ℕ) (front : List PhasePart) (count seed : ℕ) (members : List Bool) (made : List PhasePart) →
    10 ≤ count → Rounded size first front count seed members made → made ≡ front ++ rounds 10 size (range_with_len 1 size) first
unfolding rounds
rounded-all size first front count seed members made high after_all =
    let none : 10 - count ≡ 0 = omega arith in
    sym (append-nil made) ∙ ap (λ n. made ++ rounds n size after_all.earlier seed) (sym none) ∙ after_all.left
