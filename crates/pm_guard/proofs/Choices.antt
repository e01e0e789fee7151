-- Which children of a guard of which all is promised may be band, and how far each tell brings them.
use Rattle.std.proofs.Common.{◌≡◌, ◌∙◌, sym, ap, subst, refl, ℕ, zero, suc, ◌+◌, ◌<◌, ℤ, pos, ◌+ℤ◌, ◌-ℤ◌}
use Rattle.std.proofs.Common.{◌≤ℤ◌, ◌<ℤ◌, List, [], ◌∷◌, length, map}
use Rattle.std.proofs.Common.{Bool, true, false, ◌⊎◌, inl, inr, arith, slice_get, Some, eqb, ◌≢◌, cond}
use Rattle.std.proofs.Math.ListN.{set}
use Rattle.std.specs.Prelude.{int_lt, ◌||◌}
use Rattle.std.proofs.lemmas.Int.{ints, clamps}
use Rattle.std.proofs.lemmas.Bool.{and_parts, and_from, and_left, and_right}
use Rattle.std.proofs.lemmas.Bool.Decides.{eqb_tells}
use Rattle.std.proofs.lemmas.Option.{get_or_from_slice_get}
use Rattle.std.proofs.lemmas.List.{length-set, get_or-set_same, get_or-set_other}
use Rattle.pm_base.specs.Limits.{IsWithin, demand_limit}
use Rattle.pm_base.specs.declared.limits.Limits.{Limits}
use Rattle.pm_base.proofs.Bools.{or_false}
use Rattle.pm_base.proofs.Ints.{is_below, is_not_below, not_below}
use Rattle.pm_bid.specs.Bids.{demand_at, AllWithinLimit}
use Rattle.pm_guard.specs.Bands.{greatest_power, least_power, total_by, has_room, goes_over, goes_under, wants_other, is_other_power}
use Rattle.pm_guard.specs.Guards.{may_tell, may_choose, bands_of}
use Rattle.pm_guard.specs.Choosing.{holds_only, settled_guard, same_power, sum_of_powers, HasMargin, IsChoice, IsTellRun, after_run, count_apart}
use Rattle.pm_guard.specs.declared.band.Band.{Band}
use Rattle.pm_guard.proofs.Ends.{total_by-set, has_room-from, has_room-parts, may_tell_is, ceiling_room, floor_room}

-- ---- a guard of which all is promised

-- the greatest that is held of a child that promised one power
pub most_only : (power : ℤ) → IsWithin demand_limit power → greatest_power (holds_only power) ≡ power
most_only power small = omega (arith, ints, clamps, small)

-- .. and the least
pub least_only : (power : ℤ) → IsWithin demand_limit power → least_power (holds_only power) ≡ power
least_only power small = omega (arith, ints, clamps, small)

-- the powers behind the first are small
pub small_rest : (power : ℤ) (taken : List ℤ) → AllWithinLimit demand_limit (power ∷ taken) → AllWithinLimit demand_limit taken
small_rest power taken small step inside = small (suc step) (omega (arith, inside))

-- the first power is small
pub small_first : (power : ℤ) (taken : List ℤ) → AllWithinLimit demand_limit (power ∷ taken) → IsWithin demand_limit power
small_first power taken small = small 0 (omega arith)

-- of such a guard the most that may flow is what is taken
pub worst_settled : (taken : List ℤ) → AllWithinLimit demand_limit taken → total_by greatest_power (map holds_only taken) ≡ sum_of_powers taken
worst_settled [] small = refl
worst_settled (power ∷ taken) small =
    let first = most_only power (small_first power taken small) in
    let rest = worst_settled taken (small_rest power taken small) in
    omega (arith, ints, first, rest)

-- .. and the least
pub best_settled : (taken : List ℤ) → AllWithinLimit demand_limit taken → total_by least_power (map holds_only taken) ≡ sum_of_powers taken
best_settled [] small = refl
best_settled (power ∷ taken) small =
    let first = least_only power (small_first power taken small) in
    let rest = best_settled taken (small_rest power taken small) in
    omega (arith, ints, first, rest)

-- what such a guard holds of a child
pub held_at : (taken : List ℤ) (i : ℕ) → i < length taken → slice_get (map holds_only taken) i ≡ Some (holds_only (demand_at taken i))
held_at [] i inside = absurd (omega (arith, inside))
held_at (power ∷ taken) zero inside = refl
held_at (power ∷ taken) (suc i) inside = held_at taken i (omega (arith, inside))

-- such a guard holds something of each child
pub length_settled : (taken : List ℤ) → length (map holds_only taken) ≡ length taken
length_settled [] = refl
length_settled (power ∷ taken) = ap suc (length_settled taken)

-- what such a guard answers
room_settled : (limits : Limits) (taken : List ℤ) (i : ℕ) (target : ℤ) → AllWithinLimit demand_limit taken → i < length taken →
    has_room limits (sum_of_powers taken) (sum_of_powers taken) (demand_at taken i) (demand_at taken i) target target ≡ may_tell
    (settled_guard limits taken) i target target
room_settled limits taken i target small inside =
    may_tell_is (settled_guard limits taken) i (holds_only (demand_at taken i)) (sum_of_powers taken) (sum_of_powers taken) (demand_at taken i)
    (demand_at taken i) target target _ (held_at taken i inside) (sym (worst_settled taken small)) (sym (best_settled taken small))
    (sym (most_only (demand_at taken i) (small i inside))) (sym (least_only (demand_at taken i) (small i inside))) refl

other_twice : (a t : ℤ) → (is_other_power a t || is_other_power a t) ≡ is_other_power a t
other_twice a t = cases (is_other_power a t)
  where
    cases : (b : Bool) → (b || b) ≡ b
    cases true = refl
    cases false = refl

other_settled : (limits : Limits) (taken : List ℤ) (i : ℕ) (target : ℤ) → i < length taken →
    wants_other (bands_of (settled_guard limits taken) i) target ≡ is_other_power (demand_at taken i) target
other_settled limits taken i target inside =
    ap (λ (held : List Band). wants_other held target)
    (get_or_from_slice_get (map holds_only taken) i (holds_only (demand_at taken i)) [] (held_at taken i inside))
    ∙ other_twice (demand_at taken i) target

-- ---- a child that may be chosen

not_over : (ceiling w most power : ℤ) → (power ≤ℤ most) ⊎ ((w +ℤ (power -ℤ most)) ≤ℤ ceiling) → goes_over ceiling w most power ≡ false
not_over ceiling w most power (inl low) = and_left _ (int_lt ceiling (w +ℤ (power -ℤ most))) (not_below most power low)
not_over ceiling w most power (inr low) = and_right (int_lt most power) _ (not_below ceiling (w +ℤ (power -ℤ most)) low)

not_under : (floor b least power : ℤ) → (least ≤ℤ power) ⊎ (floor ≤ℤ (b +ℤ (power -ℤ least))) → goes_under floor b least power ≡ false
not_under floor b least power (inl high) = and_left _ (int_lt (b +ℤ (power -ℤ least)) floor) (not_below power least high)
not_under floor b least power (inr high) = and_right (int_lt power least) _ (not_below (b +ℤ (power -ℤ least)) floor high)

choice_from : (limits : Limits) (taken targets : List ℤ) (i : ℕ) → AllWithinLimit demand_limit taken → i < length taken →
    is_other_power (demand_at taken i) (demand_at targets i) ≡ true →
    (demand_at targets i ≤ℤ demand_at taken i) ⊎ ((sum_of_powers taken +ℤ (demand_at targets i -ℤ demand_at taken i)) ≤ℤ limits.ceiling) →
    (demand_at taken i ≤ℤ demand_at targets i) ⊎ (limits.floor ≤ℤ (sum_of_powers taken +ℤ (demand_at targets i -ℤ demand_at taken i))) →
    (choice : ℕ) × IsChoice (settled_guard limits taken) targets choice
choice_from limits taken targets i small inside other over under =
    let s = sum_of_powers taken in
    let room = has_room-from limits s s (demand_at taken i) (demand_at taken i) (demand_at targets i) (demand_at targets i)
    (not_over limits.ceiling s (demand_at taken i) (demand_at targets i) over) (not_under limits.floor s (demand_at taken i) (demand_at targets i) under) in
    let may = sym (room_settled limits taken i (demand_at targets i) small inside) ∙ room in (
      i,
      record {
        inside = subst (λ n. i < n) (sym (length_settled taken)) inside;
        chosen = and_from _ _ (other_settled limits taken i (demand_at targets i) inside ∙ other) may;
      },
    )

-- ---- sums that is_other_power

below_is_other : (a t : ℤ) → t <ℤ a → is_other_power a t ≡ true
below_is_other a t h = cases (int_lt a t) refl
  where
    passes : int_lt t a ≡ true
    passes = grind (arith, ints)

    cases : (b : Bool) → int_lt a t ≡ b → (b || int_lt t a) ≡ true
    cases true e = refl
    cases false e = passes

above_is_other : (a t : ℤ) → a <ℤ t → is_other_power a t ≡ true
above_is_other a t h = ap (λ b. b || int_lt t a) passes
  where
    passes : int_lt a t ≡ true
    passes = grind (arith, ints)

sum_first : (a t s u : ℤ) → (t +ℤ u) <ℤ (a +ℤ s) → a ≤ℤ t → u <ℤ s
sum_first a t s u h k = omega (arith, ints)

abbrev pub Falls : List ℤ → List ℤ → Type 0
Falls taken targets = (i : ℕ) × (i < length taken) × (demand_at targets i <ℤ demand_at taken i)

-- if the targets add up to less, one of them is less
some_falls : (taken targets : List ℤ) → length targets ≡ length taken → sum_of_powers targets <ℤ sum_of_powers taken → Falls taken targets
some_falls [] [] many less = absurd (omega (arith, ints, less))
some_falls [] (target ∷ targets) many less = absurd (omega (arith, many))
some_falls (power ∷ taken) [] many less = absurd (omega (arith, many))
some_falls (power ∷ taken) (target ∷ targets) many less = cases (int_lt target power) refl (λ h. some_falls taken targets (omega (arith, many)) h)
  where
    cases : (b : Bool) → int_lt target power ≡ b → (sum_of_powers targets <ℤ sum_of_powers taken → Falls taken targets) →
        Falls (power ∷ taken) (target ∷ targets)
    cases true e more = (0, omega arith, is_below target power e)
    cases false e more =
        let rest = more (sum_first power target (sum_of_powers taken) (sum_of_powers targets) less (is_not_below target power e)) in
        (suc rest.0, omega (arith, rest.1), rest.2)

sides : (a b : ℤ) → (a <ℤ b) ⊎ (b ≤ℤ a)
sides a b = cases (int_lt a b) refl
  where
    cases : (t : Bool) → int_lt a b ≡ t → (a <ℤ b) ⊎ (b ≤ℤ a)
    cases true e = inl (is_below a b e)
    cases false e = inr (is_not_below a b e)

-- ---- some child may be chosen

pub some_choice : (limits : Limits) (m : ℤ) (taken targets : List ℤ) (child : ℕ) → HasMargin limits m taken targets → child < length taken →
    is_other_power (demand_at taken child) (demand_at targets child) ≡ true → (choice : ℕ) × IsChoice (settled_guard limits taken) targets choice
some_choice limits m taken targets child h inside other = cases (sides (limits.ceiling -ℤ m) s) (sides s (limits.floor +ℤ m))
  where
    s : ℤ
    s = sum_of_powers taken

    any : s ≤ℤ (limits.ceiling -ℤ m) → (limits.floor +ℤ m) ≤ℤ s → (choice : ℕ) × IsChoice (settled_guard limits taken) targets choice
    any low high =
        let move = h.moves child inside in
        choice_from limits taken targets child h.small inside other (inr (omega (arith, ints, low, move.1))) (inr (omega (arith, ints, high, move.0)))

    cases : ((limits.ceiling -ℤ m) <ℤ s) ⊎ (s ≤ℤ (limits.ceiling -ℤ m)) → (s <ℤ (limits.floor +ℤ m)) ⊎ ((limits.floor +ℤ m) ≤ℤ s) →
        (choice : ℕ) × IsChoice (settled_guard limits taken) targets choice
    cases (inl high) b =
        let fall = some_falls taken targets h.many (omega (arith, ints, high, h.ceiling_margin)) in
        let i = fall.0 in
        let move = h.moves i fall.1 in
        choice_from limits taken targets i h.small fall.1 (below_is_other (demand_at taken i) (demand_at targets i) fall.2)
        (inl (omega (arith, ints, fall.2))) (inr (omega (arith, ints, high, h.ceiling_margin, h.floor_margin, move.0)))
    cases (inr low) (inl below) =
        let rise = some_falls targets taken (sym h.many) (omega (arith, ints, below, h.floor_margin)) in
        let i = rise.0 in
        let within : i < length taken = omega (arith, rise.1, h.many) in
        let move = h.moves i within in
        choice_from limits taken targets i h.small within (above_is_other (demand_at taken i) (demand_at targets i) rise.2)
        (inr (omega (arith, ints, low, move.1))) (inl (omega (arith, ints, rise.2)))
    cases (inr low) (inr high) = any low high

-- ---- a tell brings a child to its target

-- what is taken at a place once the child at i takes its target
abbrev pub AtOrSame : List ℤ → ℕ → ℤ → ℕ → Type 0
AtOrSame taken i target k = ((k ≡ i) × (demand_at (set taken i target) k ≡ target)) ⊎ (demand_at (set taken i target) k ≡ demand_at taken k)

set_or_same : (taken : List ℤ) (i : ℕ) (target : ℤ) (k : ℕ) → i < length taken → AtOrSame taken i target k
set_or_same taken i target k inside = cases (eqb_tells k i)
  where
    cases : ((eqb k i ≡ true) × (k ≡ i)) ⊎ ((eqb k i ≡ false) × (k ≢ i)) → AtOrSame taken i target k
    cases (inl same) = inl (same.1, subst (λ n. demand_at (set taken i target) n ≡ target) (sym same.1) (get_or-set_same taken i target (pos 0) inside))
    cases (inr apart) = inr (get_or-set_other taken i k target (pos 0) apart.1)

margin_positive : (m a t : ℤ) → a ≤ℤ (t +ℤ m) → t ≤ℤ (a +ℤ m) → pos 0 ≤ℤ m
margin_positive m a t h k = omega (arith, ints)

-- what the tell of a choice says
abbrev pub KeepsSums : Limits → List ℤ → List ℤ → ℕ → Type 0
KeepsSums limits taken targets i = (limits.floor ≤ℤ ((sum_of_powers taken -ℤ demand_at taken i) +ℤ demand_at targets i))
    × (((sum_of_powers taken -ℤ demand_at taken i) +ℤ demand_at targets i) ≤ℤ limits.ceiling)
    × (is_other_power (demand_at taken i) (demand_at targets i) ≡ true)

choice_keeps : (limits : Limits) (m : ℤ) (taken targets : List ℤ) (i : ℕ) → HasMargin limits m taken targets → i < length taken →
    may_choose (settled_guard limits taken) targets i ≡ true → KeepsSums limits taken targets i
choice_keeps limits m taken targets i h inside chosen =
    let a = demand_at taken i in
    let t = demand_at targets i in
    let s = sum_of_powers taken in
    let both = and_parts (wants_other (bands_of (settled_guard limits taken) i) t) (may_tell (settled_guard limits taken) i t t) chosen in
    let room = has_room-parts limits s s a a t t (room_settled limits taken i t h.small inside ∙ both.1) in
    let over = ceiling_room s a t limits.ceiling room.0 in
    let under = floor_room s a t limits.floor room.1 in
    (omega (arith, ints, clamps, under, h.floor), omega (arith, ints, clamps, over, h.ceiling), sym (other_settled limits taken i t inside) ∙ both.0)

-- after the tell of a choice the targets have the margin still
pub margin_kept : (limits : Limits) (m : ℤ) (taken targets : List ℤ) (i : ℕ) → HasMargin limits m taken targets → i < length taken →
    KeepsSums limits taken targets i → HasMargin limits m (set taken i (demand_at targets i)) targets
margin_kept limits m taken targets i h inside keeps =
    let sum = total_by-set same_power taken i (demand_at targets i) (pos 0) inside in
    record {
      many = h.many ∙ sym (length-set taken i (demand_at targets i));
      small = λ k within. small k (within_old k within) (set_or_same taken i (demand_at targets i) k inside);
      small_targets = h.small_targets;
      floor = omega (arith, ints, sum, keeps.0);
      ceiling = omega (arith, ints, sum, keeps.1);
      floor_margin = h.floor_margin;
      ceiling_margin = h.ceiling_margin;
      moves = λ k within. moves k (within_old k within) (set_or_same taken i (demand_at targets i) k inside);
    }
  where
    within_old : (k : ℕ) → k < length (set taken i (demand_at targets i)) → k < length taken
    within_old k within = subst (λ n. k < n) (length-set taken i (demand_at targets i)) within

    small : (k : ℕ) → k < length taken → AtOrSame taken i (demand_at targets i) k → IsWithin demand_limit
        (demand_at (set taken i (demand_at targets i)) k)
    small k within (inl same) =
        subst (IsWithin demand_limit) (sym same.1) (h.small_targets i (omega (arith, inside, h.many)))
    small k within (inr same) = subst (IsWithin demand_limit) (sym same) (h.small k within)

    moves : (k : ℕ) → k < length taken → AtOrSame taken i (demand_at targets i) k →
        (demand_at (set taken i (demand_at targets i)) k ≤ℤ (demand_at targets k +ℤ m)) ×
        (demand_at targets k ≤ℤ (demand_at (set taken i (demand_at targets i)) k +ℤ m))
    moves k within (inl same) =
        let move = h.moves i inside in
        let positive = margin_positive m (demand_at taken i) (demand_at targets i) move.0 move.1 in
        let target = ap (demand_at targets) same.0 in
        (omega (arith, ints, same.1, positive, target), omega (arith, ints, same.1, positive, target))
    moves k within (inr same) =
        let move = h.moves k within in
        (omega (arith, ints, same, move.0), omega (arith, ints, same, move.1))

-- ---- how many are not at their target

same_is : (t : ℤ) → is_other_power t t ≡ false
same_is t = ap (λ b. b || int_lt t t) fails ∙ fails
  where
    fails : int_lt t t ≡ false
    fails = grind (arith, ints)

one_less : (rest : ℕ) (a t : ℤ) → is_other_power a t ≡ true → 1 + cond (is_other_power t t) (1 + rest) rest ≡ cond (is_other_power a t)
    (1 + rest) rest
one_less rest a t other = ap (λ b. 1 + cond b (1 + rest) rest) (same_is t) ∙ sym (ap (λ b. cond b (1 + rest) rest) other)

rest_less : (b : Bool) (n k : ℕ) → 1 + n ≡ k → 1 + cond b (1 + n) n ≡ cond b (1 + k) k
rest_less true n k h = omega (arith, h)
rest_less false n k h = h

count_apart-set : (taken targets : List ℤ) (i : ℕ) → length targets ≡ length taken → i < length taken →
    is_other_power (demand_at taken i) (demand_at targets i) ≡ true → 1 + count_apart (set taken i (demand_at targets i)) targets
    ≡ count_apart taken targets
count_apart-set [] targets i many inside other = absurd (omega (arith, inside))
count_apart-set (power ∷ taken) [] i many inside other = absurd (omega (arith, many))
count_apart-set (power ∷ taken) (target ∷ targets) zero many inside other = one_less (count_apart taken targets) power target other
count_apart-set (power ∷ taken) (target ∷ targets) (suc i) many inside other =
    rest_less (is_other_power power target) _ _ (count_apart-set taken targets i (omega (arith, many)) (omega (arith, inside)) other)

-- if no child differs, all take their targets
pub none_apart : (taken targets : List ℤ) → length targets ≡ length taken → count_apart taken targets ≡ 0 → taken ≡ targets
none_apart [] [] many none = refl
none_apart [] (target ∷ targets) many none = absurd (omega (arith, many))
none_apart (power ∷ taken) [] many none = absurd (omega (arith, many))
none_apart (power ∷ taken) (target ∷ targets) many none =
    cases (is_other_power power target) refl none (λ h. none_apart taken targets (omega (arith, many)) h)
  where
    cases : (b : Bool) → is_other_power power target ≡ b → cond b (1 + count_apart taken targets) (count_apart taken targets) ≡ 0 →
        (count_apart taken targets ≡ 0 → taken ≡ targets) → (power ∷ taken) ≡ (target ∷ targets)
    cases true e h more = absurd (omega (arith, h))
    cases false e h more =
        let parts = or_false (int_lt power target) (int_lt target power) e in
        let low = is_not_below power target parts.0 in
        let high = is_not_below target power parts.1 in
        let same : power ≡ target = omega (arith, ints, low, high) in
        ap (λ p. p ∷ taken) same ∙ ap (λ ps. target ∷ ps) (more h)

-- ---- a run

pub run_keeps : (limits : Limits) (m : ℤ) (run : List ℕ) (taken targets : List ℤ) → HasMargin limits m taken targets →
    IsTellRun limits targets taken run →
    HasMargin limits m (after_run targets taken run) targets × (length run + count_apart (after_run targets taken run) targets ≡ count_apart taken targets)
run_keeps limits m [] taken targets h run = (h, omega arith)
run_keeps limits m (i ∷ is) taken targets h run =
    let inside : i < length taken = subst (λ n. i < n) (length_settled taken) run.0.inside in
    let keeps = choice_keeps limits m taken targets i h inside run.0.chosen in
    let next = run_keeps limits m is (set taken i (demand_at targets i)) targets (margin_kept limits m taken targets i h inside keeps) run.1 in
    let less = count_apart-set taken targets i h.many inside keeps.2 in
    (next.0, omega (arith, next.1, less))
