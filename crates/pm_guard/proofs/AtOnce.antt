-- Targets that fit beside all that is held.
use Rattle.std.proofs.Common.{◌≡◌, ◌∙◌, sym, ap, subst, refl, ℕ, zero, suc, ◌<◌, ℤ, ◌+ℤ◌, ◌-ℤ◌, ◌≤ℤ◌, List}
use Rattle.std.proofs.Common.{[], ◌∷◌, ◌++◌, length, map}
use Rattle.std.proofs.Common.{Bool, true, false, arith, get_or, cond}
use Rattle.std.proofs.Math.ListN.{set}
use Rattle.std.specs.Prelude.{int_lt}
use Rattle.std.specs.Int.{int_max, int_min}
use Rattle.std.proofs.lemmas.Int.{ints, clamps}
use Rattle.std.proofs.lemmas.Bool.{and_left, and_right}
use Rattle.std.proofs.lemmas.Option.{slice_get-get_or}
use Rattle.std.proofs.lemmas.List.{length-set}
use Rattle.pm_base.specs.Limits.{IsWithin, demand_limit}
use Rattle.pm_base.specs.declared.limits.Limits.{Limits}
use Rattle.pm_base.proofs.Ints.{is_below, not_below}
use Rattle.pm_bid.specs.Bids.{demand_at, AllWithinLimit}
use Rattle.pm_guard.specs.Bands.{greatest_power, least_power, total_by, goes_over, goes_under}
use Rattle.pm_guard.specs.Guards.{GuardData, worst, best, may_tell, told_in, with_bands, bands_of}
use Rattle.pm_guard.specs.Choosing.{holds_only, settled_guard, sum_of_powers, worst_with, best_with, FitsAtOnce, lower_of}
use Rattle.pm_guard.specs.declared.band.Band.{Band}
use Rattle.pm_guard.proofs.Ends.{has_room-from, may_tell_is, greatest_power-push, least_power-push}
use Rattle.pm_guard.proofs.Choices.{most_only, least_only, small_rest, small_first, length_settled}

add_max : (m t s w : ℤ) → s ≤ℤ w → (m +ℤ s) ≤ℤ (int_max m t +ℤ w)
add_max m t s w h = omega (arith, ints, clamps)

add_min : (m t s w : ℤ) → w ≤ℤ s → (int_min m t +ℤ w) ≤ℤ (m +ℤ s)
add_min m t s w h = omega (arith, ints, clamps)

all_most : (helds : List (List Band)) (targets : List ℤ) → total_by greatest_power helds ≤ℤ worst_with helds targets
all_most [] targets = omega (arith, ints)
all_most (held ∷ helds) [] = let rest = all_most helds [] in omega (arith, ints, rest)
all_most (held ∷ helds) (target ∷ targets) = add_max (greatest_power held) target _ _ (all_most helds targets)

all_least : (helds : List (List Band)) (targets : List ℤ) → best_with helds targets ≤ℤ total_by least_power helds
all_least [] targets = omega (arith, ints)
all_least (held ∷ helds) [] = let rest = all_least helds [] in omega (arith, ints, rest)
all_least (held ∷ helds) (target ∷ targets) = add_min (least_power held) target _ _ (all_least helds targets)

first_max : (m t s w : ℤ) → s ≤ℤ w → (((m +ℤ s) -ℤ m) +ℤ int_max m t) ≤ℤ (int_max m t +ℤ w)
first_max m t s w h = omega (arith, ints)

next_max : (m t s n x w : ℤ) → ((s -ℤ n) +ℤ x) ≤ℤ w → (((m +ℤ s) -ℤ n) +ℤ x) ≤ℤ (int_max m t +ℤ w)
next_max m t s n x w h = omega (arith, ints, clamps)

first_min : (m t s w : ℤ) → w ≤ℤ s → (int_min m t +ℤ w) ≤ℤ (((m +ℤ s) -ℤ m) +ℤ int_min m t)
first_min m t s w h = omega (arith, ints)

next_min : (m t s n x w : ℤ) → w ≤ℤ ((s -ℤ n) +ℤ x) → (int_min m t +ℤ w) ≤ℤ (((m +ℤ s) -ℤ n) +ℤ x)
next_min m t s n x w h = omega (arith, ints, clamps)

one_most : (helds : List (List Band)) (targets : List ℤ) (i : ℕ) → length targets ≡ length helds → i < length helds →
    ((total_by greatest_power helds -ℤ greatest_power (get_or helds i [])) +ℤ int_max (greatest_power (get_or helds i [])) (demand_at targets i))
    ≤ℤ worst_with helds targets
one_most [] targets i many inside = absurd (omega (arith, inside))
one_most (held ∷ helds) [] i many inside = absurd (omega (arith, many))
one_most (held ∷ helds) (target ∷ targets) zero many inside = first_max (greatest_power held) target _ _ (all_most helds targets)
one_most (held ∷ helds) (target ∷ targets) (suc i) many inside =
    next_max (greatest_power held) target (total_by greatest_power helds) (greatest_power (get_or helds i [])) _ _
    (one_most helds targets i (omega (arith, many)) (omega (arith, inside)))

one_least : (helds : List (List Band)) (targets : List ℤ) (i : ℕ) → length targets ≡ length helds → i < length helds →
    best_with helds targets ≤ℤ ((total_by least_power helds -ℤ least_power (get_or helds i [])) +ℤ int_min (least_power (get_or helds i []))
    (demand_at targets i))
one_least [] targets i many inside = absurd (omega (arith, inside))
one_least (held ∷ helds) [] i many inside = absurd (omega (arith, many))
one_least (held ∷ helds) (target ∷ targets) zero many inside = first_min (least_power held) target _ _ (all_least helds targets)
one_least (held ∷ helds) (target ∷ targets) (suc i) many inside =
    next_min (least_power held) target (total_by least_power helds) (least_power (get_or helds i [])) _ _
    (one_least helds targets i (omega (arith, many)) (omega (arith, inside)))

over_false : (ceiling w most power : ℤ) → ((w -ℤ most) +ℤ int_max most power) ≤ℤ ceiling → goes_over ceiling w most power ≡ false
over_false ceiling w most power h = cases (int_lt most power) refl
  where
    cases : (b : Bool) → int_lt most power ≡ b → goes_over ceiling w most power ≡ false
    cases true e =
        let above = is_below most power e in
        and_right (int_lt most power) _ (not_below ceiling (w +ℤ (power -ℤ most)) (omega (arith, ints, clamps, h, above)))
    cases false e = and_left _ (int_lt ceiling (w +ℤ (power -ℤ most))) e

under_false : (floor b least power : ℤ) → floor ≤ℤ ((b -ℤ least) +ℤ int_min least power) → goes_under floor b least power ≡ false
under_false floor b least power h = cases (int_lt power least) refl
  where
    cases : (t : Bool) → int_lt power least ≡ t → goes_under floor b least power ≡ false
    cases true e =
        let below = is_below power least e in
        and_right (int_lt power least) _ (not_below (b +ℤ (power -ℤ least)) floor (omega (arith, ints, clamps, h, below)))
    cases false e = and_left _ (int_lt (b +ℤ (power -ℤ least)) floor) e

le-trans : (a b c : ℤ) → a ≤ℤ b → b ≤ℤ c → a ≤ℤ c
le-trans a b c h k = omega (arith, ints)

-- a child may be told its target, where all targets fit
pub fits_told : (g : GuardData) (targets : List ℤ) (i : ℕ) → FitsAtOnce g targets → i < length g.held → may_tell g i (demand_at targets i)
    (demand_at targets i) ≡ true
fits_told g targets i fits inside =
    let held = bands_of g i in
    let t = demand_at targets i in
    let over = over_false g.limits.ceiling (worst g) (greatest_power held) t (le-trans _ _ _ (one_most g.held targets i fits.many inside) fits.ceiling) in
    let under = under_false g.limits.floor (best g) (least_power held) t (le-trans _ _ _ fits.floor (one_least g.held targets i fits.many inside)) in
    sym (may_tell_is g i held (worst g) (best g) (greatest_power held) (least_power held) t t _ (slice_get-get_or g.held i [] inside) refl refl refl refl refl)
    ∙ has_room-from g.limits (worst g) (best g) (greatest_power held) (least_power held) t t over under

twice_max : (m t : ℤ) → int_max (int_max m t) t ≡ int_max m t
twice_max m t = omega (arith, ints, clamps)

twice_min : (m t : ℤ) → int_min (int_min m t) t ≡ int_min m t
twice_min m t = omega (arith, ints, clamps)

max_again : (held : List Band) (band : Band) (t : ℤ) → band.high ≡ t → int_max (greatest_power (held ++ band ∷ [])) t ≡ int_max
    (greatest_power held) t
max_again held band t same =
    ap (λ z. int_max z t) (greatest_power-push held band ∙ ap (λ p. int_max (greatest_power held) p) same) ∙ twice_max (greatest_power held) t

min_again : (held : List Band) (band : Band) (t : ℤ) → band.low ≡ t → int_min (least_power (held ++ band ∷ [])) t ≡ int_min (least_power held) t
min_again held band t same =
    ap (λ z. int_min z t) (least_power-push held band ∙ ap (λ p. int_min (least_power held) p) same) ∙ twice_min (least_power held) t

worst_same : (helds : List (List Band)) (targets : List ℤ) (i : ℕ) (band : Band) → length targets ≡ length helds → i < length helds →
    band.high ≡ demand_at targets i → worst_with (set helds i (get_or helds i [] ++ band ∷ [])) targets ≡ worst_with helds targets
worst_same [] targets i band many inside same = absurd (omega (arith, inside))
worst_same (held ∷ helds) [] i band many inside same = absurd (omega (arith, many))
worst_same (held ∷ helds) (target ∷ targets) zero band many inside same = ap (λ z. z +ℤ worst_with helds targets) (max_again held band target same)
worst_same (held ∷ helds) (target ∷ targets) (suc i) band many inside same =
    ap (λ z. int_max (greatest_power held) target +ℤ z) (worst_same helds targets i band (omega (arith, many)) (omega (arith, inside)) same)

best_same : (helds : List (List Band)) (targets : List ℤ) (i : ℕ) (band : Band) → length targets ≡ length helds → i < length helds →
    band.low ≡ demand_at targets i → best_with (set helds i (get_or helds i [] ++ band ∷ [])) targets ≡ best_with helds targets
best_same [] targets i band many inside same = absurd (omega (arith, inside))
best_same (held ∷ helds) [] i band many inside same = absurd (omega (arith, many))
best_same (held ∷ helds) (target ∷ targets) zero band many inside same = ap (λ z. z +ℤ best_with helds targets) (min_again held band target same)
best_same (held ∷ helds) (target ∷ targets) (suc i) band many inside same =
    ap (λ z. int_min (least_power held) target +ℤ z) (best_same helds targets i band (omega (arith, many)) (omega (arith, inside)) same)

-- .. and all fit still once it is told
pub fits_kept : (g : GuardData) (targets : List ℤ) (i : ℕ) (band : Band) → FitsAtOnce g targets → band.low ≡ demand_at targets i →
    band.high ≡ demand_at targets i →
    i < length g.held → FitsAtOnce (told_in g i band) targets
fits_kept g targets i band fits low high inside = cases (may_tell g i band.low band.high)
  where
    with_it : FitsAtOnce (with_bands g i (bands_of g i ++ band ∷ [])) targets
    with_it = record {
      many = fits.many ∙ sym (length-set g.held i (bands_of g i ++ band ∷ []));
      ceiling = subst (λ z. z ≤ℤ g.limits.ceiling) (sym (worst_same g.held targets i band fits.many inside high)) fits.ceiling;
      floor = subst (λ z. g.limits.floor ≤ℤ z) (sym (best_same g.held targets i band fits.many inside low)) fits.floor;
    }

    cases : (b : Bool) → FitsAtOnce (cond b (with_bands g i (bands_of g i ++ band ∷ [])) g) targets
    cases true = with_it
    cases false = fits

-- ---- first all that fall, then all that rise

max_lower : (a t : ℤ) → IsWithin demand_limit a → int_max (greatest_power (holds_only a)) (int_min a t) ≤ℤ a
max_lower a t small = let is = most_only a small in omega (arith, ints, clamps, is)

min_lower : (a t : ℤ) → IsWithin demand_limit a → int_min a t ≤ℤ int_min (least_power (holds_only a)) (int_min a t)
min_lower a t small = let is = least_only a small in omega (arith, ints, clamps, is)

add_le : (a b c d : ℤ) → a ≤ℤ b → c ≤ℤ d → (a +ℤ c) ≤ℤ (b +ℤ d)
add_le a b c d h k = omega (arith, ints)

falling_worst : (taken targets : List ℤ) → length targets ≡ length taken → AllWithinLimit demand_limit taken →
    worst_with (map holds_only taken) (lower_of taken targets) ≤ℤ sum_of_powers taken
falling_worst [] targets many small = omega (arith, ints)
falling_worst (a ∷ taken) [] many small = absurd (omega (arith, many))
falling_worst (a ∷ taken) (t ∷ targets) many small =
    add_le _ _ _ _ (max_lower a t (small_first a taken small)) (falling_worst taken targets (omega (arith, many)) (small_rest a taken small))

falling_best : (taken targets : List ℤ) → length targets ≡ length taken → AllWithinLimit demand_limit taken →
    sum_of_powers (lower_of taken targets) ≤ℤ best_with (map holds_only taken) (lower_of taken targets)
falling_best [] targets many small = omega (arith, ints)
falling_best (a ∷ taken) [] many small = absurd (omega (arith, many))
falling_best (a ∷ taken) (t ∷ targets) many small =
    add_le _ _ _ _ (min_lower a t (small_first a taken small)) (falling_best taken targets (omega (arith, many)) (small_rest a taken small))

-- there are as many lower powers as powers
pub length_lower : (taken targets : List ℤ) → length targets ≡ length taken → length (lower_of taken targets) ≡ length taken
length_lower [] targets many = refl
length_lower (a ∷ taken) [] many = absurd (omega (arith, many))
length_lower (a ∷ taken) (t ∷ targets) many = ap suc (length_lower taken targets (omega (arith, many)))

-- the lower powers fit beside what is taken
pub fits_falling : (limits : Limits) (taken targets : List ℤ) → length targets ≡ length taken → AllWithinLimit demand_limit taken →
    sum_of_powers taken ≤ℤ limits.ceiling → limits.floor ≤ℤ sum_of_powers (lower_of taken targets) → FitsAtOnce
    (settled_guard limits taken) (lower_of taken targets)
fits_falling limits taken targets many small over under = record {
  many = length_lower taken targets many ∙ sym (length_settled taken);
  ceiling = le-trans _ _ _ (falling_worst taken targets many small) over;
  floor = le-trans _ _ _ under (falling_best taken targets many small);
}

max_higher : (a t : ℤ) → IsWithin demand_limit (int_min a t) → int_max (greatest_power (holds_only (int_min a t))) t ≤ℤ t
max_higher a t small = let is = most_only (int_min a t) small in omega (arith, ints, clamps, is)

min_higher : (a t : ℤ) → IsWithin demand_limit (int_min a t) → int_min a t ≤ℤ int_min (least_power (holds_only (int_min a t))) t
min_higher a t small = let is = least_only (int_min a t) small in omega (arith, ints, clamps, is)

rising_worst : (taken targets : List ℤ) → length targets ≡ length taken → AllWithinLimit demand_limit (lower_of taken targets) →
    worst_with (map holds_only (lower_of taken targets)) targets ≤ℤ sum_of_powers targets
rising_worst [] [] many small = omega (arith, ints)
rising_worst [] (t ∷ targets) many small = absurd (omega (arith, many))
rising_worst (a ∷ taken) [] many small = absurd (omega (arith, many))
rising_worst (a ∷ taken) (t ∷ targets) many small =
    add_le _ _ _ _ (max_higher a t (small_first (int_min a t) (lower_of taken targets) small))
    (rising_worst taken targets (omega (arith, many)) (small_rest (int_min a t) (lower_of taken targets) small))

rising_best : (taken targets : List ℤ) → length targets ≡ length taken → AllWithinLimit demand_limit (lower_of taken targets) →
    sum_of_powers (lower_of taken targets) ≤ℤ best_with (map holds_only (lower_of taken targets)) targets
rising_best [] targets many small = omega (arith, ints)
rising_best (a ∷ taken) [] many small = absurd (omega (arith, many))
rising_best (a ∷ taken) (t ∷ targets) many small =
    add_le _ _ _ _ (min_higher a t (small_first (int_min a t) (lower_of taken targets) small))
    (rising_best taken targets (omega (arith, many)) (small_rest (int_min a t) (lower_of taken targets) small))

-- the targets fit beside the lower powers
pub fits_rising : (limits : Limits) (taken targets : List ℤ) → length targets ≡ length taken → AllWithinLimit demand_limit (lower_of taken targets) →
    sum_of_powers targets ≤ℤ limits.ceiling → limits.floor ≤ℤ sum_of_powers (lower_of taken targets) →
    FitsAtOnce (settled_guard limits (lower_of taken targets)) targets
fits_rising limits taken targets many small over under = record {
  many = many ∙ sym (length_lower taken targets many) ∙ sym (length_settled (lower_of taken targets));
  ceiling = le-trans _ _ _ (rising_worst taken targets many small) over;
  floor = le-trans _ _ _ under (rising_best taken targets many small);
}
