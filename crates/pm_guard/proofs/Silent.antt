-- A guard some of whose children are silent.
use Rattle.std.proofs.Common.{◌≡◌, ◌∙◌, sym, ap, subst, refl, ℕ, zero, suc, ◌<◌, ℤ, ◌+ℤ◌, ◌-ℤ◌, ◌≤ℤ◌}
use Rattle.std.proofs.Common.{◌<ℤ◌, List, [], ◌∷◌, ◌++◌, length, map}
use Rattle.std.proofs.Common.{Bool, true, false, not, arith, slice_get, Some}
use Rattle.std.specs.Prelude.{int_lt, ◌&&◌}
use Rattle.std.proofs.lemmas.Int.{ints}
use Rattle.std.proofs.lemmas.Bool.{and_parts, and_from}
use Rattle.std.proofs.lemmas.Option.{get_or_from_slice_get}
use Rattle.pm_base.specs.declared.limits.Limits.{Limits}
use Rattle.pm_base.proofs.Ints.{is_below, is_not_below, not_below}
use Rattle.pm_bid.specs.Bids.{demand_at}
use Rattle.pm_guard.specs.Bands.{greatest_power, least_power, total_by, has_room, goes_over, goes_under, wants_other, is_other_power}
use Rattle.pm_guard.specs.Guards.{may_tell, may_tell_holder, may_choose, bands_of}
use Rattle.pm_guard.specs.Choosing.{holds_only, settled_guard, HasMargin, with_silent, limits_less}
use Rattle.pm_guard.specs.declared.band.Band.{Band}
use Rattle.pm_guard.proofs.Choices.{some_choice, held_at, length_settled}

total_by-append : (f : List Band → ℤ) (xs ys : List (List Band)) → total_by f (xs ++ ys) ≡ total_by f xs +ℤ total_by f ys
total_by-append f [] ys = omega (arith, ints)
total_by-append f (x ∷ xs) ys = let rest = total_by-append f xs ys in omega (arith, ints, rest)

at_front : (xs ys : List (List Band)) (i : ℕ) → i < length xs → slice_get (xs ++ ys) i ≡ slice_get xs i
at_front [] ys i inside = absurd (omega (arith, inside))
at_front (x ∷ xs) ys zero inside = refl
at_front (x ∷ xs) ys (suc i) inside = at_front xs ys i (omega (arith, inside))

-- two tests of which the one passes where the other does
same_test : (a b c d : ℤ) → (a <ℤ b → c <ℤ d) → (b ≤ℤ a → d ≤ℤ c) → int_lt a b ≡ int_lt c d
same_test a b c d passes fails = cases (int_lt a b) refl
  where
    is_true : (x y : ℤ) → x <ℤ y → int_lt x y ≡ true
    is_true x y h = grind (arith, ints)

    cases : (t : Bool) → int_lt a b ≡ t → int_lt a b ≡ int_lt c d
    cases true e = e ∙ sym (is_true c d (passes (is_below a b e)))
    cases false e = e ∙ sym (not_below c d (fails (is_not_below a b e)))

move_over : (c x w v m p : ℤ) → v ≡ w +ℤ x → int_lt (c -ℤ x) (w +ℤ (p -ℤ m)) ≡ int_lt c (v +ℤ (p -ℤ m))
move_over c x w v m p is = same_test (c -ℤ x) (w +ℤ (p -ℤ m)) c (v +ℤ (p -ℤ m)) (λ h. omega (arith, ints, h, is)) (λ h. omega (arith, ints, h, is))

move_under : (f x w v m p : ℤ) → v ≡ w +ℤ x → int_lt (w +ℤ (p -ℤ m)) (f -ℤ x) ≡ int_lt (v +ℤ (p -ℤ m)) f
move_under f x w v m p is = same_test (w +ℤ (p -ℤ m)) (f -ℤ x) (v +ℤ (p -ℤ m)) f (λ h. omega (arith, ints, h, is)) (λ h. omega (arith, ints, h, is))

-- beside the silent ones there is as much room as without them, within the limits less what they may be taking
same_room : (limits : Limits) (silent : List (List Band)) (w b v u most least low high : ℤ) → v ≡ w +ℤ total_by greatest_power silent → u
    ≡ b +ℤ total_by least_power silent →
    has_room (limits_less limits silent) w b most least low high ≡ has_room limits v u most least low high
same_room limits silent w b v u most least low high is_worst is_best =
    ap (λ t. not (int_lt most high && t) && not (goes_under (limits.floor -ℤ total_by least_power silent) b least low))
    (move_over limits.ceiling (total_by greatest_power silent) w v most high is_worst)
    ∙ ap (λ t. not (goes_over limits.ceiling v most high) && not (int_lt low least && t))
    (move_under limits.floor (total_by least_power silent) b u least low is_best)

same_tell : (limits : Limits) (taken : List ℤ) (silent : List (List Band)) (i : ℕ) (low high : ℤ) → i < length taken →
    may_tell (settled_guard (limits_less limits silent) taken) i low high ≡ may_tell (with_silent limits taken silent) i low high
same_tell limits taken silent i low high inside =
    let here = held_at taken i inside in
    let there : slice_get (map holds_only taken ++ silent) i ≡ Some (holds_only (demand_at taken i)) =
    at_front (map holds_only taken) silent i (subst (λ n. i < n) (sym (length_settled taken)) inside) ∙ here in
    ap (may_tell_holder (settled_guard (limits_less limits silent) taken) low high) here
    ∙ same_room limits silent _ _ _ _ (greatest_power (holds_only (demand_at taken i))) (least_power (holds_only (demand_at taken i))) low high
    (total_by-append greatest_power (map holds_only taken) silent) (total_by-append least_power (map holds_only taken) silent)
    ∙ sym (ap (may_tell_holder (with_silent limits taken silent) low high) there)

same_held : (limits : Limits) (taken : List ℤ) (silent : List (List Band)) (i : ℕ) → i < length taken →
    bands_of (settled_guard (limits_less limits silent) taken) i ≡ bands_of (with_silent limits taken silent) i
same_held limits taken silent i inside =
    let here = held_at taken i inside in
    let there : slice_get (map holds_only taken ++ silent) i ≡ Some (holds_only (demand_at taken i)) =
    at_front (map holds_only taken) silent i (subst (λ n. i < n) (sym (length_settled taken)) inside) ∙ here in
    get_or_from_slice_get (map holds_only taken) i (holds_only (demand_at taken i)) [] here
    ∙ sym (get_or_from_slice_get (map holds_only taken ++ silent) i (holds_only (demand_at taken i)) [] there)

-- some child that is not silent may be chosen
pub choice_around : (limits : Limits) (m : ℤ) (taken targets : List ℤ) (silent : List (List Band)) (child : ℕ) →
    HasMargin (limits_less limits silent) m taken targets → child < length taken → is_other_power (demand_at taken child)
    (demand_at targets child) ≡ true →
    (choice : ℕ) × (choice < length taken) × (may_choose (with_silent limits taken silent) targets choice ≡ true)
choice_around limits m taken targets silent child h inside other =
    let c = some_choice (limits_less limits silent) m taken targets child h inside other in
    let t = demand_at targets c.0 in
    let within : c.0 < length taken = subst (λ n. c.0 < n) (length_settled taken) c.1.inside in
    let parts = and_parts (wants_other (bands_of (settled_guard (limits_less limits silent) taken) c.0) t)
    (may_tell (settled_guard (limits_less limits silent) taken) c.0 t t) c.1.chosen in (
      c.0,
      within,
      and_from _ _ (ap (λ (held : List Band). wants_other held t) (sym (same_held limits taken silent c.0 within)) ∙ parts.0)
          (sym (same_tell limits taken silent c.0 t t within) ∙ parts.1),
    )
