-- What a guard knows of one node stays right: while it is told more, takes power, and promises.
use Rattle.std.proofs.Common.{◌≡◌, ◌∙◌, sym, ap, subst, refl, ℕ, zero, suc, ◌≤◌, ℤ, ◌≤ℤ◌, List, [], ◌∷◌, ◌++◌}
use Rattle.std.proofs.Common.{Bool, true, false, not, arith, filter, cond}
use Rattle.std.specs.Prelude.{int_lt, ◌&&◌, ◌||◌, Contains, nat_le}
use Rattle.std.specs.List.{list_any, list_all}
use Rattle.std.proofs.lemmas.Int.{ints}
use Rattle.std.proofs.lemmas.Bool.{and_parts, and_from, or_left, or_right}
use Rattle.std.proofs.lemmas.List.Folds.{list_any-append, list_all-append}
use Rattle.pm_guard.specs.Bands.{greatest_power, least_power, is_from, kept_after, lets_low, lets_high, may_span, is_around, is_held}
use Rattle.pm_guard.specs.Histories.{FitsHeld, IsNew}
use Rattle.pm_guard.specs.declared.band.Band.{Band}
use Rattle.pm_guard.proofs.Ends.{held_at_most, held_at_least, at_most-trans}

-- ---- tests

-- a comparison of numbers that holds passes its test, and the other way round
pub le_from : (a b : ℕ) → nat_le a b ≡ true → a ≤ b
le_from a b h = grind arith

-- a comparison of numbers that holds passes its test
pub passes : (a b : ℕ) → a ≤ b → nat_le a b ≡ true
passes a b h = grind arith

-- where the test for less fails, the other one is not greater
pub not_less : (a b : ℤ) → not (int_lt a b) ≡ true → b ≤ℤ a
not_less a b h = grind (arith, ints)

-- .. and where it is not greater, the test fails
pub is_no_less : (a b : ℤ) → b ≤ℤ a → not (int_lt a b) ≡ true
is_no_less a b h = grind (arith, ints)

-- ---- an element that passes a test

abbrev pub Passing : (Band → Bool) → List Band → Type 0
Passing p xs = (x : Band) × Contains xs x × (p x ≡ true)

contains_head : (x : Band) (xs : List Band) → Contains (x ∷ xs) x
contains_head x xs = (0, omega arith, refl)

contains_tail : (x : Band) (xs : List Band) (t : Band) → Contains xs t → Contains (x ∷ xs) t
contains_tail x xs t is = (suc is.0, omega (arith, is.1), is.2)

-- if some band passes the test, there is one
pub some_passes : (p : Band → Bool) (xs : List Band) → list_any p xs ≡ true → Passing p xs
some_passes p [] h = absurd (let clash : false ≡ true = h in cc)
some_passes p (x ∷ xs) h = cases (p x) refl h (λ more. some_passes p xs more)
  where
    cases : (b : Bool) → p x ≡ b → (b || list_any p xs) ≡ true → (list_any p xs ≡ true → Passing p xs) → Passing p (x ∷ xs)
    cases true e h next = (x, contains_head x xs, e)
    cases false e h next = let rest = next h in (rest.0, contains_tail x xs rest.0 rest.1, rest.2)

-- if there is one that passes, some band passes
pub passes_some : (p : Band → Bool) (xs : List Band) (x : Band) → Contains xs x → p x ≡ true → list_any p xs ≡ true
passes_some p [] x is pass = absurd (omega (arith, is.1))
passes_some p (y ∷ ys) x (zero, inside, same) pass = or_left (p y) (list_any p ys) (ap p same ∙ pass)
passes_some p (y ∷ ys) x (suc k, inside, same) pass = or_right (p y) (list_any p ys) (passes_some p ys x (k, omega (arith, inside), same) pass)

-- what passes one test passes another
pub any_weaker : (p q : Band → Bool) (xs : List Band) → ((x : Band) → p x ≡ true → q x ≡ true) → list_any p xs ≡ true → list_any q xs ≡ true
any_weaker p q xs weaker h =
    let it = some_passes p xs h in
    passes_some q xs it.0 it.1 (weaker it.0 it.2)

-- all pass another test, if each that passes one passes the other
pub all_weaker : (p q : Band → Bool) (xs : List Band) → ((x : Band) → p x ≡ true → q x ≡ true) → list_all p xs ≡ true → list_all q xs ≡ true
all_weaker p q [] weaker h = refl
all_weaker p q (x ∷ xs) weaker h =
    let both = and_parts (p x) (list_all p xs) h in
    and_from (q x) (list_all q xs) (weaker x both.0) (all_weaker p q xs weaker both.1)

-- one of those that pass
pub all_at : (p : Band → Bool) (xs : List Band) (x : Band) → Contains xs x → list_all p xs ≡ true → p x ≡ true
all_at p [] x is h = absurd (omega (arith, is.1))
all_at p (y ∷ ys) x (zero, inside, same) h = ap p (sym same) ∙ (and_parts (p y) (list_all p ys) h).0
all_at p (y ∷ ys) x (suc k, inside, same) h = all_at p ys x (k, omega (arith, inside), same) (and_parts (p y) (list_all p ys) h).1

-- all pass that pass each by itself
pub all_from : (p : Band → Bool) (xs : List Band) → ((x : Band) → Contains xs x → p x ≡ true) → list_all p xs ≡ true
all_from p [] each = refl
all_from p (x ∷ xs) each =
    and_from (p x) (list_all p xs) (each x (contains_head x xs)) (all_from p xs (λ t is. each t (contains_tail x xs t is)))

-- what passes a test is kept by it
filter_keeps : (p : Band → Bool) (xs : List Band) (t : Band) → Contains xs t → p t ≡ true → Contains (filter p xs) t
filter_keeps p [] t is pass = absurd (omega (arith, is.1))
filter_keeps p (x ∷ xs) t is pass = cases (p x) refl is (λ rest. filter_keeps p xs t rest pass)
  where
    cases : (b : Bool) → p x ≡ b → Contains (x ∷ xs) t → (Contains xs t → Contains (filter p xs) t) →
        Contains (cond b (x ∷ filter p xs) (filter p xs)) t
    cases true e (zero, h, same) keeps = subst (Contains (x ∷ filter p xs)) same (contains_head x (filter p xs))
    cases true e (suc k, h, same) keeps = contains_tail x (filter p xs) t (keeps (k, omega (arith, h), same))
    cases false e (zero, h, same) keeps = absurd (let clash : false ≡ true = sym e ∙ ap p same ∙ pass in cc)
    cases false e (suc k, h, same) keeps = keeps (k, omega (arith, h), same)

-- ---- what a child may take by what it was told

-- a narrower span may be taken too
pub narrower : (told : List Band) (promised : ℕ) (low high low' high' : ℤ) → low ≤ℤ low' → high' ≤ℤ high →
    may_span told promised low high ≡ true →
    may_span told promised low' high' ≡ true
narrower told promised low high low' high' above below h =
    let both = and_parts (list_any (lets_low promised low) told) (list_any (lets_high promised high) told) h in
    and_from (list_any (lets_low promised low') told) (list_any (lets_high promised high') told)
    (any_weaker (lets_low promised low) (lets_low promised low') told (λ x is. more_low x is) both.0)
    (any_weaker (lets_high promised high) (lets_high promised high') told (λ x is. more_high x is) both.1)
  where
    more_low : (x : Band) → lets_low promised low x ≡ true → lets_low promised low' x ≡ true
    more_low x is =
        let parts = and_parts (nat_le promised x.index) (not (int_lt low x.low)) is in
        let from = not_less low x.low parts.1 in
        and_from (nat_le promised x.index) (not (int_lt low' x.low)) parts.0 (is_no_less low' x.low (at_most-trans x.low low low' from above))

    more_high : (x : Band) → lets_high promised high x ≡ true → lets_high promised high' x ≡ true
    more_high x is =
        let parts = and_parts (nat_le promised x.index) (not (int_lt x.high high)) is in
        let upto = not_less x.high high parts.1 in
        and_from (nat_le promised x.index) (not (int_lt x.high high')) parts.0 (is_no_less x.high high' (at_most-trans high' high x.high below upto))

-- who was told more may take what it might
pub span_told : (told : List Band) (band : Band) (promised : ℕ) (low high : ℤ) → may_span told promised low high ≡ true →
    may_span (told ++ band ∷ []) promised low high ≡ true
span_told told band promised low high h =
    let both = and_parts (list_any (lets_low promised low) told) (list_any (lets_high promised high) told) h in
    and_from (list_any (lets_low promised low) (told ++ band ∷ [])) (list_any (lets_high promised high) (told ++ band ∷ []))
    (list_any-append (lets_low promised low) told (band ∷ []) ∙ or_left _ _ both.0)
    (list_any-append (lets_high promised high) told (band ∷ []) ∙ or_left _ _ both.1)

-- who was told a band that counts may take what is between its ends
pub span_of : (told : List Band) (promised : ℕ) (band : Band) (low high : ℤ) → Contains told band → promised ≤ band.index → band.low
    ≤ℤ low → high ≤ℤ band.high →
    may_span told promised low high ≡ true
span_of told promised band low high is counts above below =
    and_from (list_any (lets_low promised low) told) (list_any (lets_high promised high) told)
    (passes_some (lets_low promised low) told band is (and_from _ _ (passes promised band.index counts) (is_no_less low band.low above)))
    (passes_some (lets_high promised high) told band is (and_from _ _ (passes promised band.index counts) (is_no_less band.high high below)))

-- ---- what a guard holds of a child

-- what is held allows a band that was told and counts
by_held : (held : List Band) (promised : ℕ) (band : Band) → is_held held promised band ≡ true → nat_le promised band.index ≡ true →
    Passing (is_around band) held
by_held held promised band is counts = some_passes (is_around band) held (cases (nat_le promised band.index) counts is)
  where
    cases : (b : Bool) → b ≡ true → (not b || list_any (is_around band) held) ≡ true → list_any (is_around band) held ≡ true
    cases true e h = h
    cases false e h = absurd (let clash : false ≡ true = e in cc)

-- what a node may take is between the least and the greatest that is held of it
pub span_below : (held told : List Band) (promised : ℕ) (low high : ℤ) → FitsHeld held told promised low high → high ≤ℤ greatest_power held
span_below held told promised low high fits =
    let both = and_parts (list_any (lets_low promised low) told) (list_any (lets_high promised high) told) fits.takes in
    let it = some_passes (lets_high promised high) told both.1 in
    let parts = and_parts (nat_le promised it.0.index) (not (int_lt it.0.high high)) it.2 in
    let by = by_held held promised it.0 (all_at (is_held held promised) told it.0 it.1 fits.allows) parts.0 in
    let around = and_parts (nat_le it.0.index by.0.index && not (int_lt it.0.low by.0.low)) (not (int_lt by.0.high it.0.high)) by.2 in
    at_most-trans _ _ _ (not_less it.0.high high parts.1) (at_most-trans _ _ _ (not_less by.0.high it.0.high around.1) (held_at_most held by.0 by.1))

-- .. and not below the least
pub span_above : (held told : List Band) (promised : ℕ) (low high : ℤ) → FitsHeld held told promised low high → least_power held ≤ℤ low
span_above held told promised low high fits =
    let both = and_parts (list_any (lets_low promised low) told) (list_any (lets_high promised high) told) fits.takes in
    let it = some_passes (lets_low promised low) told both.0 in
    let parts = and_parts (nat_le promised it.0.index) (not (int_lt low it.0.low)) it.2 in
    let by = by_held held promised it.0 (all_at (is_held held promised) told it.0 it.1 fits.allows) parts.0 in
    let around = and_parts (nat_le it.0.index by.0.index && not (int_lt it.0.low by.0.low)) (not (int_lt by.0.high it.0.high)) by.2 in
    let first = and_parts (nat_le it.0.index by.0.index) (not (int_lt it.0.low by.0.low)) around.0 in
    at_most-trans _ _ _ (held_at_least held by.0 by.1) (at_most-trans _ _ _ (not_less it.0.low by.0.low first.1) (not_less low it.0.low parts.1))

around_itself : (band : Band) → is_around band band ≡ true
around_itself band =
    and_from _ _ (and_from _ _ (passes band.index band.index (omega arith)) (is_no_less band.low band.low (omega (arith, ints))))
    (is_no_less band.high band.high (omega (arith, ints)))

-- a guard that holds what a node was told allows it
held_itself : (held : List Band) (promised : ℕ) (band : Band) → Contains held band → is_held held promised band ≡ true
held_itself held promised band is = or_right (not (nat_le promised band.index)) _ (passes_some (is_around band) held band is (around_itself band))

-- ---- one node

-- a node at the beginning is known
pub fits_new : (held told : List Band) (promised : ℕ) (low high : ℤ) → IsNew held told promised low high → FitsHeld held told promised low high
fits_new held told promised low high new = record {
  allows = all_from (is_held held promised) told (λ t is. held_itself held promised t (subst (λ (l : List Band). Contains l t) new.is_told is));
  takes = new.takes;
}

-- a node that is told one more band is still known
pub fits_told : (held told : List Band) (band : Band) (promised : ℕ) (low high : ℤ) → FitsHeld held told promised low high →
    FitsHeld (held ++ band ∷ []) (told ++ band ∷ []) promised low high
fits_told held told band promised low high fits = record {
  allows = list_all-append (is_held (held ++ band ∷ []) promised) told (band ∷ [])
      ∙ and_from _ _ (all_weaker (is_held held promised) (is_held (held ++ band ∷ []) promised) told (λ x is. more x is) fits.allows)
      (and_from _ _ newest refl);
  takes = span_told told band promised low high fits.takes;
}
  where
    more : (x : Band) → is_held held promised x ≡ true → is_held (held ++ band ∷ []) promised x ≡ true
    more x is = cases (not (nat_le promised x.index)) refl is
      where
        cases : (b : Bool) → not (nat_le promised x.index) ≡ b → (b || list_any (is_around x) held) ≡ true → is_held
            (held ++ band ∷ []) promised x ≡ true
        cases true e h = or_left _ _ e
        cases false e h = or_right (not (nat_le promised x.index)) _ (list_any-append (is_around x) held (band ∷ []) ∙ or_left _ _ h)

    newest : is_held (held ++ band ∷ []) promised band ≡ true
    newest =
        or_right (not (nat_le promised band.index)) _ (list_any-append (is_around band) held (band ∷ [])
        ∙ or_right (list_any (is_around band) held) _ (or_left (is_around band band) false (around_itself band)))

-- a node that takes something else that it may take is still known
pub fits_takes : (held told : List Band) (promised : ℕ) (low high low' high' : ℤ) → FitsHeld held told promised low high →
    may_span told promised low' high' ≡ true → FitsHeld held told promised low' high'
fits_takes held told promised low high low' high' fits takes = record { allows = fits.allows; takes = takes }

-- a node that promises more is still known
pub fits_promises : (held told : List Band) (promised index : ℕ) (low high : ℤ) → FitsHeld held told promised low high →
    (nat_le promised index && may_span told index low high) ≡ true → FitsHeld held told index low high
fits_promises held told promised index low high fits may =
    let both = and_parts (nat_le promised index) (may_span told index low high) may in
    record {
      allows = all_weaker (is_held held promised) (is_held held index) told (λ x is. fewer x (le_from _ _ both.0) is) fits.allows;
      takes = both.1;
    }
  where
    fewer : (x : Band) → promised ≤ index → is_held held promised x ≡ true → is_held held index x ≡ true
    fewer x later is = cases (nat_le index x.index) refl
      where
        cases : (b : Bool) → nat_le index x.index ≡ b → (not b || list_any (is_around x) held) ≡ true
        cases false e = refl
        cases true e =
            let it = by_held held promised x is (passes promised x.index (omega (arith, later, le_from index x.index e))) in
            passes_some (is_around x) held it.0 it.1 it.2

-- a guard that hears a promise which was made still knows the node
pub fits_heard : (held told : List Band) (promised index : ℕ) (low high : ℤ) → index ≤ promised → FitsHeld held told promised low high →
    FitsHeld (kept_after held index) told promised low high
fits_heard held told promised index low high said fits = cases (list_any (is_from index) held)
  where
    kept : (x : Band) → is_held held promised x ≡ true → is_held (filter (is_from index) held) promised x ≡ true
    kept x is = cases (nat_le promised x.index) refl
      where
        cases : (b : Bool) → nat_le promised x.index ≡ b → (not b || list_any (is_around x) (filter (is_from index) held)) ≡ true
        cases false e = refl
        cases true e =
            let it = by_held held promised x is e in
            let first = and_parts (nat_le x.index it.0.index && not (int_lt x.low it.0.low)) (not (int_lt it.0.high x.high)) it.2 in
            let later = le_from x.index it.0.index (and_parts (nat_le x.index it.0.index) (not (int_lt x.low it.0.low)) first.0).0 in
            let counts = le_from promised x.index e in
            passes_some (is_around x) (filter (is_from index) held) it.0
            (filter_keeps (is_from index) held it.0 it.1 (passes index it.0.index (omega (arith, said, counts, later)))) it.2

    cases : (b : Bool) → FitsHeld (cond b (filter (is_from index) held) held) told promised low high
    cases true = record {
      allows = all_weaker (is_held held promised) (is_held (filter (is_from index) held) promised) told (λ x is. kept x is) fits.allows;
      takes = fits.takes;
    }
    cases false = fits
