-- The greatest and the least of what is held, sums over lists, and what room for one more power means.
use Rattle.std.proofs.Common.{◌≡◌, ◌∙◌, sym, ap, subst, refl, ℕ, zero, suc, ◌+◌, ◌*◌, ◌<◌, ◌≤◌, ℤ, pos, neg_ℤ}
use Rattle.std.proofs.Common.{◌+ℤ◌, ◌-ℤ◌, ◌≤ℤ◌, ◌<ℤ◌, List, [], ◌∷◌, ◌++◌, length}
use Rattle.std.proofs.Common.{Bool, true, false, not, ◌⊎◌, inl, inr, arith, get_or, slice_get, Some, None, eqb, ◌≢◌, cond}
use Rattle.std.proofs.Math.ListN.{set}
use Rattle.std.specs.Prelude.{int_lt, ◌&&◌, All, Contains}
use Rattle.std.specs.Int.{int_max, int_min}
use Rattle.std.specs.List.{fold, filter, list_any}
use Rattle.std.proofs.lemmas.Int.{ints, clamps}
use Rattle.std.proofs.lemmas.List.Elements.{All-nil, All-cons, All-head, All-tail, All-filter, All-contains, All-set, All-push}
use Rattle.std.proofs.lemmas.List.{length-set, length-append}
use Rattle.std.proofs.lemmas.List.Sums.{fold_push}
use Rattle.pm_base.specs.Limits.{IsWithin, demand_limit, most_nodes}
use Rattle.pm_base.specs.declared.limits.Limits.{Limits}
use Rattle.pm_base.proofs.Ints.{is_not_below}
use Rattle.pm_guard.specs.Bands.{AreBidBands, IsBidBand, goes_over, goes_under, greater_of, smaller_of, greatest_power, least_power, is_from, kept_after}
use Rattle.pm_guard.specs.Bands.{total_by, has_room}
use Rattle.pm_guard.specs.Guards.{GuardData, HasSums, worst, best, may_tell, may_tell_holder}
use Rattle.pm_guard.specs.declared.band.Band.{Band}
use Rattle.std.proofs.lemmas.Bool.{and_parts, and_from, and_cases}
use Rattle.std.proofs.lemmas.Bool.Decides.{eqb_tells}

-- ---- the greatest and the least

abbrev pub IsAtMost : ℤ → Band → Type 0
IsAtMost bound band = band.high ≤ℤ bound

abbrev pub IsAtLeast : ℤ → Band → Type 0
IsAtLeast bound band = bound ≤ℤ band.low

max_left : (a b : ℤ) → a ≤ℤ int_max a b
max_left a b = omega (arith, ints, clamps)

max_right : (a b : ℤ) → b ≤ℤ int_max a b
max_right a b = omega (arith, ints, clamps)

-- what is above both is above the greater
pub max_lowest : (a b c : ℤ) → a ≤ℤ c → b ≤ℤ c → int_max a b ≤ℤ c
max_lowest a b c h k = omega (arith, ints, clamps)

min_left : (a b : ℤ) → int_min a b ≤ℤ a
min_left a b = omega (arith, ints, clamps)

min_right : (a b : ℤ) → int_min a b ≤ℤ b
min_right a b = omega (arith, ints, clamps)

-- what is below both is below the lower
pub min_highest : (a b c : ℤ) → c ≤ℤ a → c ≤ℤ b → c ≤ℤ int_min a b
min_highest a b c h k = omega (arith, ints, clamps)

-- an order of three powers
pub at_most-trans : (a b c : ℤ) → a ≤ℤ b → b ≤ℤ c → a ≤ℤ c
at_most-trans a b c h k = omega (arith, ints)

start_below : (a : ℤ) (held : List Band) → a ≤ℤ fold greater_of a held
start_below a [] = omega (arith, ints)
start_below a (band ∷ held) = at_most-trans _ _ _ (max_left a band.high) (start_below (int_max a band.high) held)

start_above : (a : ℤ) (held : List Band) → fold smaller_of a held ≤ℤ a
start_above a [] = omega (arith, ints)
start_above a (band ∷ held) = at_most-trans _ _ _ (start_above (int_min a band.low) held) (min_left a band.low)

all_below : (a : ℤ) (held : List Band) → All (IsAtMost (fold greater_of a held)) held
all_below a [] = All-nil (IsAtMost (fold greater_of a []))
all_below a (band ∷ held) =
    let next = int_max a band.high in
    All-cons (IsAtMost (fold greater_of next held)) band held
    (at_most-trans _ _ _ (max_right a band.high) (start_below next held)) (all_below next held)

all_above : (a : ℤ) (held : List Band) → All (IsAtLeast (fold smaller_of a held)) held
all_above a [] = All-nil (IsAtLeast (fold smaller_of a []))
all_above a (band ∷ held) =
    let next = int_min a band.low in
    All-cons (IsAtLeast (fold smaller_of next held)) band held
    (at_most-trans _ _ _ (start_above next held) (min_right a band.low)) (all_above next held)

lowest : (a bound : ℤ) (held : List Band) → a ≤ℤ bound → All (IsAtMost bound) held → fold greater_of a held ≤ℤ bound
lowest a bound [] h all = h
lowest a bound (band ∷ held) h all =
    lowest (int_max a band.high) bound held (max_lowest a band.high bound h (All-head (IsAtMost bound) band held all)) (All-tail (IsAtMost bound) band held all)

highest : (a bound : ℤ) (held : List Band) → bound ≤ℤ a → All (IsAtLeast bound) held → bound ≤ℤ fold smaller_of a held
highest a bound [] h all = h
highest a bound (band ∷ held) h all =
    highest (int_min a band.low) bound held (min_highest a band.low bound h (All-head (IsAtLeast bound) band held all))
    (All-tail (IsAtLeast bound) band held all)

-- what is held is not above the greatest
pub held_at_most : (held : List Band) (band : Band) → Contains held band → band.high ≤ℤ greatest_power held
held_at_most held band is = All-contains (IsAtMost (greatest_power held)) held band (all_below (neg_ℤ (pos demand_limit)) held) is

-- what is held is not below the least
pub held_at_least : (held : List Band) (band : Band) → Contains held band → least_power held ≤ℤ band.low
held_at_least held band is = All-contains (IsAtLeast (least_power held)) held band (all_above (pos demand_limit) held) is

-- the greatest with one more band
pub greatest_power-push : (held : List Band) (band : Band) → greatest_power (held ++ band ∷ []) ≡ int_max (greatest_power held) band.high
greatest_power-push held band = fold_push greater_of (neg_ℤ (pos demand_limit)) held band

-- the least with one more band
pub least_power-push : (held : List Band) (band : Band) → least_power (held ++ band ∷ []) ≡ int_min (least_power held) band.low
least_power-push held band = fold_push smaller_of (pos demand_limit) held band

-- the greatest of what is kept is no more, and the least no less
filter_at_most : (held : List Band) (index : ℕ) → greatest_power (filter (is_from index) held) ≤ℤ greatest_power held
filter_at_most held index =
    lowest _ (greatest_power held) (filter (is_from index) held) (start_below (neg_ℤ (pos demand_limit)) held)
    (All-filter (is_from index) (IsAtMost (greatest_power held)) held (all_below (neg_ℤ (pos demand_limit)) held))

filter_at_least : (held : List Band) (index : ℕ) → least_power held ≤ℤ least_power (filter (is_from index) held)
filter_at_least held index =
    highest _ (least_power held) (filter (is_from index) held) (start_above (pos demand_limit) held)
    (All-filter (is_from index) (IsAtLeast (least_power held)) held (all_above (pos demand_limit) held))

-- a promise makes the greatest power no greater
pub kept_at_most : (held : List Band) (index : ℕ) → greatest_power (kept_after held index) ≤ℤ greatest_power held
kept_at_most held index = cases (list_any (is_from index) held)
  where
    cases : (has : Bool) → greatest_power (cond has (filter (is_from index) held) held) ≤ℤ greatest_power held
    cases true = filter_at_most held index
    cases false = omega (arith, ints)

-- a promise makes the least power no less
pub kept_at_least : (held : List Band) (index : ℕ) → least_power held ≤ℤ least_power (kept_after held index)
kept_at_least held index = cases (list_any (is_from index) held)
  where
    cases : (has : Bool) → least_power held ≤ℤ least_power (cond has (filter (is_from index) held) held)
    cases true = filter_at_least held index
    cases false = omega (arith, ints)

-- what is kept after a promise is of bands that a bid may have
pub kept_small : (held : List Band) (index : ℕ) → AreBidBands held → AreBidBands (kept_after held index)
kept_small held index small = cases (list_any (is_from index) held)
  where
    cases : (has : Bool) → AreBidBands (cond has (filter (is_from index) held) held)
    cases true = All-filter (is_from index) IsBidBand held small
    cases false = small

-- the greatest is a power that a bid may have
pub most_small : (held : List Band) → AreBidBands held → IsWithin demand_limit (greatest_power held)
most_small held small = record {
  low = start_below (neg_ℤ (pos demand_limit)) held;
  high = lowest _ (pos demand_limit) held (omega (arith, ints)) (λ k d h. (small k d h).high.high);
}

-- the least is a power that a bid may have
pub least_small : (held : List Band) → AreBidBands held → IsWithin demand_limit (least_power held)
least_small held small = record {
  low = highest _ (neg_ℤ (pos demand_limit)) held (omega (arith, ints)) (λ k d h. (small k d h).low.low);
  high = start_above (pos demand_limit) held;
}

-- ---- sums

-- a sum of which one part is another
pub total_by-set : {A : Type 0} (f : A → ℤ) (xs : List A) (i : ℕ) (x d : A) → i < length xs →
    total_by f (set xs i x) ≡ (total_by f xs -ℤ f (get_or xs i d)) +ℤ f x
total_by-set f [] i x d inside = absurd (omega arith)
total_by-set f (y ∷ ys) zero x d inside = omega (arith, ints)
total_by-set f (y ∷ ys) (suc i) x d inside =
    let rest = total_by-set f ys i x d (omega arith) in omega (arith, ints, rest)

-- a sum with one more at the end
pub total_by-push : {A : Type 0} (f : A → ℤ) (xs : List A) (x : A) → total_by f (xs ++ x ∷ []) ≡ total_by f xs +ℤ f x
total_by-push f [] x = omega (arith, ints)
total_by-push f (y ∷ ys) x = let rest = total_by-push f ys x in omega (arith, ints, rest)

-- the sum of as many numbers, each within a limit, is within so many times the limit
pub total_small : {A : Type 0} (f : A → ℤ) (xs : List A) (P : A → Type 0) → ((x : A) → P x → IsWithin demand_limit (f x)) → All P xs →
    IsWithin (length xs * demand_limit) (total_by f xs)
total_small f [] P small all = record { low = omega (arith, ints); high = omega (arith, ints) }
total_small f (x ∷ xs) P small all =
    let here = small x (All-head P x xs all) in
    let rest = total_small f xs P small (All-tail P x xs all) in
    omega (arith, ints, here, rest)

-- ---- room

-- where there is room below the ceiling for a power, what all may take at most is then at most the ceiling, or no more than before
pub ceiling_room : (w most power ceiling : ℤ) → goes_over ceiling w most power ≡ false →
    ((w -ℤ most) +ℤ int_max most power) ≤ℤ int_max ceiling w
ceiling_room w most power ceiling room = cases (and_cases (int_lt most power) (int_lt ceiling (w +ℤ (power -ℤ most))) room)
  where
    cases : (int_lt most power ≡ false) ⊎ (int_lt ceiling (w +ℤ (power -ℤ most)) ≡ false) →
        ((w -ℤ most) +ℤ int_max most power) ≤ℤ int_max ceiling w
    cases (inl below) = let k = is_not_below most power below in omega (arith, ints, clamps, k)
    cases (inr below) = let k = is_not_below ceiling (w +ℤ (power -ℤ most)) below in omega (arith, ints, clamps, k)

-- the same at the floor
pub floor_room : (b least power floor : ℤ) → goes_under floor b least power ≡ false →
    int_min floor b ≤ℤ ((b -ℤ least) +ℤ int_min least power)
floor_room b least power floor room = cases (and_cases (int_lt power least) (int_lt (b +ℤ (power -ℤ least)) floor) room)
  where
    cases : (int_lt power least ≡ false) ⊎ (int_lt (b +ℤ (power -ℤ least)) floor ≡ false) →
        int_min floor b ≤ℤ ((b -ℤ least) +ℤ int_min least power)
    cases (inl below) = let k = is_not_below power least below in omega (arith, ints, clamps, k)
    cases (inr below) = let k = is_not_below (b +ℤ (power -ℤ least)) floor below in omega (arith, ints, clamps, k)

not_true : (b : Bool) → not b ≡ true → b ≡ false
not_true true h = sym h
not_true false h = refl

-- there is room if it goes neither over nor under, and only then
pub has_room-parts : (limits : Limits) (w b most least low high : ℤ) → has_room limits w b most least low high ≡ true →
    (goes_over limits.ceiling w most high ≡ false) × (goes_under limits.floor b least low ≡ false)
has_room-parts limits w b most least low high room =
    let both = and_parts (not (goes_over limits.ceiling w most high)) (not (goes_under limits.floor b least low)) room in
    (not_true _ both.0, not_true _ both.1)

-- there is room where a band goes neither over nor under
pub has_room-from : (limits : Limits) (w b most least low high : ℤ) → goes_over limits.ceiling w most high ≡ false →
    goes_under limits.floor b least low ≡ false → has_room limits w b most least low high ≡ true
has_room-from limits w b most least low high over under =
    and_from (not (goes_over limits.ceiling w most high)) (not (goes_under limits.floor b least low)) (ap not over) (ap not under)

-- what the code computes of it
pub tests_both : (a b c x d y : ℤ) → a <ℤ b → d ≡ c → y ≡ x → int_lt d y ≡ (int_lt a b && int_lt c x)
tests_both a b c x d y less same other =
    let first : int_lt a b ≡ true = grind (arith, ints) in
    ap (λ z. int_lt z y) same ∙ ap (λ z. int_lt c z) other ∙ ap (λ t. t && int_lt c x) (sym first)

-- the answer where a power does not go over
pub neither : (over under over' under' : Bool) → over' ≡ over → under' ≡ under → over' ≡ false → not under' ≡ (not over && not under)
neither over under over' under' same other none = ap not other ∙ ap (λ t. not t && not under) (sym none ∙ same)

-- what the guard answers of a child that is there, and of one that is not
pub may_tell_is : (g : GuardData) (child : ℕ) (held : List Band) (w b m l p q : ℤ) (r : Bool) → slice_get g.held child ≡ Some held → w ≡ worst g →
    b ≡ best g → m ≡ greatest_power held → l ≡ least_power held → r ≡ has_room g.limits w b m l p q → r ≡ may_tell g child p q
may_tell_is g child held w b m l p q r there is_worst is_best is_most is_least answer =
    answer ∙ ap (λ z. has_room g.limits z b m l p q) is_worst ∙ ap (λ z. has_room g.limits (worst g) z m l p q) is_best
    ∙ ap (λ z. has_room g.limits (worst g) (best g) z l p q) is_most ∙ ap (λ z. has_room g.limits (worst g) (best g) (greatest_power held) z p q) is_least
    ∙ sym (ap (may_tell_holder g p q) there)

-- a child that is not there may not be told
pub may_not_tell : (g : GuardData) (child : ℕ) (p q : ℤ) → slice_get g.held child ≡ None → false ≡ may_tell g child p q
may_not_tell g child p q there = sym (ap (may_tell_holder g p q) there)

-- one more that is false
pub false_next : (f : ℕ → Bool) (n : ℕ) → ((k : ℕ) → k < n → f k ≡ false) → f n ≡ false → (k : ℕ) → k < n + 1 → f k ≡ false
false_next f n before here k within = cases (eqb_tells k n)
  where
    cases : ((eqb k n ≡ true) × (k ≡ n)) ⊎ ((eqb k n ≡ false) × (k ≢ n)) → f k ≡ false
    cases (inl same) = ap f same.1 ∙ here
    cases (inr apart) = before k (omega (arith, within, apart.1))

-- ---- what a guard keeps of all children

-- the sums after one child's bands are others
pub sums_set : (helds : List (List Band)) (w b : ℤ) (i : ℕ) (held new : List Band) (w' b' : ℤ) → HasSums helds w b → i < length helds →
    get_or helds i [] ≡ held → AreBidBands new → w' ≡ (w -ℤ greatest_power held) +ℤ greatest_power new →
    b' ≡ (b -ℤ least_power held) +ℤ least_power new → HasSums (set helds i new) w' b'
sums_set helds w b i held new w' b' sums inside at small is_worst is_best =
    let most = total_by-set greatest_power helds i new [] inside in
    let least = total_by-set least_power helds i new [] inside in
    let most_at = ap greatest_power at in
    let least_at = ap least_power at in
    record {
      few = subst (λ n. n ≤ most_nodes) (sym (length-set helds i new)) sums.few;
      bands = All-set AreBidBands helds i new small sums.bands;
      is_worst = omega (arith, ints, most, most_at, sums.is_worst, is_worst);
      is_best = omega (arith, ints, least, least_at, sums.is_best, is_best);
    }

-- the sums with one more child
pub sums_push : (helds : List (List Band)) (w b : ℤ) (new : List Band) (w' b' : ℤ) → HasSums helds w b → length helds < most_nodes →
    AreBidBands new →
    w' ≡ w +ℤ greatest_power new → b' ≡ b +ℤ least_power new → HasSums (helds ++ new ∷ []) w' b'
sums_push helds w b new w' b' sums room small is_worst is_best =
    let most = total_by-push greatest_power helds new in
    let least = total_by-push least_power helds new in
    let many = length-append helds (new ∷ []) in
    record {
      few = omega (arith, many, room);
      bands = All-push AreBidBands helds new sums.bands small;
      is_worst = omega (arith, ints, most, sums.is_worst, is_worst);
      is_best = omega (arith, ints, least, sums.is_best, is_best);
    }
