-- Lists of demands that fall from a number: what one pass over the demands of a bid tells.
use Rattle.std.proofs.Common.{◌≡◌, ◌∙◌, sym, ap, refl, ℕ, zero, suc, ◌+◌, ◌<◌, ◌≤◌, ℤ, pos, neg_ℤ, ◌≤ℤ◌, Bool, true}
use Rattle.std.proofs.Common.{false, List, [], ◌∷◌, ◌++◌, length, Ok, arith, add-one}
use Rattle.std.specs.Prelude.{int_le, int_lt, ◌&&◌}
use Rattle.std.specs.Bool.{Decides}
use Rattle.std.proofs.Math.Bool.{and-true, and_assoc}
use Rattle.std.proofs.lemmas.Int.{ints}
use Rattle.std.proofs.lemmas.Bool.{and_parts, and_from}
use Rattle.std.proofs.lemmas.Bool.Decides.{nat_tests}
use Rattle.std.proofs.lemmas.List.Sums.{position_or_len_is}
use Rattle.pm_base.specs.Limits.{demand_limit, IsWithin}
use Rattle.pm_base.proofs.Ints.{not_below}
use Rattle.pm_bid.specs.Bids.{demand_at, NeverRises, AllWithinLimit}
use Rattle.pm_bid.specs.Checks.{checked_bid, first_rising, first_too_large, is_too_large}
use Rattle.pm_bid.proofs.FoundStep.{first_rising_none}
use Rattle.pm_wire.proofs.Markets.{accepted_small, accepted_falls}

-- whether the first demand is at most this number, and each other one at most the one before
abbrev pub falls_from : ℤ → List ℤ → Bool
falls_from top [] = true
falls_from top (d ∷ demand) = int_le d top && falls_from d demand

-- the last demand, or this number if there is none
abbrev pub last_from : ℤ → List ℤ → ℤ
last_from top [] = top
last_from top (d ∷ demand) = last_from d demand

-- the last demand of a list with one more at the end is this one
pub last_from-more : (top : ℤ) (demand : List ℤ) (d : ℤ) → last_from top (demand ++ d ∷ []) ≡ d
last_from-more top [] d = refl
last_from-more top (c ∷ demand) d = last_from-more c demand d

-- a list with one more demand at the end falls if it fell, and this one is at most the last
pub falls_from-more : (top : ℤ) (demand : List ℤ) (d : ℤ) →
    falls_from top (demand ++ d ∷ []) ≡ (falls_from top demand && int_le d (last_from top demand))
falls_from-more top [] d = and-true (int_le d top)
falls_from-more top (c ∷ demand) d =
    ap (λ b. int_le c top && b) (falls_from-more c demand d)
    ∙ sym (and_assoc (int_le c top) (falls_from c demand) (int_le d (last_from c demand)))

at_most : (a b : ℤ) → int_le a b ≡ true → a ≤ℤ b
at_most a b h = grind (arith, ints)

passes : (a b : ℤ) → a ≤ℤ b → int_le a b ≡ true
passes a b h = grind (arith, ints)

-- each demand of a list that falls is at most the one before
falls_at : (top : ℤ) (demand : List ℤ) (step : ℕ) → falls_from top demand ≡ true → step < length demand →
    demand_at demand step ≤ℤ demand_at (top ∷ demand) step
falls_at top [] step h inside = absurd (omega (arith, inside))
falls_at top (d ∷ demand) zero h inside = at_most d top (and_parts (int_le d top) (falls_from d demand) h).0
falls_at top (d ∷ demand) (suc step) h inside =
    falls_at d demand step (and_parts (int_le d top) (falls_from d demand) h).1 (omega (arith, inside))

last_at_most : (top : ℤ) (demand : List ℤ) → falls_from top demand ≡ true → last_from top demand ≤ℤ top
last_at_most top [] h = omega (arith, ints)
last_at_most top (d ∷ demand) h =
    let parts = and_parts (int_le d top) (falls_from d demand) h in
    omega (arith, ints, at_most d top parts.0, last_at_most d demand parts.1)

-- the last demand of a list that falls is the least, and none is above the number that it falls from
between : (top : ℤ) (demand : List ℤ) (step : ℕ) → falls_from top demand ≡ true → step < length demand →
    (last_from top demand ≤ℤ demand_at demand step) × (demand_at demand step ≤ℤ top)
between top [] step h inside = absurd (omega (arith, inside))
between top (d ∷ demand) zero h inside =
    let parts = and_parts (int_le d top) (falls_from d demand) h in
    (last_at_most d demand parts.1, at_most d top parts.0)
between top (d ∷ demand) (suc step) h inside =
    let parts = and_parts (int_le d top) (falls_from d demand) h in
    let later = between d demand step parts.1 (omega (arith, inside)) in
    (later.0, omega (arith, ints, later.1, at_most d top parts.0))

-- no demand of a list that falls is below the next
no_rise : (top : ℤ) (demand : List ℤ) → falls_from top demand ≡ true → (k : ℕ) → k + 1 < length demand →
    int_lt (demand_at demand k) (demand_at demand (k + 1)) ≡ false
no_rise top [] h k inside = absurd (omega (arith, inside))
no_rise top (d ∷ demand) h k inside =
    rw add-one (not_below (demand_at (d ∷ demand) k) (demand_at demand k)
    (falls_at d demand k (and_parts (int_le d top) (falls_from d demand) h).1 (omega (arith, inside))))

-- a list falls where each demand is at most the one before
falls_where : (top : ℤ) (demand : List ℤ) →
    ((step : ℕ) → step < length demand → demand_at demand step ≤ℤ demand_at (top ∷ demand) step) → falls_from top demand ≡ true
falls_where top [] each = refl
falls_where top (d ∷ demand) each =
    and_from (int_le d top) (falls_from d demand) (passes d top (each zero (omega arith)))
    (falls_where d demand (λ step inside. each (suc step) (omega (arith, inside))))

-- the last of the demands is not below a number that none of them is below
last_where : (low top : ℤ) (demand : List ℤ) → low ≤ℤ top → ((step : ℕ) → step < length demand → low ≤ℤ demand_at demand step) →
    low ≤ℤ last_from top demand
last_where low top [] first each = first
last_where low top (d ∷ demand) first each =
    last_where low d demand (each zero (omega arith)) (λ step inside. each (suc step) (omega (arith, inside)))

never_above : (demand : List ℤ) → NeverRises demand → AllWithinLimit demand_limit demand → (step : ℕ) → step < length demand →
    demand_at demand step ≤ℤ demand_at (pos demand_limit ∷ demand) step
never_above demand falls small zero inside = (small zero inside).high
never_above demand falls small (suc step) inside =
    let next : step + 1 ≡ suc step = omega arith in
    rw next at (falls step (omega (arith, inside)))

-- ---- bids

-- whether a list falls from the limit of a demand, and its last demand is within the limit
abbrev pub falls_within : List ℤ → Bool
falls_within demand = falls_from (pos demand_limit) demand && int_le (neg_ℤ (pos demand_limit)) (last_from (pos demand_limit) demand)

not_large : (demand : ℤ) → IsWithin demand_limit demand → is_too_large demand ≡ false
not_large demand within = grind (arith, ints)

checked_where : (bid : List ℤ) → length bid ≤ first_rising bid → length bid ≤ first_too_large bid → checked_bid (length bid) bid ≡ Ok bid
checked_where bid never small = grind (arith, nat_tests)

accepted_where : (demand : List ℤ) → 1 ≤ length demand → falls_within demand ≡ true → checked_bid (length demand) demand ≡ Ok demand
accepted_where demand some h =
    let limit = pos demand_limit in
    let parts = and_parts (falls_from limit demand) (int_le (neg_ℤ limit) (last_from limit demand)) h in
    let never : length demand ≡ first_rising demand = first_rising_none demand some (no_rise limit demand parts.0) in
    let least : neg_ℤ limit ≤ℤ last_from limit demand = at_most _ _ parts.1 in
    let small : (k : ℕ) → k < length demand → is_too_large (demand_at demand k) ≡ false = λ k inside.
    let within = between limit demand k parts.0 inside in
    not_large (demand_at demand k) (record { low = omega (arith, ints, least, within.0); high = within.1 }) in
    let none : first_too_large demand ≡ length demand =
    position_or_len_is is_too_large demand (length demand) (pos 0) (omega arith) small (λ h. absurd (omega arith)) in
    checked_where demand (omega arith) (omega arith)

accepted_falls_within : (demand : List ℤ) → checked_bid (length demand) demand ≡ Ok demand → falls_within demand ≡ true
accepted_falls_within demand h =
    let limit = pos demand_limit in
    let small = accepted_small (length demand) demand h in
    and_from (falls_from limit demand) (int_le (neg_ℤ limit) (last_from limit demand))
    (falls_where limit demand (never_above demand (accepted_falls (length demand) demand h) small))
    (passes _ _ (last_where (neg_ℤ limit) limit demand (omega (arith, ints)) (λ step inside. (small step inside).low)))

-- a list of one demand or more is a bid exactly where it falls from the limit and ends within it
pub falls_within-tells : (demand : List ℤ) → 1 ≤ length demand →
    Decides (falls_within demand) (checked_bid (length demand) demand ≡ Ok demand)
falls_within-tells demand some = (accepted_where demand some, accepted_falls_within demand)
