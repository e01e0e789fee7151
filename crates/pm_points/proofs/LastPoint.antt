-- The last point whose price is at most a price.
use Rattle.std.proofs.Common.{◌≡◌, ap, ℕ, zero, suc, ◌+◌, ◌<◌, ◌≤◌, ℤ, Bool, true, false, List, [], ◌∷◌, length, Option, Some}
use Rattle.std.proofs.Common.{None, refl, inl, inr, arith}
use Rattle.std.proofs.Common.{add-one}
use Rattle.std.specs.Prelude.{int_lt, ◌<ℤ◌, if◌then◌else◌, option_map}
use Rattle.std.specs.Option.{option_or}
use Rattle.std.proofs.lemmas.Int.{ints}
use Rattle.std.proofs.lemmas.Bool.{cases_lt}
use Rattle.pm_points.specs.Points.{Point, point_at, last_at_most, IsLastAtMost, price_of_point}
use Rattle.pm_base.proofs.Ints.{is_below, is_not_below}

-- the points from this place on have greater prices
abbrev pub Above : List Point → ℤ → ℕ → Type 0
Above points price from = (k : ℕ) → from ≤ k → k < length points → price <ℤ price_of_point (point_at points k)

-- this place is that of the last point whose price is at most this price, or there is none
abbrev pub IsLast : List Point → ℤ → Option ℕ → Type 0
IsLast points price None = Above points price 0
IsLast points price (Some place) = IsLastAtMost points price place

above_behind : (point : Point) (later : List Point) (price : ℤ) (from : ℕ) → Above later price from → Above (point ∷ later) price (from + 1)
above_behind point later price from above zero after inside = absurd (omega arith)
above_behind point later price from above (suc k) after inside = above k (omega arith) (omega arith)

above_all : (point : Point) (later : List Point) (price : ℤ) → price <ℤ price_of_point point → Above later price 0 → Above (point ∷ later) price 0
above_all point later price here above zero after inside = here
above_all point later price here above (suc k) after inside = above k (omega arith) (omega arith)

-- the place with one point more in front
last_more : (point : Point) (later : List Point) (price : ℤ) (found : Option ℕ) → IsLast later price found → (before : Bool) →
    int_lt price (price_of_point point) ≡ before →
    IsLast (point ∷ later) price (option_or (option_map (λ place. place + 1) found) (if before then None else Some 0))
last_more point later price (Some place) last before is = record {
  inside = let within = last.inside in omega arith;
  at_most = rw add-one last.at_most;
  later_above =
      λ k after inside. above_behind point later price (place + 1) (λ i from within. last.later_above i (omega arith) within) k (omega arith) inside;
}
last_more point later price None above true is = above_all point later price (is_below price (price_of_point point) is) above
last_more point later price None above false is = record {
  inside = omega arith;
  at_most = is_not_below price (price_of_point point) is;
  later_above = λ k after inside. above_behind point later price 0 above k (omega arith) inside;
}

-- the definition gives that place
pub last_is : (points : List Point) (price : ℤ) → IsLast points price (last_at_most points price)
last_is [] price = λ k after inside. absurd (omega arith)
last_is (point ∷ later) price = last_more point later price (last_at_most later price) (last_is later price) (int_lt price (price_of_point point)) refl

-- there is one such place only
one_last : (points : List Point) (price : ℤ) (first second : Option ℕ) → IsLast points price first → IsLast points price second → first ≡ second
one_last points price None None above last = refl
one_last points price None (Some place) above last =
    absurd (let within = above place (omega arith) last.inside in let at_most = last.at_most in omega (arith, ints))
one_last points price (Some place) None last above =
    absurd (let within = above place (omega arith) last.inside in let at_most = last.at_most in omega (arith, ints))
one_last points price (Some place) (Some other) last after =
    elim (cases_lt place other) [
      | inl further ↦ absurd (let within = last.later_above other further after.inside in let at_most = after.at_most in omega (arith, ints))
      | inr least ↦ elim (cases_lt other place) [
        | inl further ↦ absurd (let within = after.later_above place further last.inside in let at_most = last.at_most in omega (arith, ints))
        | inr most ↦ let same : place ≡ other = omega arith in ap (λ (n : ℕ). Some n) same
      ]
    ]

-- what a search from the last point on finds
pub is_last_at_most : (points : List Point) (price : ℤ) (found : Option ℕ) → IsLast points price found → found ≡ last_at_most points price
is_last_at_most points price found last = one_last points price found (last_at_most points price) last (last_is points price)
