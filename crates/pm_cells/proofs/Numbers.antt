-- Lists of numbers that rise, and lists whose elements are all in another.
use Rattle.std.proofs.Common.{◌≡◌, ℕ, zero, suc, ◌-◌, ◌<◌, ◌≤◌, List, [], ◌∷◌, ◌++◌, length, refl, sym, ap, ◌∙◌, subst}
use Rattle.std.proofs.Common.{⊎_elim, arith}
use Rattle.std.specs.Prelude.{Contains, slice_index_or}
use Rattle.std.proofs.lemmas.List.Elements.{Contains-append_left, Contains-append_cases, Contains-push_cases}
use Rattle.pm_cells.specs.Numbers.{RiseAbove, last_above, AreRising, newest_number, AllAmong}

-- the number that joins a list at its end is the last
pub last_above-push : (low : ℕ) (ns : List ℕ) (n : ℕ) → last_above low (ns ++ n ∷ []) ≡ n
last_above-push low [] n = refl
last_above-push low (x ∷ ns) n = last_above-push x ns n

-- a number above the last may join a list that rises
pub RiseAbove-push : (low : ℕ) (ns : List ℕ) (n : ℕ) → RiseAbove low ns → last_above low ns < n → RiseAbove low (ns ++ n ∷ [])
RiseAbove-push low [] n rises above = (above, tt)
RiseAbove-push low (x ∷ ns) n rises above = (rises.0, RiseAbove-push x ns n rises.1 above)

low_at_most_last : (low : ℕ) (ns : List ℕ) → RiseAbove low ns → low ≤ last_above low ns
low_at_most_last low [] rises = omega arith
low_at_most_last low (x ∷ ns) rises = let first = rises.0 in let later = low_at_most_last x ns rises.1 in omega arith

at_most_last : (low : ℕ) (ns : List ℕ) (n : ℕ) → RiseAbove low ns → Contains ns n → n ≤ last_above low ns
at_most_last low [] n rises c = let l = c.1 in absurd (omega arith)
at_most_last low (x ∷ ns) n rises (zero, l, e) = subst (λ m. m ≤ last_above x ns) e (low_at_most_last x ns rises.1)
at_most_last low (x ∷ ns) n rises (suc k, l, e) = at_most_last x ns n rises.1 (k, omega arith, e)

contains_last : (x : ℕ) (ns : List ℕ) → Contains (x ∷ ns) (last_above x ns)
contains_last x [] = (0, omega arith, refl)
contains_last x (y ∷ ns) = let c = contains_last y ns in let l = c.1 in (suc c.0, omega arith, c.2)

-- the newest number is in the list, where there is one
pub contains_newest : (ns : List ℕ) → 0 < newest_number ns → Contains ns (newest_number ns)
contains_newest [] h = absurd (omega arith)
contains_newest (x ∷ ns) h = contains_last x ns

-- the newest of some numbers of a list that rises is at most the newest of all
pub newest_at_most : (ns ms : List ℕ) → AreRising ms → AllAmong ns ms → newest_number ns ≤ newest_number ms
newest_at_most [] ms rises among = omega arith
newest_at_most (x ∷ ns) ms rises among = at_most_last 0 ms (last_above x ns) rises (among (last_above x ns) (contains_last x ns))

module _ {A : Type 0} where
  -- nothing is among any list
  pub AllAmong-none : (ys : List A) → AllAmong [] ys
  AllAmong-none ys x h = let l = h.1 in absurd (omega arith)

  -- what is in a list is among it
  pub AllAmong-one : (y : A) (ys : List A) → Contains ys y → AllAmong (y ∷ []) ys
  AllAmong-one y ys c x h = ⊎_elim (λ (t : Contains [] x). AllAmong-none ys x t) (λ (t : y ≡ x). subst (Contains ys) t c)
      (Contains-push_cases [] y x h)

  -- where two lists are among a third, both together are
  pub AllAmong-append : (xs ys zs : List A) → AllAmong xs zs → AllAmong ys zs → AllAmong (xs ++ ys) zs
  AllAmong-append xs ys zs a b x h = ⊎_elim (a x) (b x) (Contains-append_cases xs ys x h)

  -- what is all among a list is also among the list with one more at its end
  pub AllAmong-more : (xs ys : List A) (y : A) → AllAmong xs ys → AllAmong xs (ys ++ y ∷ [])
  AllAmong-more xs ys y among x h = Contains-append_left ys (y ∷ []) x (among x h)

  -- lists that are the same as two others, the first of which is among the second
  pub AllAmong-same : (xs xs' ys ys' : List A) → xs ≡ xs' → ys ≡ ys' → AllAmong xs' ys' → AllAmong xs ys
  AllAmong-same xs xs' ys ys' a b among = subst (λ (l : List A × List A). AllAmong l.0 l.1) (λ i. (sym a i, sym b i)) among

-- a number above the newest is above all
pub above_all : (ns : List ℕ) (n : ℕ) → AreRising ns → newest_number ns < n → (m : ℕ) → Contains ns m → m < n
above_all ns n rises above m c = let a = at_most_last 0 ns m rises c in omega arith

last_read : (x : ℕ) (ns : List ℕ) → slice_index_or (x ∷ ns) (length ns) 0 ≡ last_above x ns
last_read x [] = refl
last_read x (y ∷ ns) = last_read y ns

-- the newest number stands at the last place
pub newest_read : (ns : List ℕ) → (length ns ≡ 0 → ⊥) → slice_index_or ns (length ns - 1) 0 ≡ newest_number ns
newest_read [] h = absurd (h refl)
newest_read (x ∷ ns) h =
    let last : length (x ∷ ns) - 1 ≡ length ns = omega arith in
    ap (λ k. slice_index_or (x ∷ ns) k 0) last ∙ last_read x ns
