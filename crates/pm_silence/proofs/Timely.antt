-- What is said and answered in time, and what a hop adds.
use Rattle.std.proofs.Common.{◌≡◌, ◌∙◌, sym, ap, subst, ℕ, zero, suc, ◌+◌, ◌-◌, ◌*◌, ◌<◌, ◌≤◌, true, false}
use Rattle.std.proofs.Common.{Option, Some, None, arith, mul_right_comm, add-mul, mul-add, le_trans, inl, inr}
use Rattle.std.proofs.lemmas.Bool.{cases_lt, lt-ltb, lt-leb, and_right}
use Rattle.std.proofs.lemmas.Nat.{mul-le}
use Rattle.pm_silence.specs.declared.placing.ChildPlace.{ChildPlace}
use Rattle.pm_silence.specs.Clocks.{IsNotSlow, IsNotFast}
use Rattle.pm_silence.specs.Holding.{lasts}
use Rattle.pm_silence.specs.Placing.{is_overdue}
use Rattle.pm_silence.specs.Timely.{IsRhythm, HoldsBy, IsRoom}
use Rattle.pm_silence.proofs.Counting.{slow_part, fast_part}

-- the newest moment whose delay is over, and the time since
pub record IsNewest (S : ℕ → ℕ) (gap delay n t : ℕ) : Type 0 where
  -- its place
  pub i : ℕ
  -- it is one that was given
  pub within : i ≤ n
  -- validity is over since
  pub over : S i + delay ≤ t
  -- the next one is soon
  pub soon : t < S i + delay + gap

newest : (S : ℕ → ℕ) (gap delay n t : ℕ) → IsRhythm gap S n → S 0 + delay ≤ t → t < S n + delay + gap → IsNewest S gap delay n t
newest S gap delay zero t rhythm first last = record { i = 0; within = omega arith; over = first; soon = last }
newest S gap delay (suc n) t rhythm first last =
    elim (cases_lt t (S (suc n) + delay)) as (λ _. IsNewest S gap delay (suc n) t) [
      | inl early ↦
          let step : S (n + 1) ≤ S n + gap = rhythm n (omega arith) in
          let same : S (n + 1) ≡ S (suc n) = ap S (omega arith) in
          let before = newest S gap delay n t (λ i less. rhythm i (omega (arith, less))) first (omega (arith, early, step, same)) in
          record { i = before.i; within = let w = before.within in omega (arith, w); over = before.over; soon = before.soon }
      | inr over ↦ record { i = suc n; within = omega arith; over = over; soon = last }
    ]

-- a clock that is not fast shows less than validity more after so little time
little : (e : ℕ) (clock : ℕ → ℕ) → IsNotFast e clock → (validity used most s t : ℕ) → s ≤ t → t < s + most →
    IsRoom e validity used most →
    clock t + used < clock s + validity
little e clock fast validity used most s t from less room =
    let same : s + (t - s) ≡ t = omega arith in
    let is : clock (s + (t - s)) * 1000000 ≤ clock s * 1000000 + (t - s) * (1000000 + e) + 1000000 = fast.fast s (t - s) in
    let at : clock (s + (t - s)) ≡ clock t = ap clock same in
    let short : (t - s) * (1000000 + e) ≤ most * (1000000 + e) = mul-le (t - s) (1000000 + e) most (1000000 + e) (omega (arith, from, less)) (omega arith) in
    omega (arith, is, at, short, room)

held_lasts : (since : Option ℕ) (used validity x now : ℕ) → HoldsBy since used x → now + used < x + validity → lasts since validity now ≡ true
held_lasts None used validity x now by less = absurd by
held_lasts (Some s) used validity x now by less = lt-ltb now (s + validity) (omega (arith, by, less))

-- who is answered in time holds
pub timely_holds : (clock S : ℕ → ℕ) (since : Option ℕ) (e validity gap delay used n t : ℕ) → IsNotFast e clock → IsRhythm gap S n →
    ((i : ℕ) → i ≤ n → S i + delay ≤ t → HoldsBy since used (clock (S i))) → S 0 + delay ≤ t → t < S n + delay + gap →
    IsRoom e validity used (gap + delay) → lasts since validity (clock t) ≡ true
timely_holds clock S since e validity gap delay used n t fast rhythm come first last room =
    let new = newest S gap delay n t rhythm first last in
    let over = new.over in
    let soon = new.soon in
    held_lasts since used validity (clock (S new.i)) (clock t) (come new.i new.within new.over)
    (little e clock fast validity used (gap + delay) (S new.i) t (omega (arith, over)) (omega (arith, soon)) room)

-- who is heard in time is not let go
pub timely_counts : (clock S : ℕ → ℕ) (place : ChildPlace) (e grace gap delay n t : ℕ) → IsNotFast e clock → IsRhythm gap S n →
    ((i : ℕ) → i ≤ n → S i + delay ≤ t → clock (S i) ≤ place.heard) → S 0 + delay ≤ t → t < S n + delay + gap →
    IsRoom e grace 0 (gap + delay) → is_overdue place grace (clock t) ≡ false
timely_counts clock S place e grace gap delay n t fast rhythm come first last room =
    let new = newest S gap delay n t rhythm first last in
    let over = new.over in
    let soon = new.soon in
    let heard = come new.i new.within new.over in
    let less = little e clock fast grace 0 (gap + delay) (S new.i) t (omega (arith, over)) (omega (arith, soon)) room in
    and_right place.counts _ (lt-leb (place.heard + grace) (clock t) (omega (arith, heard, less)))

-- by plain numbers: l and u are the million less and more e, y the time from hearing to over
hop_numbers : (e l u V lent x y : ℕ) → l + e ≡ 1000000 → u ≡ 1000000 + e → lent ≤ V → (y + x) * l ≤ lent * 1000000 →
    lent * 1000000 ≤ y * u + 1000000 →
    x * l * l ≤ (V * (2 * e) * 1000000) + 1000000 * l
hop_numbers e l u V lent x y low high most slow fast =
    let a : (y + x) * l ≡ y * l + x * l = add-mul y x l in
    let b : y * u ≡ y * l + y * (2 * e) = ap (λ (z : ℕ). y * z) (omega (arith, low, high)) ∙ mul-add y l (2 * e) in
    let c : x * l ≤ y * (2 * e) + 1000000 = omega (arith, a, b, slow, fast) in
    let d : x * l * l ≤ (y * (2 * e) + 1000000) * l = mul-le (x * l) l (y * (2 * e) + 1000000) l c (omega arith) in
    let f : (y * (2 * e) + 1000000) * l ≡ y * (2 * e) * l + 1000000 * l = add-mul (y * (2 * e)) 1000000 l in
    let g : y * (2 * e) * l ≡ y * l * (2 * e) = mul_right_comm y (2 * e) l in
    let h : y * l ≤ V * 1000000 = omega (arith, a, slow, most) in
    let i : y * l * (2 * e) ≤ V * 1000000 * (2 * e) = mul-le (y * l) (2 * e) (V * 1000000) (2 * e) h (omega arith) in
    let j : V * 1000000 * (2 * e) ≡ V * (2 * e) * 1000000 = mul_right_comm V 1000000 (2 * e) in
    omega (arith, d, f, g, i, j)

-- what one relay adds at most
pub hop : (child parent : ℕ → ℕ) (e validity lent said heard over later : ℕ) → IsNotSlow e child → IsNotFast e parent → e < 1000000 →
    said ≤ heard → heard ≤ over → lent ≤ validity → parent heard + lent ≤ parent over → child (over + later) < child said + lent →
    later * (1000000 - e) * (1000000 - e) ≤ (validity * (2 * e) * 1000000) + 1000000 * (1000000 - e)
hop child parent e validity lent said heard over later slow fast small first then most until holds =
    let far : said + (over + later - said) ≡ over + later = omega (arith, first, then) in
    let s : (over + later - said) * (1000000 - e) ≤ lent * 1000000 =
    slow_part e child slow lent said (over + later - said) (subst (λ (x : ℕ). child x < child said + lent) (sym far) holds) in
    let less : (over - heard + later) * (1000000 - e) ≤ (over + later - said) * (1000000 - e) =
    mul-le (over - heard + later) (1000000 - e) (over + later - said) (1000000 - e) (omega (arith, first, then)) (omega arith) in
    let same : heard + (over - heard) ≡ over = omega (arith, then) in
    let f : lent * 1000000 ≤ (over - heard) * (1000000 + e) + 1000000 =
    fast_part e parent fast lent heard (over - heard) (subst (λ (x : ℕ). parent heard + lent ≤ parent x) (sym same) until) in
    hop_numbers e (1000000 - e) (1000000 + e) validity lent later (over - heard) (omega (arith, small)) (omega arith) most (le_trans less s) f
