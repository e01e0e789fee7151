-- Down a path from a cut.
use Rattle.std.proofs.Common.{◌≡◌, sym, subst, ℕ, zero, suc, ◌+◌, ◌-◌, ◌*◌, ◌<◌, ◌≤◌, inl, inr, arith}
use Rattle.std.proofs.lemmas.Bool.{cases_lt}
use Rattle.std.proofs.lemmas.Nat.{mul-le}
use Rattle.pm_silence.specs.Clocks.{IsNotSlow, IsNotFast}
use Rattle.pm_silence.specs.Path.{IsLent, IsFromCut, IsLease, IsReach, IsStep, reach}
use Rattle.pm_silence.proofs.Counting.{slow_part}
use Rattle.pm_silence.proofs.Keeping.{rises_to}
use Rattle.pm_silence.proofs.Timely.{hop}

from_cut : (clock : ℕ → ℕ) (e validity cut first until : ℕ) → IsNotSlow e clock → IsReach e validity first →
    IsFromCut clock validity cut until →
    until ≤ clock (cut + first)
from_cut clock e validity cut first until slow far is =
    let before = is.before in
    let last = is.until in
    let same : is.said + (cut + first - is.said) ≡ cut + first = omega (arith, before) in
    elim (cases_lt (clock (cut + first)) until) as (λ _. until ≤ clock (cut + first)) [
      | inl under ↦
          let less : clock (cut + first) < clock is.said + validity = omega (arith, under, last) in
          let short = slow_part e clock slow validity is.said (cut + first - is.said)
          (subst (λ (x : ℕ). clock x < clock is.said + validity) (sym same) less) in
          let most : first * (1000000 - e) ≤ (cut + first - is.said) * (1000000 - e) =
          mul-le first (1000000 - e) (cut + first - is.said) (1000000 - e) (omega (arith, before)) (omega arith) in
          absurd (omega (arith, short, most, far))
      | inr done ↦ done
    ]

one_below : (parent child : ℕ → ℕ) (e validity over step until : ℕ) (Above : ℕ → Type 0) → IsNotSlow e child → IsNotFast e parent →
    e < 1000000 →
    IsStep e validity step → ((u : ℕ) → Above u → u ≤ parent over) → IsLent parent child validity Above until → until ≤ child (over + step)
one_below parent child e validity over step until Above slow fast small each above is =
    let ends = above is.above is.lease in
    let held = is.held in
    let left = is.left in
    let last = is.until in
    elim (cases_lt over is.heard) as (λ _. until ≤ child (over + step)) [
      | inl late ↦ let up = rises_to parent fast.rises over is.heard (omega (arith, late)) in absurd (omega (arith, up, ends, held))
      | inr early ↦ elim (cases_lt (child (over + step)) until) as (λ _. until ≤ child (over + step)) [
        | inl under ↦
            let far = hop child parent e validity is.lent is.said is.heard over step slow fast small is.first early is.most (omega (arith, left, ends))
            (omega (arith, under, last)) in
            absurd (omega (arith, far, each))
        | inr done ↦ done
      ]
    ]

-- each node down from a cut has its fallback by its reach
pub over_by_reach : (clocks : ℕ → ℕ → ℕ) (e validity cut first step : ℕ) → ((i : ℕ) → IsNotSlow e (clocks i)) →
    ((i : ℕ) → IsNotFast e (clocks i)) →
    e < 1000000 → IsReach e validity first → IsStep e validity step → (n until : ℕ) → IsLease clocks validity cut n until →
    until ≤ clocks n (cut + reach first step n)
over_by_reach clocks e validity cut first step slow fast small far each zero until lease = from_cut (clocks 0) e validity cut first until (slow 0) far lease
over_by_reach clocks e validity cut first step slow fast small far each (suc n) until lease =
    let below : until ≤ clocks (suc n) (cut + reach first step n + step) =
    one_below (clocks n) (clocks (suc n)) e validity (cut + reach first step n) step until (IsLease clocks validity cut n) (slow (suc n)) (fast n) small each
    (λ u it. over_by_reach clocks e validity cut first step slow fast small far each n u it) lease in
    subst (λ (x : ℕ). until ≤ clocks (suc n) x) (omega arith) below
