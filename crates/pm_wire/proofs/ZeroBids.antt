-- When demands are a bid; and that no power at any step is one.
use Rattle.std.proofs.Common.{◌≡◌, ◌∙◌, sym, ap, subst, ℕ, ◌+◌, ◌<◌, ◌≤◌, ℤ, pos, ◌≤ℤ◌, false, List, length, Ok, arith}
use Rattle.std.proofs.lemmas.Int.{ints}
use Rattle.std.proofs.lemmas.Bool.Decides.{nat_tests}
use Rattle.std.proofs.lemmas.List.Sums.{position_or_len_is}
use Rattle.pm_base.specs.Limits.{demand_limit, IsWithin}
use Rattle.pm_base.proofs.Ints.{not_below}
use Rattle.pm_bid.specs.Bids.{demand_at, zeros, NeverRises, AllWithinLimit}
use Rattle.pm_bid.specs.Checks.{checked_bid, first_rising, first_too_large, is_too_large}
use Rattle.pm_bid.proofs.FoundStep.{first_rising_none}
use Rattle.pm_bid.proofs.Sums.{length-zeros, zeros-at, zeros-within}

-- demands that never rise, of which each is small, are a bid
pub is_bid : (demand : List ℤ) → 1 ≤ length demand → NeverRises demand → AllWithinLimit demand_limit demand →
    checked_bid (length demand) demand ≡ Ok demand
is_bid demand some falls within =
    let never : length demand ≡ first_rising demand =
    first_rising_none demand some (λ k inside. not_below (demand_at demand k) (demand_at demand (k + 1)) (falls k inside)) in
    let small : (k : ℕ) → k < length demand → is_too_large (demand_at demand k) ≡ false = λ k inside.
    let its : IsWithin demand_limit (demand_at demand k) = within k inside in
    grind (arith, ints) in
    let none : first_too_large demand ≡ length demand =
    position_or_len_is is_too_large demand (length demand) (pos 0) (omega arith) small (λ h. absurd (omega arith)) in
    let least : length demand ≤ first_rising demand = omega arith in
    let largest : length demand ≤ first_too_large demand = omega arith in
    grind (arith, nat_tests)

-- no power at any step is the bid of it
pub zeros_are_bid : (steps : ℕ) → 1 ≤ steps → checked_bid steps (zeros steps) ≡ Ok (zeros steps)
zeros_are_bid steps some =
    let long = length-zeros steps in
    let falls : NeverRises (zeros steps) = λ k inside. omega (arith, ints, zeros-at steps k, zeros-at steps (k + 1)) in
    let P : ℕ → Type 0 = λ n. checked_bid n (zeros steps) ≡ Ok (zeros steps) in
    subst P long (is_bid (zeros steps) (omega (arith, long)) falls (zeros-within demand_limit steps))
