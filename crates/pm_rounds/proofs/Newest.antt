-- The newest message of a channel, and what is counted with it.
use Rattle.std.proofs.Common.{◌≡◌, ◌∙◌, sym, ap, ℕ, zero, suc, ◌+◌, ◌*◌, ◌<◌, ◌≤◌, cond, ltb, inl}
use Rattle.std.proofs.Common.{inr, List, [], ◌∷◌, length, get_or, arith}
use Rattle.std.proofs.lemmas.Bool.{cases_lt, cases_Bool, cond-true, cond-false, lt-ltb, ltb-true}
use Rattle.std.proofs.lemmas.Bool.{both_ways}
use Rattle.pm_market.specs.Lists.{Lists, nodes, Lawful}
use Rattle.pm_market.specs.State.{State, sum_to, clearings}
use Rattle.pm_market.specs.Bound.{change_total}
use Rattle.pm_market.proofs.Tree.{leaf_zero}
use Rattle.pm_laws.proofs.Bound.{newest_small, list_weight, weight_small}
use Rattle.pm_laws.proofs.Published.{due_within}
use Rattle.pm_laws.proofs.Sums.{sum_le, sum_same}
use Rattle.pm_net.specs.Pricing.{Pricing}
use Rattle.pm_net.specs.Messages.{BidMessage, PriceMessage, nothing_heard, no_price}
use Rattle.pm_net.specs.Network.{Network, sent_price}
use Rattle.pm_net.specs.Events.{Event, network_step}
use Rattle.pm_net.specs.Agrees.{NetworkAgrees}
use Rattle.pm_rounds.specs.Rounds.{IsCarried}
use Rattle.pm_rounds.specs.Bounds.{full_round_bound}
use Rattle.pm_net.proofs.Messages.{either}
use Rattle.pm_rounds.proofs.Counting.{count_of, count_small, count_rises, KeepsSent, step_up, step_keeps_bids, step_keeps_prices}

-- ---- the newest message of a channel

pub top : {A : Type 0} → (A → ℕ) → List A → ℕ
top key [] = 0
top key (x ∷ xs) = cond (ltb (top key xs) (key x)) (key x) (top key xs)

-- no message has a greater key
pub top_at : {A : Type 0} → (key : A → ℕ) (l : List A) (d : A) (k : ℕ) → k < length l → key (get_or l k d) ≤ top key l
unfolding top
top_at key [] d k lt = absurd (omega (arith, lt))
top_at key (x ∷ xs) d zero lt = either (λ (n : ℕ). key x ≤ n) (ltb (top key xs) (key x)) (key x) (top key xs) (λ e. omega arith)
    (λ e. elim (cases_lt (top key xs) (key x)) [
      | inl w ↦ absurd (both_ways (ltb (top key xs) (key x)) e (lt-ltb (top key xs) (key x) w))
      | inr w ↦ w
    ])
top_at key (x ∷ xs) d (suc k) lt =
    let rest : key (get_or xs k d) ≤ top key xs = top_at key xs d k (omega (arith, lt)) in
    either (λ (n : ℕ). key (get_or xs k d) ≤ n) (ltb (top key xs) (key x)) (key x) (top key xs)
    (λ e. omega (arith, rest, ltb-true (top key xs) (key x) e)) (λ e. rest)

-- it is the key of a message, if it is not 0
pub top_there : {A : Type 0} → (key : A → ℕ) (l : List A) (d : A) → 1 ≤ top key l → (k : ℕ) × (k < length l) ×
    (key (get_or l k d) ≡ top key l)
unfolding top
top_there key [] d one = absurd (omega (arith, one))
top_there key (x ∷ xs) d one = elim (cases_Bool (ltb (top key xs) (key x))) [
  | inl e ↦ (0, omega arith, sym (cond-true (ltb (top key xs) (key x)) (key x) (top key xs) e))
  | inr e ↦
      let same : top key (x ∷ xs) ≡ top key xs = cond-false (ltb (top key xs) (key x)) (key x) (top key xs) e in
      let at = top_there key xs d (omega (arith, one, same)) in
      (suc at.0, omega (arith, at.1), at.2 ∙ sym same)
]

-- it is within a bound of each message
pub top_small : {A : Type 0} → (key : A → ℕ) (l : List A) (d : A) (v : ℕ) → ((k : ℕ) → k < length l → key (get_or l k d) ≤ v) →
    top key l ≤ v
top_small key l d v all = elim (cases_lt (top key l) 1) [
  | inl none ↦ omega (arith, none)
  | inr some ↦ let at = top_there key l d some in omega (arith, at.2, all at.0 at.1)
]

-- it does not fall while what was sent is there
pub top_keeps : {A : Type 0} → (key : A → ℕ) (d : A) (old new : ℕ → List A) → KeepsSent d old new → (x : ℕ) →
    top key (old x) ≤ top key (new x)
top_keeps key d old new kept x = top_small key (old x) d (top key (new x)) (λ k lt.
    let at = kept x k lt in
    omega (arith, ap key at.1, top_at key (new x) d k at.0))

unfoldable pub bid_key : BidMessage → ℕ
bid_key b = b.number

unfoldable pub price_key : PriceMessage → ℕ
price_key q = q.index

unfoldable pub top_bid : Network → ℕ → ℕ
top_bid net x = top bid_key (net.bids_sent x)

unfoldable pub top_price : Network → ℕ → ℕ
top_price net x = top price_key (net.prices_sent x)

unfoldable pub tops : Network → ℕ → ℕ
tops net x = top_bid net x + top_price net x

-- what is counted, and the newest messages
unfoldable pub full_count : Lists → Network → ℕ
full_count lists net = count_of lists net + sum_to (nodes lists) (tops net)

-- what is counted has a bound
pub full_small : (lists : Lists) → Lawful lists → (p : Pricing) (net : Network) (s : State) → NetworkAgrees lists p net s →
    full_count lists net ≤ full_round_bound lists
unfolding full_count tops top_bid top_price bid_key price_key
full_small lists law p net s agrees =
    let c : ℕ = change_total lists in
    let cleared : clearings s ≤ c = omega (arith, list_weight lists law s agrees.sound 0 (leaf_zero lists), weight_small lists 0) in
    let each : sum_to (nodes lists) (tops net) ≤ sum_to (nodes lists) (λ x. 2 * c) =
    sum_le (nodes lists) (tops net) (λ x. 2 * c) (λ x one le. omega (
      arith,
      top_small bid_key (net.bids_sent x) (nothing_heard p) c (λ k lt. omega (
        arith,
        (agrees.bids_sent x k (one, le) lt).0,
        newest_small lists law s agrees.sound x (one, le),
      )),
      top_small price_key (net.prices_sent x) no_price c (λ k lt. omega (
        arith,
        (due_within lists s agrees.sound x (sent_price net x k).index (agrees.prices_sent x k (one, le) lt).0).1,
        cleared,
      )),
    )) in
    grind (arith, each, sum_same (nodes lists) (2 * c), count_small lists law p net s agrees)

-- a carried event does not make it fall, nor the newest message of a channel
pub full_rises : (lists : Lists) (p : Pricing) (net : Network) (e : Event) → IsCarried lists e →
    (full_count lists net ≤ full_count lists (network_step lists p net e))
    × ((x : ℕ) → top_bid net x ≤ top_bid (network_step lists p net e) x) × ((x : ℕ) → top_price net x ≤ top_price (network_step lists p net e) x)
unfolding full_count tops top_bid top_price bid_key price_key
full_rises lists p net e carried =
    let next : Network = network_step lists p net e in
    let bids : (x : ℕ) → top_bid net x ≤ top_bid next x =
    top_keeps bid_key (nothing_heard p) net.bids_sent next.bids_sent (step_keeps_bids lists p net e carried) in
    let prices : (x : ℕ) → top_price net x ≤ top_price next x =
    top_keeps price_key no_price net.prices_sent next.prices_sent (step_keeps_prices lists p net e carried) in (
      omega (
        arith,
        count_rises lists net next (step_up lists p net e carried),
        sum_le (nodes lists) (tops net) (tops next) (λ x one le. omega (arith, bids x, prices x)),
      ),
      bids,
      prices,
    )
