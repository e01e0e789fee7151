-- The small network that froze does not settle in any number of rounds.
use Rattle.std.proofs.Common.{◌≡◌, ◌∙◌, sym, ap, subst, ℕ, zero, suc, ◌<◌, ◌≤◌, Bool, true, false, cond, not, eqb, ltb, leb}
use Rattle.std.proofs.Common.{◌&&◌, inl, inr}
use Rattle.std.proofs.Common.{List, [], ◌∷◌, ◌++◌, length, get_or, refl, arith}
use Rattle.std.proofs.lemmas.Bool.{cases_eq, cases_lt, cases_Bool, and_parts, both_ways, ltb-true, leb-true}
use Rattle.std.specs.List.{All}
use Rattle.pm_market.specs.Lists.{nodes, parent, is_leaf, is_member, changes, IsNode, IsInner}
use Rattle.pm_market.specs.State.{update, all_to}
use Rattle.pm_market.specs.Held.{last_join}
use Rattle.pm_market.specs.Legality.{is_node}
use Rattle.pm_market.proofs.Cuts.{updated_other}
use Rattle.pm_market.proofs.Legality.{is_node_from}
use Rattle.pm_net.specs.Pricing.{Pricing}
use Rattle.pm_net.specs.Messages.{BidMessage, PriceMessage, nothing_heard, no_price}
use Rattle.pm_net.specs.Network.{Network, sent_bid, sent_price}
use Rattle.pm_net.specs.Running.{is_new_bid, is_caught_up, has_news, can_send, sent_down, can_clear, is_new_price, names_a_bid, is_overtaken, waits}
use Rattle.pm_net.specs.Running.{after_taking_bid, after_sending, after_clearing, after_taking_price, after_relay_price}
use Rattle.pm_net.specs.Restarts.{can_rebuild, after_rebuilding, can_resend, after_resending, newest_bid, can_tell_one, after_telling_one}
use Rattle.pm_net.specs.Events.{Event, network_step, network_after, Bids, TakesBid, Sends, Clears, TakesPrice, Restarts, Rebuilds, StopsBidding}
use Rattle.pm_net.specs.Events.{Resends, PassesToOne, StopsClearing, TellsOne}
use Rattle.pm_net.specs.Settled.{IsSettledNetwork}
use Rattle.pm_net.specs.TreeAuction.{add_to}
use Rattle.pm_net.proofs.Messages.{either, each_sent, past}
use Rattle.pm_rounds.specs.Rounds.{IsCarried, AreFullRounds, after_rounds}
use Rattle.pm_rounds.specs.SmallRounds.{restless, restless_pricing, frozen}

-- what is so of nodes 1 and 2 is so of each node
of_two : (P : ℕ → Type 0) → P 1 → P 2 → (x : ℕ) → IsNode restless x → P x
of_two P one two x node = elim (cases_eq x 1) [
  | inl e ↦ subst P (sym e) one
  | inr ne ↦ subst P (omega (arith, node.0, node.1, ne)) two
]

-- a test that is passed by nodes alone, and by neither of the two, is passed by nobody
by_none : (test : ℕ → Bool) → ((x : ℕ) → test x ≡ true → is_node restless x ≡ true) → test 1 ≡ false → test 2 ≡ false → (x : ℕ) →
    test x ≡ false
by_none test nodes_alone one two x = elim (cases_Bool (test x)) [
  | inr e ↦ e
  | inl e ↦ of_two (λ (y : ℕ). test y ≡ false) one two x (is_node_from restless x (nodes_alone x e))
]

-- The relay can neither send nor send again, and lost its record; the auctioneer can do nothing; no price is on the way, and of bids
-- only the device's, of which the relay heard the newest.
record IsStuck (net : Network) : Type 0 where
  sends : can_send restless net 1 ≡ false
  clears : can_clear restless net ≡ false
  lost : can_rebuild restless net 1 ≡ false
  lost_root : can_rebuild restless net 0 ≡ false
  silent : can_resend restless net 1 ≡ false
  untold : can_tell_one restless net 1 ≡ false
  unsent : net.bids_sent 1 ≡ []
  old : (k : ℕ) → k < length (net.bids_sent 2) → (sent_bid restless_pricing net 2 k).number ≤ (net.heard 2).number
  newest : net.counts 2 ≤ (net.heard 2).number
  no_prices : net.prices_sent 1 ≡ []
  none_down : net.prices_sent 2 ≡ []
  unheard : (net.heard 1).number < net.last_number 1

-- each bid of a list has a number within a bound
small : ℕ → List BidMessage → Bool
small most [] = true
small most (bid ∷ bids) = leb bid.number most && small most bids

each_small : (most : ℕ) (bids : List BidMessage) → small most bids ≡ true → (k : ℕ) → k < length bids →
    (get_or bids k (nothing_heard restless_pricing)).number ≤ most
unfolding small
each_small most [] all k lt = absurd (omega (arith, lt))
each_small most (bid ∷ bids) all zero lt = leb-true bid.number most (and_parts (leb bid.number most) (small most bids) all).0
each_small most (bid ∷ bids) all (suc k) lt =
    each_small most bids (and_parts (leb bid.number most) (small most bids) all).1 k (omega (arith, lt))

-- at the start of the rounds
is_stuck : IsStuck (frozen [])
unfolding parent is_leaf is_member changes update all_to is_new_bid is_caught_up has_news can_send sent_down can_clear is_new_price names_a_bid
    is_overtaken waits can_rebuild can_resend can_tell_one last_join add_to small
is_stuck = record {
  sends = refl;
  clears = refl;
  lost = refl;
  lost_root = refl;
  silent = refl;
  untold = refl;
  unsent = refl;
  old = each_small ((frozen []).heard 2).number ((frozen []).bids_sent 2) refl;
  newest = leb-true ((frozen []).counts 2) ((frozen []).heard 2).number refl;
  no_prices = refl;
  none_down = refl;
  unheard = ltb-true ((frozen []).heard 1).number ((frozen []).last_number 1) refl;
}

module _ (net : Network) (stuck : IsStuck net) where
  abbrev p : Pricing
  p = restless_pricing

  -- ---- nobody can do anything new

  bid_not_new : (x : ℕ) → IsNode restless x → (k : ℕ) → (sent_bid restless_pricing net x k).number ≤ (net.heard x).number
  bid_not_new = of_two (λ (x : ℕ). (k : ℕ) → (sent_bid restless_pricing net x k).number ≤ (net.heard x).number)
      (λ k. omega (
        arith,
        ap (λ (b : BidMessage). b.number) (past (net.bids_sent 1) k (nothing_heard p)
            (omega (arith, ap (λ (l : List BidMessage). length l) stuck.unsent))),
      ))
      (λ k. elim (cases_lt k (length (net.bids_sent 2))) [
        | inl inside ↦ stuck.old k inside
        | inr ge ↦ omega (arith, ap (λ (b : BidMessage). b.number) (past (net.bids_sent 2) k (nothing_heard p) ge))
      ])

  price_not_new : (x : ℕ) → IsNode restless x → (k : ℕ) → (sent_price net x k).index ≤ (net.taken x).index
  price_not_new = of_two (λ (x : ℕ). (k : ℕ) → (sent_price net x k).index ≤ (net.taken x).index)
      (λ k. none_there (net.prices_sent 1) k (net.taken 1).index stuck.no_prices)
      (λ k. none_there (net.prices_sent 2) k (net.taken 2).index stuck.none_down)
    where
      none_there : (l : List PriceMessage) (k i : ℕ) → l ≡ [] → (get_or l k no_price).index ≤ i
      none_there l k i none = omega (
        arith,
        ap (λ (q : PriceMessage). q.index) (past l k no_price (omega (arith, ap (λ (m : List PriceMessage). length m) none))),
      )

  no_send : (x : ℕ) → can_send restless net x ≡ false
  unfolding can_send is_leaf
  no_send = by_none (can_send restless net) (λ x e.
      (and_parts (is_node restless x) (not (is_leaf restless x))
      (and_parts (is_node restless x && not (is_leaf restless x)) (is_caught_up restless net x)
      (and_parts (is_node restless x && not (is_leaf restless x) && is_caught_up restless net x) (has_news restless net x)
      (and_parts (is_node restless x && not (is_leaf restless x) && is_caught_up restless net x && has_news restless net x) _ e).0).0).0).0)
      stuck.sends refl

  no_tell : (x : ℕ) → can_tell_one restless net x ≡ false
  unfolding can_tell_one parent
  no_tell = by_none (can_tell_one restless net) (λ x e.
      (and_parts (is_node restless x) (eqb (parent restless x) 0)
      (and_parts (is_node restless x && eqb (parent restless x) 0) (leb (net.whole_from 0) (net.last_number 0))
      (and_parts (is_node restless x && eqb (parent restless x) 0 && leb (net.whole_from 0) (net.last_number 0)) (leb 1 (net.last_number 0))
      (and_parts (is_node restless x && eqb (parent restless x) 0 && leb (net.whole_from 0) (net.last_number 0) && leb 1 (net.last_number 0)) _ e).0).0).0).0)
      stuck.untold refl

  no_rebuild : (y : ℕ) → IsInner restless y → y ≤ nodes restless → can_rebuild restless net y ≡ false
  unfolding is_leaf
  no_rebuild y inner le = elim (cases_eq y 0) [
    | inl e ↦ ap (can_rebuild restless net) e ∙ stuck.lost_root
    | inr ne ↦ of_two (λ (x : ℕ). IsInner restless x → can_rebuild restless net x ≡ false) (λ i. stuck.lost)
        (λ i. absurd (both_ways (is_leaf restless 2) i refl)) y (omega (arith, ne), le) inner
  ]

  -- its device sends its bid again
  sends_again : IsStuck (after_resending restless restless_pricing net 2)
  unfolding can_send can_clear can_rebuild can_resend can_tell_one is_caught_up has_news is_leaf
  sends_again = record {
    sends = stuck.sends;
    clears = stuck.clears;
    lost = stuck.lost;
    lost_root = stuck.lost_root;
    silent = stuck.silent;
    untold = stuck.untold;
    unsent = updated_other net.bids_sent 2 (net.bids_sent 2 ++ newest_bid restless p net 2 ∷ []) 1 (λ e. omega (arith, e)) ∙ stuck.unsent;
    old = each_sent (λ (y : ℕ) (b : BidMessage). b.number ≤ (net.heard 2).number) net.bids_sent 2 (newest_bid restless p net 2) (nothing_heard p)
        stuck.newest 2 stuck.old;
    newest = stuck.newest;
    no_prices = stuck.no_prices;
    none_down = stuck.none_down;
    unheard = stuck.unheard;
  }

  stuck_step : (e : Event) → IsCarried restless e → IsStuck (network_step restless restless_pricing net e)
  unfolding is_new_bid is_new_price can_resend
  stuck_step (Bids d) carried = absurd carried
  stuck_step (TakesBid x k) carried =
      let bid : BidMessage = sent_bid p net x k in
      either IsStuck (is_new_bid restless net x bid) (after_taking_bid net x bid) net
      (λ e.
      let parts = and_parts (is_node restless x) (ltb (net.heard x).number bid.number) e in
      absurd (omega (arith, ltb-true (net.heard x).number bid.number parts.1, bid_not_new x (is_node_from restless x parts.0) k)))
      (λ e. stuck)
  stuck_step (Sends c) carried =
      either IsStuck (can_send restless net c) (after_sending p net c) net (λ e. absurd (both_ways (can_send restless net c) (no_send c) e)) (λ e. stuck)
  stuck_step Clears carried =
      either IsStuck (can_clear restless net) (after_clearing restless p net) net (λ e. absurd (both_ways (can_clear restless net) stuck.clears e))
      (λ e. stuck)
  stuck_step (TakesPrice x k) carried =
      let price : PriceMessage = sent_price net x k in
      either IsStuck (is_new_price restless net x price)
      (cond (is_leaf restless x) (after_taking_price net x price) (after_relay_price restless p net x price)) net
      (λ e.
      let parts = and_parts (is_node restless x) (ltb (net.taken x).index price.index) e in
      absurd (omega (arith, ltb-true (net.taken x).index price.index parts.1, price_not_new x (is_node_from restless x parts.0) k)))
      (λ e. stuck)
  stuck_step (Restarts y k) carried = absurd carried
  stuck_step (Rebuilds y) carried =
      either IsStuck (can_rebuild restless net y) (after_rebuilding net y) net
      (λ e. absurd (both_ways (can_rebuild restless net y) (no_rebuild y carried.0 carried.1) e)) (λ e. stuck)
  stuck_step (StopsBidding x) carried = absurd carried
  stuck_step (Resends x) carried =
      either IsStuck (can_resend restless net x) (after_resending restless p net x) net
      (λ e. of_two (λ (y : ℕ). can_resend restless net y ≡ true → IsStuck (after_resending restless restless_pricing net y))
      (λ may. absurd (both_ways (can_resend restless net 1) stuck.silent may)) (λ may. sends_again) x
      (is_node_from restless x (and_parts (is_node restless x) _ e).0) e)
      (λ e. stuck)
  stuck_step (PassesToOne z k) carried = absurd carried
  stuck_step StopsClearing carried = absurd carried
  stuck_step (TellsOne z) carried =
      either IsStuck (can_tell_one restless net z) (after_telling_one p net z) net
      (λ e. absurd (both_ways (can_tell_one restless net z) (no_tell z) e)) (λ e. stuck)

stuck_after : (events : List Event) (net : Network) → IsStuck net → All (IsCarried restless) events →
    IsStuck (network_after restless restless_pricing net events)
stuck_after [] net stuck all = stuck
stuck_after (e ∷ es) net stuck all =
    stuck_after es (network_step restless restless_pricing net e) (stuck_step net stuck e (all 0 e (omega arith)))
    (λ k o lt. all (suc k) o (omega (arith, lt)))

stuck_on : (rounds : List (List Event)) (net : Network) → IsStuck net → AreFullRounds restless restless_pricing net rounds →
    IsStuck (after_rounds restless restless_pricing net rounds)
stuck_on [] net stuck are = stuck
stuck_on (round ∷ rounds) net stuck are =
    stuck_on rounds (network_after restless restless_pricing net round) (stuck_after round net stuck are.0.round.carried) are.1

-- a stuck network is not settled
not_settled : (net : Network) → IsStuck net → IsSettledNetwork restless net → ⊥
unfolding is_leaf
not_settled net stuck settled = omega (arith, settled.bids 1 (omega arith, omega arith), stuck.unheard)

-- the network that froze is settled after no rounds
pub never_settles : (rounds : List (List Event)) → AreFullRounds restless restless_pricing (frozen []) rounds →
    IsSettledNetwork restless (after_rounds restless restless_pricing (frozen []) rounds) → ⊥
never_settles rounds are settled =
    not_settled (after_rounds restless restless_pricing (frozen []) rounds) (stuck_on rounds (frozen []) is_stuck are) settled
