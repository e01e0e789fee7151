-- What is given in a round is held, and a node without news has none to its end.
use Rattle.std.proofs.Common.{◌≡◌, sym, ap, subst, ℕ, zero, suc, ◌<◌, ◌≤◌, false, not, eqb, inl}
use Rattle.std.proofs.Common.{inr, List, [], ◌∷◌, length, get_or, arith}
use Rattle.std.proofs.lemmas.Bool.{cases_lt, and_from, cond-true, lt-ltb, eq-eqb, eqb-true}
use Rattle.std.proofs.lemmas.Bool.{not-false}
use Rattle.std.specs.List.{All}
use Rattle.pm_market.specs.Lists.{Lists, parent, IsNode}
use Rattle.pm_market.proofs.Cuts.{updated_same}
use Rattle.pm_market.proofs.Legality.{is_node_at}
use Rattle.pm_net.specs.Pricing.{Pricing}
use Rattle.pm_net.specs.Messages.{BidMessage}
use Rattle.pm_net.specs.Network.{Network, sent_bid}
use Rattle.pm_net.specs.Running.{recorded_number, all_children, is_new_bid, has_news, after_taking_bid}
use Rattle.pm_net.specs.Events.{Event, network_step, network_after, TakesBid}
use Rattle.pm_rounds.specs.Rounds.{IsCarried}
use Rattle.pm_net.proofs.News.{child_from, child_at}
use Rattle.pm_rounds.proofs.Counting.{Rises, step_up, step_keeps_bids}

-- ---- what arrives in a round

pub rises_on : (a b c : Network) → Rises a b → Rises b c → Rises a c
rises_on a b c first then = record {
  counts = λ x. omega (arith, first.counts x, then.counts x);
  heard = λ x. omega (arith, first.heard x, then.heard x);
  taken = λ x. omega (arith, first.taken x, then.taken x);
  last = λ x. omega (arith, first.last x, then.last x);
  whole = λ x. omega (arith, first.whole x, then.whole x);
}

-- nothing that is counted falls in a round
pub after_up : (lists : Lists) (p : Pricing) (events : List Event) (net : Network) → All (IsCarried lists) events →
    Rises net (network_after lists p net events)
after_up lists p [] net all = record {
  counts = λ x. omega arith;
  heard = λ x. omega arith;
  taken = λ x. omega arith;
  last = λ x. omega arith;
  whole = λ x. omega arith;
}
after_up lists p (e ∷ es) net all =
    rises_on net (network_step lists p net e) (network_after lists p (network_step lists p net e) es) (step_up lists p net e (all 0 e (omega arith)))
    (after_up lists p es (network_step lists p net e) (λ k o lt. all (suc k) o (omega (arith, lt))))

-- a bid that was given is held, or a newer one
bid_given : (lists : Lists) (p : Pricing) (net : Network) (x k : ℕ) → IsNode lists x →
    (sent_bid p net x k).number ≤ ((network_step lists p net (TakesBid x k)).heard x).number
unfolding is_new_bid
bid_given lists p net x k node =
    let bid : BidMessage = sent_bid p net x k in
    elim (cases_lt (net.heard x).number bid.number) [
      | inl lt ↦ omega (
        arith,
        ap (λ (n : Network). (n.heard x).number) (cond-true (is_new_bid lists net x bid) (after_taking_bid net x bid) net
            (and_from _ _ (is_node_at lists x node) (lt-ltb (net.heard x).number bid.number lt))),
        ap (λ (b : BidMessage). b.number) (updated_same net.heard x bid),
      )
      | inr ge ↦ omega (arith, ge, (step_up lists p net (TakesBid x k) tt).heard x)
    ]

-- so at the end of the round
pub bid_arrives : (lists : Lists) (p : Pricing) (events : List Event) (net : Network) → All (IsCarried lists) events → (x k : ℕ) → IsNode lists x →
    k < length (net.bids_sent x) → (i : ℕ) → i < length events → get_or events i (TakesBid x k) ≡ TakesBid x k →
    (sent_bid p net x k).number ≤ ((network_after lists p net events).heard x).number
bid_arrives lists p [] net all x k node inside i lt is = absurd (omega (arith, lt))
bid_arrives lists p (e ∷ es) net all x k node inside zero lt is =
    let next : Network = network_step lists p net e in
    let given : (sent_bid p net x k).number ≤ (next.heard x).number =
    subst (λ (f : Event). (sent_bid p net x k).number ≤ ((network_step lists p net f).heard x).number) (sym is) (bid_given lists p net x k node) in
    omega (arith, given, (after_up lists p es next (λ k o lt. all (suc k) o (omega (arith, lt)))).heard x)
bid_arrives lists p (e ∷ es) net all x k node inside (suc i) lt is =
    let next : Network = network_step lists p net e in
    let kept = step_keeps_bids lists p net e (all 0 e (omega arith)) x k inside in
    omega (
      arith,
      ap (λ (b : BidMessage). b.number) kept.1,
      bid_arrives lists p es next (λ k o lt. all (suc k) o (omega (arith, lt))) x k node kept.0 i (omega (arith, lt)) is,
    )

-- ---- no news

abbrev pub NoNews : Lists → Network → ℕ → Type 0
NoNews lists net c = (x : ℕ) → IsNode lists x → parent lists x ≡ c → (net.heard x).number ≡ recorded_number net c x

-- then the test for news fails
pub without_news : (lists : Lists) (net : Network) (c : ℕ) → NoNews lists net c → has_news lists net c ≡ false
unfolding has_news
without_news lists net c none =
    ap not (child_at lists c (λ x. eqb (net.heard x).number (recorded_number net c x))
    (λ x node up. eq-eqb (net.heard x).number (recorded_number net c x) (none x node up)))

-- if the test for news fails, it has none
pub no_news_at : (lists : Lists) (net : Network) (c : ℕ) → has_news lists net c ≡ false → NoNews lists net c
unfolding has_news
no_news_at lists net c h x node up =
    eqb-true (net.heard x).number (recorded_number net c x)
    (child_from lists c (λ x. eqb (net.heard x).number (recorded_number net c x))
    (not-false (all_children lists c (λ x. eqb (net.heard x).number (recorded_number net c x))) h) x node up)
