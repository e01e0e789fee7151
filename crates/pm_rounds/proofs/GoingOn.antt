-- No relay gets stuck in a round.
use Rattle.std.proofs.Common.{◌≡◌, ◌∙◌, sym, ap, ℕ, ◌+◌, ◌<◌, ◌≤◌, true, cond, leb, ◌&&◌, ◌⊎◌, inl}
use Rattle.std.proofs.Common.{inr, length, refl, arith}
use Rattle.std.proofs.lemmas.Bool.{cases_eq, cases_Bool, and_parts, cond-true, cond-false, le-leb, leb-true}
use Rattle.pm_market.specs.Lists.{Lists, is_leaf, IsConcentrator}
use Rattle.pm_market.specs.State.{update}
use Rattle.pm_market.proofs.Cuts.{updated_same, updated_other}
use Rattle.pm_laws.proofs.Facts.{updated_at}
use Rattle.pm_net.specs.Pricing.{Pricing}
use Rattle.pm_net.specs.Messages.{BidMessage, PriceMessage, nothing_heard}
use Rattle.pm_net.specs.Network.{Network, sent_bid, sent_price}
use Rattle.pm_net.specs.Running.{relay_bid, is_new_bid, can_send, can_clear, is_new_price, names_a_bid, waits}
use Rattle.pm_net.specs.Running.{after_taking_bid, after_sending, after_clearing, after_taking_price, after_answer, after_passing, after_relay_price}
use Rattle.pm_net.specs.Restarts.{can_rebuild, after_rebuilding, can_resend, after_resending, can_tell_one, after_telling_one}
use Rattle.pm_net.specs.Events.{Event, network_step, Bids, TakesBid, Sends, Clears, TakesPrice, Restarts, Rebuilds, StopsBidding}
use Rattle.pm_net.specs.Events.{Resends, PassesToOne, StopsClearing, TellsOne}
use Rattle.pm_rounds.specs.Rounds.{IsCarried}
use Rattle.pm_rounds.specs.Sent.{CanGoOn}
use Rattle.pm_net.proofs.Messages.{either, new_sent}
use Rattle.pm_rounds.proofs.Counting.{step_up, step_keeps_bids}

-- ---- no relay gets stuck in a round

-- the number answered never falls
pub answered_up : (lists : Lists) (p : Pricing) (net : Network) (e : Event) → IsCarried lists e → (c : ℕ) →
    net.answered c ≤ (network_step lists p net e).answered c
unfolding names_a_bid
answered_up lists p net (Bids d) carried c = absurd carried
answered_up lists p net (TakesBid x k) carried c =
    either (λ (n : Network). net.answered c ≤ n.answered c) (is_new_bid lists net x (sent_bid p net x k)) (after_taking_bid net x (sent_bid p net x k)) net
    (λ e. omega arith) (λ e. omega arith)
answered_up lists p net (Sends x) carried c =
    either (λ (n : Network). net.answered c ≤ n.answered c) (can_send lists net x) (after_sending p net x) net (λ e. omega arith) (λ e. omega arith)
answered_up lists p net Clears carried c =
    either (λ (n : Network). net.answered c ≤ n.answered c) (can_clear lists net) (after_clearing lists p net) net (λ e. omega arith) (λ e. omega arith)
answered_up lists p net (TakesPrice x k) carried c =
    let On : Network → Type 0 = λ (n : Network). net.answered c ≤ n.answered c in
    let price : PriceMessage = sent_price net x k in
    let up : names_a_bid net x price.number ≡ true → net.answered c ≤ update net.answered x price.number c =
    λ e. elim (updated_at net.answered x price.number c) [
      | inl w ↦ omega (
        arith,
        w.1,
        ap net.answered w.0,
        leb-true (net.answered x) price.number
            (and_parts (leb 1 price.number) (leb (net.answered x) price.number) (and_parts (leb 1 price.number && leb (net.answered x) price.number)
            (leb price.number (net.last_number x)) e).0).1,
      )
      | inr w ↦ omega (arith, w.1)
    ] in
    either On (is_new_price lists net x price) (cond (is_leaf lists x) (after_taking_price net x price) (after_relay_price lists p net x price)) net
    (λ newer. either On (is_leaf lists x) (after_taking_price net x price) (after_relay_price lists p net x price)
    (λ leaf. omega arith)
    (λ inner. either On (names_a_bid net x price.number)
    (cond (leb (net.whole_from x) price.number) (after_passing lists p net x price) (cond (waits lists net x price.number) net (after_answer net x price))) net
    (λ names. either On (leb (net.whole_from x) price.number) (after_passing lists p net x price) (cond (waits lists net x price.number) net
    (after_answer net x price))
    (λ e. up names)
    (λ e. either On (waits lists net x price.number) net (after_answer net x price) (λ e. omega arith) (λ e. up names)))
    (λ e. omega arith)))
    (λ e. omega arith)
answered_up lists p net (Restarts y k) carried c = absurd carried
answered_up lists p net (Rebuilds y) carried c =
    either (λ (n : Network). net.answered c ≤ n.answered c) (can_rebuild lists net y) (after_rebuilding net y) net (λ e. omega arith) (λ e. omega arith)
answered_up lists p net (StopsBidding x) carried c = absurd carried
answered_up lists p net (Resends x) carried c =
    either (λ (n : Network). net.answered c ≤ n.answered c) (can_resend lists net x) (after_resending lists p net x) net (λ e. omega arith)
    (λ e. omega arith)
answered_up lists p net (PassesToOne z k) carried c = absurd carried
answered_up lists p net StopsClearing carried c = absurd carried
answered_up lists p net (TellsOne z) carried c =
    either (λ (n : Network). net.answered c ≤ n.answered c) (can_tell_one lists net z) (after_telling_one p net z) net (λ e. omega arith)
    (λ e. omega arith)

-- a relay makes no bid, or sends the one that it makes
abbrev pub NewestSent : Pricing → Network → ℕ → Type 0
NewestSent p net c = (k : ℕ) × (k < length (net.bids_sent c)) × ((sent_bid p net c k).number ≡ net.last_number c)

-- a carried event makes no bid of a relay, or the bid is sent
pub made_or_same : (lists : Lists) (p : Pricing) (net : Network) (e : Event) → IsCarried lists e → (c : ℕ) → IsConcentrator lists c →
    ((network_step lists p net e).last_number c ≡ net.last_number c) ⊎ NewestSent p (network_step lists p net e) c
made_or_same lists p net (Bids d) carried c conc = absurd carried
made_or_same lists p net (TakesBid x k) carried c conc =
    either (λ (n : Network). (n.last_number c ≡ net.last_number c) ⊎ NewestSent p n c) (is_new_bid lists net x (sent_bid p net x k))
    (after_taking_bid net x (sent_bid p net x k)) net (λ e. inl refl) (λ e. inl refl)
made_or_same lists p net (Sends x) carried c conc =
    either (λ (n : Network). (n.last_number c ≡ net.last_number c) ⊎ NewestSent p n c) (can_send lists net x) (after_sending p net x) net
    (λ e. elim (cases_eq c x) [
      | inl is ↦ inr (new_sent (λ (q : BidMessage). q.number ≡ (after_sending p net x).last_number c) net.bids_sent x (relay_bid p net x)
          (nothing_heard p) c
          is (sym (ap (after_sending p net x).last_number is ∙ updated_same net.last_number x (net.last_number x + 1))))
      | inr ne ↦ inl (updated_other net.last_number x (net.last_number x + 1) c ne)
    ])
    (λ e. inl refl)
made_or_same lists p net Clears carried c conc =
    either (λ (n : Network). (n.last_number c ≡ net.last_number c) ⊎ NewestSent p n c) (can_clear lists net) (after_clearing lists p net) net
    (λ e. inl (updated_other net.last_number 0 (net.last_number 0 + 1) c (λ z. omega (arith, z, conc.0)))) (λ e. inl refl)
made_or_same lists p net (TakesPrice x k) carried c conc =
    let On : Network → Type 0 = λ (n : Network). (n.last_number c ≡ net.last_number c) ⊎ NewestSent p n c in
    Rattle.pm_net.proofs.Steps.hears_each lists p net x k On (inl refl) (inl refl) (inl refl) (inl refl)
made_or_same lists p net (Restarts y k) carried c conc = absurd carried
made_or_same lists p net (Rebuilds y) carried c conc =
    either (λ (n : Network). (n.last_number c ≡ net.last_number c) ⊎ NewestSent p n c) (can_rebuild lists net y) (after_rebuilding net y) net
    (λ e. inl refl) (λ e. inl refl)
made_or_same lists p net (StopsBidding x) carried c conc = absurd carried
made_or_same lists p net (Resends x) carried c conc =
    either (λ (n : Network). (n.last_number c ≡ net.last_number c) ⊎ NewestSent p n c) (can_resend lists net x) (after_resending lists p net x) net
    (λ e. inl refl) (λ e. inl refl)
made_or_same lists p net (PassesToOne z k) carried c conc = absurd carried
made_or_same lists p net StopsClearing carried c conc = absurd carried
made_or_same lists p net (TellsOne z) carried c conc =
    either (λ (n : Network). (n.last_number c ≡ net.last_number c) ⊎ NewestSent p n c) (can_tell_one lists net z) (after_telling_one p net z) net
    (λ e. inl refl) (λ e. inl refl)

-- a carried event leaves each relay able to go on
pub can_go_on : (lists : Lists) (p : Pricing) (net : Network) (e : Event) → IsCarried lists e → CanGoOn lists p net →
    CanGoOn lists p (network_step lists p net e)
can_go_on lists p net e carried can c conc =
    let next : Network = network_step lists p net e in
    elim (made_or_same lists p net e carried c conc) [
      | inr sent ↦ inl sent
      | inl same ↦ elim (can c conc) [
        | inl sent ↦
            let kept = step_keeps_bids lists p net e carried c sent.0 sent.1 in
            inl (sent.0, kept.0, ap (λ (b : BidMessage). b.number) kept.1 ∙ sent.2 ∙ sym same)
        | inr rest ↦ elim rest [
          | inr room ↦ inr (inr (omega (arith, same, room, answered_up lists p net e carried c)))
          | inl whole ↦ elim (cases_Bool (leb (next.whole_from c) (next.last_number c))) [
            | inl w ↦ inr (inl (leb-true (next.whole_from c) (next.last_number c) w))
            | inr w ↦ absurd (omega (
              arith,
              (step_up lists p net e carried).whole c,
              cond-false {A = ℕ} (leb (next.whole_from c) (next.last_number c)) 1 0 w,
              cond-true {A = ℕ} (leb (net.whole_from c) (net.last_number c)) 1 0 (le-leb (net.whole_from c) (net.last_number c) whole),
            ))
          ]
        ]
      ]
    ]
