-- What happens elsewhere leaves the network's part of a node as it was.
use Rattle.std.proofs.Common.{◌≡◌, ◌∙◌, sym, ap, ℕ, ◌+◌, cond, eqb, leb, refl}
use Rattle.std.proofs.lemmas.Bool.{cond-false, ne_eqb}
use Rattle.pm_market.specs.Lists.{Lists, parent, is_leaf, IsNode}
use Rattle.pm_market.specs.State.{update}
use Rattle.pm_market.proofs.Cuts.{updated_other}
use Rattle.pm_net.specs.Pricing.{Pricing}
use Rattle.pm_net.specs.Messages.{BidMessage, PriceMessage, nothing_heard}
use Rattle.pm_net.specs.Network.{Network, sent_bid, sent_price}
use Rattle.pm_net.specs.Running.{after_bidding, is_new_bid, after_taking_bid, can_send, after_sending, can_clear, after_clearing}
use Rattle.pm_net.specs.Running.{after_given_price, after_relay_price, after_taking_price, after_answer, after_passing, is_new_price}
use Rattle.pm_net.specs.Running.{names_a_bid, waits}
use Rattle.pm_net.specs.Restarts.{can_rebuild, after_rebuilding, device_stopped, relay_stopped, auctioneer_stopped}
use Rattle.pm_net.specs.Restarts.{can_pass_to_one, after_passing_to_one, can_resend, after_resending, can_tell_one, after_telling_one, records_left}
use Rattle.pm_net.specs.Restarts.{stored_price}
use Rattle.pm_net.specs.Events.{Event, may_bid, network_step, Bids, TakesBid, Sends, Clears, TakesPrice, Restarts, Rebuilds, StopsBidding}
use Rattle.pm_net.specs.Events.{Resends, PassesToOne, StopsClearing, TellsOne}
use Rattle.pm_net.proofs.Messages.{either}
use Rattle.pm_relay_net.specs.Elsewhere.{IsElsewhere}

-- two networks that have the same of node c
pub record SameNode (lists : Lists) (c : ℕ) (net net' : Network) : Type 0 where
  -- what was heard of its children
  pub heard : (x : ℕ) → IsNode lists x → parent lists x ≡ c → net.heard x ≡ net'.heard x
  pub last_number : net.last_number c ≡ net'.last_number c
  -- its records
  pub records : net.records c ≡ net'.records c
  pub whole_from : net.whole_from c ≡ net'.whole_from c
  -- the number answered
  pub answered : net.answered c ≡ net'.answered c
  pub taken : net.taken c ≡ net'.taken c

-- one after the other
pub same_then : (lists : Lists) (c : ℕ) (a b d : Network) → SameNode lists c a b → SameNode lists c b d → SameNode lists c a d
same_then lists c a b d first then = record {
  heard = λ x node up. first.heard x node up ∙ then.heard x node up;
  last_number = first.last_number ∙ then.last_number;
  records = first.records ∙ then.records;
  whole_from = first.whole_from ∙ then.whole_from;
  answered = first.answered ∙ then.answered;
  taken = first.taken ∙ then.taken;
}

module _ (lists : Lists) (p : Pricing) (net : Network) (c : ℕ) where
  abbrev Is : Network → Type 0
  Is w = SameNode lists c net w

  was : Is net
  was = record {
    heard = λ x node up. refl;
    last_number = refl;
    records = refl;
    whole_from = refl;
    answered = refl;
    taken = refl;
  }

  -- the parts of a network that a node does not read
  quiet : (net' : Network) → net.heard ≡ net'.heard → net.last_number ≡ net'.last_number → net.records ≡ net'.records →
      net.whole_from ≡ net'.whole_from → net.answered ≡ net'.answered → net.taken ≡ net'.taken → Is net'
  quiet net' heard last records whole answered taken = record {
    heard = λ x node up. ap (λ (f : ℕ → BidMessage). f x) heard;
    last_number = ap (λ (f : ℕ → ℕ). f c) last;
    records = ap (λ (f : ℕ → ℕ → ℕ → BidMessage). f c) records;
    whole_from = ap (λ (f : ℕ → ℕ). f c) whole;
    answered = ap (λ (f : ℕ → ℕ). f c) answered;
    taken = ap (λ (f : ℕ → PriceMessage). f c) taken;
  }

  -- another node makes its next bid or clearing
  other_record : (y : ℕ) → (y ≡ c → ⊥) → (net' : Network) → net.heard ≡ net'.heard →
      update net.last_number y (net.last_number y + 1) ≡ net'.last_number →
      update net.records y (update (net.records y) (net.last_number y + 1) net.heard) ≡ net'.records →
      net.whole_from ≡ net'.whole_from → net.answered ≡ net'.answered → net.taken ≡ net'.taken → Is net'
  other_record y ne net' heard last records whole answered taken = record {
    heard = λ x node up. ap (λ (f : ℕ → BidMessage). f x) heard;
    last_number = sym (updated_other net.last_number y (net.last_number y + 1) c (λ e. ne (sym e))) ∙ ap (λ (f : ℕ → ℕ). f c) last;
    records = sym (updated_other net.records y (update (net.records y) (net.last_number y + 1) net.heard) c (λ e. ne (sym e)))
        ∙ ap (λ (f : ℕ → ℕ → ℕ → BidMessage). f c) records;
    whole_from = ap (λ (f : ℕ → ℕ). f c) whole;
    answered = ap (λ (f : ℕ → ℕ). f c) answered;
    taken = ap (λ (f : ℕ → PriceMessage). f c) taken;
  }

  -- another node answers a price
  answers : (x : ℕ) (price : PriceMessage) → (x ≡ c → ⊥) → Is (after_answer net x price)
  answers x price ne = record {
    heard = λ y node up. refl;
    last_number = refl;
    records = refl;
    whole_from = refl;
    answered = sym (updated_other net.answered x price.number c (λ e. ne (sym e)));
    taken = sym (updated_other net.taken x price c (λ e. ne (sym e)));
  }

  takes : (x : ℕ) (price : PriceMessage) → (x ≡ c → ⊥) → Is (after_given_price lists p net x price)
  takes x price ne =
      either Is (is_new_price lists net x price) (cond (is_leaf lists x) (after_taking_price net x price) (after_relay_price lists p net x price)) net
      (λ e. either Is (is_leaf lists x) (after_taking_price net x price) (after_relay_price lists p net x price)
      (λ e. record {
        heard = λ y node up. refl;
        last_number = refl;
        records = refl;
        whole_from = refl;
        answered = refl;
        taken = sym (updated_other net.taken x price c (λ e. ne (sym e)));
      })
      (λ e. either Is (names_a_bid net x price.number) (cond (leb (net.whole_from x) price.number)
      (after_passing lists p net x price) (cond (waits lists net x price.number) net (after_answer net x price))) net
      (λ e. either Is (leb (net.whole_from x) price.number) (after_passing lists p net x price)
      (cond (waits lists net x price.number) net (after_answer net x price))
      (λ e. passes)
      (λ e. either Is (waits lists net x price.number) net (after_answer net x price) (λ e. was) (λ e. answers x price ne)))
      (λ e. was)))
      (λ e. was)
    where
      passes : Is (after_passing lists p net x price)
      passes = record {
        heard = λ y node up. refl;
        last_number = refl;
        records = refl;
        whole_from = refl;
        answered = sym (updated_other net.answered x price.number c (λ e. ne (sym e)));
        taken = sym (updated_other net.taken x price c (λ e. ne (sym e)));
      }

  -- whatever happens elsewhere leaves the network's part of c as it was
  pub same_elsewhere : (e : Event) → IsElsewhere lists c e → Is (network_step lists p net e)
  same_elsewhere (Bids d) ne = either Is (may_bid lists net d) (after_bidding lists p net d) net
      (λ e. quiet (after_bidding lists p net d) refl refl refl refl refl refl) (λ e. was)
  same_elsewhere (TakesBid x k) ne = either Is (is_new_bid lists net x (sent_bid p net x k)) (after_taking_bid net x (sent_bid p net x k)) net
      (λ e. record {
        heard = λ y node up. sym (updated_other net.heard x (sent_bid p net x k) y (λ at. ne (ap (parent lists) (sym at) ∙ up)));
        last_number = refl;
        records = refl;
        whole_from = refl;
        answered = refl;
        taken = refl;
      }) (λ e. was)
  same_elsewhere (Sends y) ne = either Is (can_send lists net y) (after_sending p net y) net
      (λ e. other_record y ne (after_sending p net y) refl refl refl refl refl refl) (λ e. was)
  same_elsewhere Clears ne = either Is (can_clear lists net) (after_clearing lists p net) net
      (λ e. other_record 0 (λ e. ne (sym e)) (after_clearing lists p net) refl refl refl refl refl refl) (λ e. was)
  same_elsewhere (TakesPrice x k) ne = takes x (sent_price net x k) ne
  same_elsewhere (Restarts y k) ne = record {
    heard = λ x node up. sym (cond-false (eqb (parent lists x) y) (nothing_heard p) (net.heard x) (ne_eqb (parent lists x) y (λ at. ne (sym at ∙ up))));
    last_number = refl;
    records = sym (updated_other net.records y (records_left net y) c (λ e. ne (sym e)));
    whole_from = sym (updated_other net.whole_from y (net.last_number y + 1) c (λ e. ne (sym e)));
    answered = sym (updated_other net.answered y (stored_price net y k).number c (λ e. ne (sym e)));
    taken = sym (updated_other net.taken y (stored_price net y k) c (λ e. ne (sym e)));
  }
  same_elsewhere (Rebuilds y) ne = either Is (can_rebuild lists net y) (after_rebuilding net y) net
      (λ e. record {
        heard = λ x node up. refl;
        last_number = refl;
        records = sym (updated_other net.records y (update (net.records y) (net.last_number y) net.heard) c (λ e. ne (sym e)));
        whole_from = sym (updated_other net.whole_from y (net.last_number y) c (λ e. ne (sym e)));
        answered = refl;
        taken = refl;
      }) (λ e. was)
  same_elsewhere (StopsBidding x) ne =
      either Is (may_bid lists net x) (device_stopped net x) (cond (can_send lists net x) (relay_stopped net x) net)
      (λ e. quiet (device_stopped net x) refl refl refl refl refl refl)
      (λ e. either Is (can_send lists net x) (relay_stopped net x) net
      (λ e. other_record x ne (relay_stopped net x) refl refl refl refl refl refl) (λ e. was))
  same_elsewhere (Resends x) ne = either Is (can_resend lists net x) (after_resending lists p net x) net
      (λ e. quiet (after_resending lists p net x) refl refl refl refl refl refl) (λ e. was)
  same_elsewhere (PassesToOne z k) ne =
      either Is (can_pass_to_one lists net z (sent_price net (parent lists z) k)) (after_passing_to_one lists p net z (sent_price net (parent lists z) k)) net
      (λ e. quiet (after_passing_to_one lists p net z (sent_price net (parent lists z) k)) refl refl refl refl refl refl) (λ e. was)
  same_elsewhere StopsClearing ne = either Is (can_clear lists net) (auctioneer_stopped net) net
      (λ e. other_record 0 (λ e. ne (sym e)) (auctioneer_stopped net) refl refl refl refl refl refl) (λ e. was)
  same_elsewhere (TellsOne z) ne = either Is (can_tell_one lists net z) (after_telling_one p net z) net
      (λ e. quiet (after_telling_one p net z) refl refl refl refl refl refl) (λ e. was)
