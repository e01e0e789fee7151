-- A parent takes a bid of a child: the market's parent learns it only once it goes into a record.
use Rattle.std.proofs.Common.{◌≡◌, sym, ap, subst, ℕ, ◌<◌, true, ltb, inl, inr, length, arith}
use Rattle.std.proofs.lemmas.Bool.{cases_lt, and_parts, ltb-true}
use Rattle.pm_market.specs.Lists.{Lists, IsNode}
use Rattle.pm_market.specs.State.{State, update}
use Rattle.pm_market.specs.Legality.{is_node}
use Rattle.pm_market.proofs.Legality.{is_node_from}
use Rattle.pm_laws.proofs.Facts.{updated_at}
use Rattle.pm_net.specs.Pricing.{Pricing}
use Rattle.pm_net.specs.Messages.{BidMessage, nothing_heard}
use Rattle.pm_net.specs.Network.{Network, sent_bid}
use Rattle.pm_net.specs.Running.{is_new_bid, after_taking_bid}
use Rattle.pm_net.specs.Agrees.{IsItsBid, NetworkAgrees, GoesOn}
use Rattle.pm_net.proofs.Agreeing.{still, with_bids}
use Rattle.pm_net.proofs.Messages.{past}

module _ (lists : Lists) (p : Pricing) (net : Network) (s : State) (agrees : NetworkAgrees lists p net s) (x k : ℕ)
    (new : is_new_bid lists net x (sent_bid p net x k) ≡ true) where
  abbrev bid : BidMessage
  bid = sent_bid p net x k

  parts : (IsNode lists x) × ((net.heard x).number < bid.number)
  unfolding is_new_bid
  parts =
      let both = and_parts (is_node lists x) (ltb (net.heard x).number bid.number) new in
      (is_node_from lists x both.0, ltb-true (net.heard x).number bid.number both.1)

  sent : IsItsBid lists p s x bid
  sent = elim (cases_lt k (length (net.bids_sent x))) [
    | inl lt ↦ agrees.bids_sent x k parts.0 lt
    | inr ge ↦ absurd (omega (arith, parts.1, ap (λ (b : BidMessage). b.number) (past (net.bids_sent x) k (nothing_heard p) ge)))
  ]

  -- after a bid was taken the network stands for the same state
  pub taking_agrees : NetworkAgrees lists p (after_taking_bid net x bid) s
  taking_agrees = with_bids lists p net s agrees net.counts (update net.heard x bid) net.records net.whole_from net.bids_sent s.counts (record {
    sound = agrees.sound;
    counts = agrees.counts;
    heard = λ y node. elim (updated_at net.heard x bid y) [
      | inl w ↦ subst (IsItsBid lists p s y) (sym w.1) (subst (λ (z : ℕ). IsItsBid lists p s z bid) (sym w.0) sent)
      | inr w ↦ subst (IsItsBid lists p s y) (sym w.1) (agrees.heard y node)
    ];
    newest_numbers = agrees.newest_numbers;
    records = agrees.records;
    bids_sent = agrees.bids_sent;
    newest_sent = agrees.newest_sent;
    whole_from = agrees.whole_from;
    caught_up = λ none y node. elim (updated_at net.heard x bid y) [
      | inl w ↦ omega (
        arith,
        agrees.caught_up none y node,
        ap (λ (b : BidMessage). b.number) w.1,
        parts.1,
        ap (λ (z : ℕ). (net.heard z).number) w.0,
      )
      | inr w ↦ omega (arith, agrees.caught_up none y node, ap (λ (b : BidMessage). b.number) w.1)
    ];
    due_through = agrees.due_through;
  })

  -- so taking a bid is no move
  pub taking : GoesOn lists p s (after_taking_bid net x bid)
  taking = still lists p (after_taking_bid net x bid) s taking_agrees
