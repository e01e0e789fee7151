-- A device makes its next change and sends its bid.
use Rattle.std.proofs.Common.{◌≡◌, ◌∙◌, sym, ap, ℕ, ◌+◌, ◌<◌, ◌≤◌, true, ltb, ◌&&◌, inl, inr, [], ◌∷◌}
use Rattle.std.proofs.Common.{◌++◌, arith}
use Rattle.std.proofs.lemmas.Bool.{cases_eq, cases_Bool, and_parts, ltb-true}
use Rattle.pm_market.specs.Lists.{Lists, phases, is_leaf, changes, IsNode, IsLeaf, Lawful, end_count}
use Rattle.pm_market.specs.State.{State, update, newest_number_of, part}
use Rattle.pm_market.specs.Moves.{Legal}
use Rattle.pm_market.specs.declared.moves.Move.TheVariants.{Change}
use Rattle.pm_market.proofs.Cuts.{updated_same, updated_other, newest_leaf, newest_inner, part_leaf}
use Rattle.pm_laws.proofs.Facts.{updated_at}
use Rattle.pm_laws.proofs.Kept.{sound_step}
use Rattle.pm_net.specs.Pricing.{Pricing, GoesByNodes}
use Rattle.pm_net.specs.Messages.{BidMessage, bid_message, nothing_heard}
use Rattle.pm_net.specs.Network.{Network}
use Rattle.pm_net.specs.Running.{device_bid, after_bidding}
use Rattle.pm_laws.specs.Gone.{is_gone}
use Rattle.pm_net.specs.Agrees.{IsItsBid, NetworkAgrees, GoesOn}
use Rattle.pm_net.proofs.Agreeing.{with_bids}
use Rattle.pm_net.proofs.Messages.{updated_alike, each_sent, some_sent, new_sent}
use Rattle.pm_laws.proofs.Gone.{gone_leaf}

module _ (lists : Lists) (law : Lawful lists) (one_phase : phases lists ≡ 1) (p : Pricing) (by : GoesByNodes lists p) (net : Network) (s : State)
    (agrees : NetworkAgrees lists p net s) (d : ℕ) (may : (is_leaf lists d && ltb (net.counts d) (changes lists d)) ≡ true) where
  leaf : IsLeaf lists d
  leaf = (and_parts (is_leaf lists d) (ltb (net.counts d) (changes lists d)) may).0

  abbrev n : ℕ
  n = net.counts d + 1

  abbrev next : State
  next = record s { counts = update s.counts d n }

  abbrev next_net : Network
  next_net = after_bidding lists p net d

  legal : Legal lists s (Change d n)
  legal =
      let more : net.counts d < changes lists d = ltb-true (net.counts d) (changes lists d) (and_parts (is_leaf lists d) (ltb (net.counts d)
      (changes lists d)) may).1 in
      let last : s.closed + 1 ≡ phases lists = omega (arith, agrees.closed, one_phase) in (
        leaf,
        omega (arith, agrees.closed, one_phase),
        omega (arith, agrees.counts d leaf),
        omega (arith, more, ap (λ (q : ℕ). end_count lists q d) last, law.ends_last d leaf),
      )

  rises : (x : ℕ) → newest_number_of lists s x ≤ newest_number_of lists next x
  rises x = elim (cases_Bool (is_leaf lists x)) [
    | inl e ↦ elim (updated_at s.counts d n x) [
      | inl w ↦ omega (
        arith,
        w.1,
        ap s.counts w.0,
        agrees.counts d leaf,
        newest_leaf lists s.counts s.published x e,
        newest_leaf lists (update s.counts d n) s.published x e,
      )
      | inr w ↦ omega (arith, w.1, newest_leaf lists s.counts s.published x e, newest_leaf lists (update s.counts d n) s.published x e)
    ]
    | inr e ↦ omega (arith, newest_inner lists s.counts s.published x e, newest_inner lists (update s.counts d n) s.published x e)
  ]

  stays : (x : ℕ) → IsNode lists x → (x ≡ d → ⊥) → newest_number_of lists next x ≡ newest_number_of lists s x
  stays x node ne = elim (cases_Bool (is_leaf lists x)) [
    | inl e ↦ newest_leaf lists (update s.counts d n) s.published x e ∙ updated_other s.counts d n x ne
        ∙ sym (newest_leaf lists s.counts s.published x e)
    | inr e ↦ newest_inner lists (update s.counts d n) s.published x e ∙ sym (newest_inner lists s.counts s.published x e)
  ]

  its_bid : (x : ℕ) (bid : BidMessage) → IsItsBid lists p s x bid → IsItsBid lists p next x bid
  its_bid x bid at = (omega (arith, at.0, rises x), at.1)

  newest_is : newest_number_of lists next d ≡ n
  newest_is = newest_leaf lists (update s.counts d n) s.published d leaf ∙ updated_same s.counts d n

  new_bid : IsItsBid lists p next d (device_bid lists p d n)
  new_bid = (
    omega (arith, newest_is),
    ap (λ g. bid_message n g (p.demand d n)) (sym (gone_leaf lists d n leaf))
        ∙ ap (bid_message n (is_gone lists d n)) (
        sym (by.device d (part lists next d n) leaf ∙ ap (p.demand d) (part_leaf lists s.published d n d leaf))),
  )

  agrees_after : NetworkAgrees lists p next_net next
  agrees_after = with_bids lists p net s agrees (update net.counts d n) net.heard net.records net.whole_from
      (update net.bids_sent d (net.bids_sent d ++ device_bid lists p d n ∷ [])) (update s.counts d n) (record {
        sound = sound_step lists law s agrees.sound (Change d n) legal;
        counts = λ e e_leaf. updated_alike net.counts s.counts d n e (agrees.counts e e_leaf);
        heard = λ x node. its_bid x (net.heard x) (agrees.heard x node);
        newest_numbers = agrees.newest_numbers;
        records = agrees.records;
        bids_sent = λ x k node. each_sent (IsItsBid lists p next) net.bids_sent d (device_bid lists p d n) (nothing_heard p) new_bid x
            (λ i lt. its_bid x _ (agrees.bids_sent x i node lt)) k;
        newest_sent = λ none x node some. elim (cases_eq x d) [
          | inl e ↦ new_sent (λ (b : BidMessage). b.number ≡ newest_number_of lists next x) net.bids_sent d (device_bid lists p d n)
              (nothing_heard p) x e
              (sym (ap (newest_number_of lists next) e ∙ newest_is))
          | inr ne ↦
              let old = agrees.newest_sent none x node (omega (arith, some, stays x node ne)) in
              some_sent (λ (b : BidMessage). b.number ≡ newest_number_of lists next x) net.bids_sent d (device_bid lists p d n) (nothing_heard p) x
              (old.0, old.1, old.2 ∙ sym (stays x node ne))
        ];
        whole_from = agrees.whole_from;
        caught_up = agrees.caught_up;
        due_through = λ x node p_conc at through all due. agrees.due_through x node p_conc at through (λ z z_node up. elim (cases_eq z d) [
          | inl e ↦ absurd (omega (
            arith,
            all z z_node up,
            agrees.sound.learnt_within z z_node,
            ap (newest_number_of lists s) e,
            ap (newest_number_of lists next) e,
            newest_is,
            newest_leaf lists s.counts s.published d leaf,
            agrees.counts d leaf,
          ))
          | inr ne ↦ all z z_node up ∙ stays z z_node ne
        ]) due;
      })

  -- a bid of a device is a Change
  pub bidding : GoesOn lists p s next_net
  bidding = record { moves = Change d n ∷ []; legal = (legal, tt); agrees = agrees_after }
