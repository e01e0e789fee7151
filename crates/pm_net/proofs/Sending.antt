-- A relay sends: the market's concentrator learns what the relay heard, and publishes.
use Rattle.std.proofs.Common.{◌≡◌, ◌∙◌, sym, ap, ℕ, ◌+◌, ◌-◌, ◌<◌, Bool, true, false, not, eqb, ltb, ◌&&◌, inl, inr}
use Rattle.std.proofs.Common.{length, get_or, arith}
use Rattle.std.proofs.lemmas.Bool.{cases_eq, and_parts, ltb-true, not-true, eq-eqb, ne_eqb}
use Rattle.pm_base.specs.Cuts.{Cut}
use Rattle.pm_base.specs.Limits.{window_size}
use Rattle.pm_bid.specs.Taken.{announced}
use Rattle.pm_market.specs.Lists.{Lists, parent, is_leaf, IsNode, IsInner, IsConcentrator, Lawful}
use Rattle.pm_market.specs.State.{State, is_same_on, cut_at, newest_number_of, part, knowledge, last_index}
use Rattle.pm_market.specs.Legality.{is_node}
use Rattle.pm_market.specs.Moves.{Legal}
use Rattle.pm_market.specs.Sound.{Sound}
use Rattle.pm_market.specs.declared.moves.Move.TheVariants.{Publish}
use Rattle.pm_market.proofs.Cuts.{newest_inner, part_inner}
use Rattle.pm_market.proofs.Legality.{is_node_from}
use Rattle.pm_laws.specs.Added.{HasAdded}
use Rattle.pm_laws.specs.Due.{is_due}
use Rattle.pm_laws.proofs.Kept.{sound_step}
use Rattle.pm_laws.proofs.MoveLaws.{publishing, due_published}
use Rattle.pm_net.specs.Pricing.{Pricing, GoesByNodes}
use Rattle.pm_net.specs.Messages.{BidMessage, bid_message, nothing_heard, numbers_of}
use Rattle.pm_net.specs.Network.{Network}
use Rattle.pm_net.specs.Running.{is_caught_up, has_news, can_send, relay_bid, heard_sum, after_sending}
use Rattle.pm_laws.specs.Gone.{is_gone}
use Rattle.pm_net.specs.Agrees.{IsItsBid, NetworkAgrees, GoesOn}
use Rattle.pm_net.proofs.Messages.{each_sent, some_sent, new_sent}
use Rattle.pm_laws.proofs.Gone.{gone_inner}
use Rattle.pm_net.proofs.Learns.{all_learnt, learning, learnt_sound, is_learnt, not_learnt, learns_and_moves}
use Rattle.pm_net.proofs.News.{caught_from}
use Rattle.pm_net.proofs.Answered.{answered_within}
use Rattle.pm_net.proofs.Adding as adding

module _ (lists : Lists) (law : Lawful lists) (p : Pricing) (by : GoesByNodes lists p) (net : Network) (s : State) (agrees : NetworkAgrees lists p net s)
    (c : ℕ)
    (may : can_send lists net c ≡ true) where
  parts : IsConcentrator lists c × (is_caught_up lists net c ≡ true) × (has_news lists net c ≡ true) × (net.last_number c - net.answered c < window_size)
  unfolding can_send
  parts =
      let a = and_parts (is_node lists c && not (is_leaf lists c) && is_caught_up lists net c && has_news lists net c) (ltb
      (net.last_number c - net.answered c) window_size) may in
      let b = and_parts (is_node lists c && not (is_leaf lists c) && is_caught_up lists net c) (has_news lists net c) a.0 in
      let d = and_parts (is_node lists c && not (is_leaf lists c)) (is_caught_up lists net c) b.0 in
      let e = and_parts (is_node lists c) (not (is_leaf lists c)) d.0 in
      let node = is_node_from lists c e.0 in
      ((node.0, node.1, not-true (is_leaf lists c) e.1), d.1, b.1, ltb-true (net.last_number c - net.answered c) window_size a.1)

  conc : IsConcentrator lists c
  conc = parts.0

  inner : IsInner lists c
  inner = conc.2

  -- what is learnt
  abbrev test : ℕ → Bool
  test x = eqb (parent lists x) c

  abbrev l : ℕ → ℕ
  l = all_learnt lists p net s agrees test

  here : (x : ℕ) → IsNode lists x → parent lists x ≡ c → l x ≡ (net.heard x).number
  here x node up = is_learnt lists p net s agrees test x node (eq-eqb (parent lists x) c up) (caught_from lists law p net s agrees c parts.1 x node up)

  there : (x : ℕ) → IsNode lists x → (parent lists x ≡ c → ⊥) → l x ≡ s.learnt x
  there x node ne = not_learnt lists p net s agrees test x (ne_eqb (parent lists x) c ne)

  abbrev knows : State
  knows = adding.knowing s l

  sound : Sound lists knows
  sound = learnt_sound lists p net s agrees test law

  -- what is published
  abbrev n : ℕ
  n = net.last_number c + 1

  abbrev next : State
  next = adding.adding lists s l c

  legal : Legal lists knows (Publish c n)
  legal =
      let is_newest : newest_number_of lists s c ≡ length (s.published c) = newest_inner lists s.counts s.published c inner in
      let its_part : part lists s c (newest_number_of lists s c) ≡ cut_at (s.published c) (length (s.published c)) =
      ap (part lists s c) is_newest ∙ part_inner lists s.published c (length (s.published c)) inner in (
        conc,
        ap (λ (cut : Cut). is_same_on lists c (knowledge lists knows c) cut) its_part
            ∙ adding.differs lists law p by net s agrees c inner l sound here parts.2,
        omega (arith, parts.3, is_newest, agrees.last_number c inner, answered_within lists law p net s agrees c conc),
        omega (arith, is_newest, agrees.last_number c inner),
      )

  has : HasAdded lists knows next c
  has = publishing lists knows c n law sound legal

  -- the bid that is sent
  number_is : n ≡ newest_number_of lists s c + 1
  number_is = omega (arith, newest_inner lists s.counts s.published c inner, agrees.last_number c inner)

  new_bid : IsItsBid lists p next c (relay_bid p net c)
  new_bid =
      let gone : is_gone lists c n ≡ false = gone_inner lists c n inner ∙ ne_eqb n 0 (λ e. omega arith) in
      let its_part : part lists next c n ≡ knowledge lists knows c = ap (part lists next c) number_is ∙ has.part_added in
      let demand : announced (p.limits c (numbers_of net.heard)) (heard_sum p net c) ≡ p.offer c (part lists next c n) =
      ap (λ v. announced v (heard_sum p net c)) (adding.limits_are lists law p by net s agrees c inner l sound here)
      ∙ ap (announced (p.limits c (knowledge lists knows c))) (adding.sum_is lists law p by net s agrees c inner l sound here)
      ∙ sym (by.relay c (knowledge lists knows c) conc) ∙ ap (p.offer c) (sym its_part) in (
        omega (arith, number_is, has.newest_added),
        ap (λ g. bid_message n g (announced (p.limits c (numbers_of net.heard)) (heard_sum p net c))) (sym gone)
            ∙ ap (bid_message n (is_gone lists c n)) demand,
      )

  kept_bid : (x : ℕ) (bid : BidMessage) → IsItsBid lists p s x bid → IsItsBid lists p next x bid
  kept_bid = adding.its_bid lists law p by net s agrees c inner l sound here there has

  due_same : (x j : ℕ) → is_due lists next x j ≡ is_due lists s x j
  due_same x j = due_published lists knows c n x j conc

  agrees_after : NetworkAgrees lists p (after_sending p net c) next
  agrees_after = record {
    sound = sound_step lists law knows sound (Publish c n) legal;
    closed = agrees.closed;
    counts = agrees.counts;
    heard = adding.heard_kept lists law p by net s agrees c inner l sound here there has;
    learnt = adding.learnt_is lists law p by net s agrees c inner l sound here there has;
    last_number = adding.sent_is lists law p by net s agrees c inner l sound here there has;
    newest_numbers = adding.newest_numbers_are lists law p by net s agrees c inner l sound here there has;
    records = adding.records_are lists law p by net s agrees c inner l sound here there has;
    answered = agrees.answered;
    index = agrees.index;
    device_index = agrees.device_index;
    taken = adding.taken_is lists law p by net s agrees c inner l sound here there has (λ z j due. due_same z j ∙ due);
    full = λ y j y_conc due le. agrees.full y j y_conc (sym (due_same y j) ∙ due) le;
    last_sent = agrees.last_sent;
    bids_sent = λ x k node. each_sent (IsItsBid lists p next) net.bids_sent c (relay_bid p net c) (nothing_heard p) new_bid x
        (λ i below. kept_bid x (get_or (net.bids_sent x) i (nothing_heard p)) (agrees.bids_sent x i node below)) k;
    prices_sent = λ x k node lt. adding.its_price lists law p by net s agrees c inner l sound here there has (λ z j due. due_same z j
        ∙ due) x node _ (agrees.prices_sent x k node lt);
    newest_sent = λ none x node some. elim (cases_eq x c) [
      | inl e ↦ new_sent (λ (b : BidMessage). b.number ≡ newest_number_of lists next x) net.bids_sent c (relay_bid p net c) (nothing_heard p) x e
          (number_is ∙ sym (ap (newest_number_of lists next) e ∙ has.newest_added))
      | inr ne ↦
          let same : newest_number_of lists next x ≡ newest_number_of lists s x = has.newest_kept x ne in
          let old = agrees.newest_sent none x node (omega (arith, some, same)) in
          some_sent (λ (b : BidMessage). b.number ≡ newest_number_of lists next x) net.bids_sent c (relay_bid p net c) (nothing_heard p) x
          (old.0, old.1, old.2 ∙ sym same)
    ];
    whole_from = agrees.whole_from;
    caught_up = adding.caught_up_is lists law p by net s agrees c inner l sound here there has;
    due_root = λ none x j node up due. agrees.due_root none x j node up (sym (due_same x j) ∙ due);
    due_through = λ x node p_conc at through all due.
        let was = adding.through_is lists law p by net s agrees c inner l sound here there has x node p_conc through all in
        agrees.due_through x node p_conc at was.0 was.1 (sym (due_same x (last_index s (parent lists x))) ∙ due);
  }

  -- a bid that a relay sends: the Learns of what it heard, and a Publish
  pub sending : GoesOn lists p s (after_sending p net c)
  sending = learns_and_moves lists p s l (learning lists p net s agrees test) (Publish c n) legal (after_sending p net c) agrees_after
