-- The auctioneer clears: the market's auctioneer learns what it heard, and clears.
use Rattle.std.proofs.Common.{◌≡◌, ◌∙◌, sym, ap, ℕ, ◌+◌, ◌≤◌, Bool, true, false, not, eqb, inl, inr}
use Rattle.std.proofs.Common.{arith}
use Rattle.std.proofs.lemmas.Bool.{and_parts, eq-eqb, ne_eqb}
use Rattle.pm_base.specs.Cuts.{Cut}
use Rattle.pm_bid.specs.Clearing.{clearing_step}
use Rattle.pm_market.specs.Lists.{Lists, parent, IsNode, IsInner, Lawful}
use Rattle.pm_laws.proofs.Facts.{last_within}
use Rattle.pm_market.specs.State.{State, knowledge, number, last_index, clearings, cleared_cut, addresses, addresses_of, newest_number_of}
use Rattle.pm_market.specs.Moves.{Legal}
use Rattle.pm_market.specs.Sound.{Sound}
use Rattle.pm_market.specs.declared.moves.Move.TheVariants.{Clear}
use Rattle.pm_market.proofs.Tree.{leaf_zero}
use Rattle.pm_market.proofs.Cuts.{pushed_length_same}
use Rattle.pm_laws.specs.Added.{HasAdded}
use Rattle.pm_laws.specs.Due.{is_due}
use Rattle.pm_laws.proofs.Kept.{sound_step}
use Rattle.pm_laws.proofs.MoveLaws.{clearing, due_cleared}
use Rattle.pm_net.specs.Pricing.{Pricing, GoesByNodes}
use Rattle.pm_net.specs.Messages.{BidMessage, PriceMessage, price_message}
use Rattle.pm_net.specs.Network.{Network}
use Rattle.pm_net.specs.Running.{is_caught_up, has_news, can_clear, heard_sum, after_clearing}
use Rattle.pm_net.specs.Restarts.{auctioneer_stopped, with_restart}
use Rattle.pm_net.proofs.Agreeing.{with_prices}
use Rattle.pm_laws.specs.Gone.{is_gone}
use Rattle.pm_net.specs.Agrees.{price_of_clearing, IsItsPrice, NetworkAgrees, GoesOn}
use Rattle.pm_net.proofs.Breaks.{broken, none_before}
use Rattle.pm_net.proofs.Down.{down_each, down_old, down_new}
use Rattle.pm_laws.proofs.Gone.{gone_addresses}
use Rattle.pm_net.proofs.Gone.{not_flips}
use Rattle.pm_net.proofs.Learns.{all_learnt, learning, learnt_sound, is_learnt, not_learnt, learns_and_moves}
use Rattle.pm_net.proofs.News.{caught_from}
use Rattle.pm_net.proofs.Adding as adding

module _ (lists : Lists) (law : Lawful lists) (p : Pricing) (by : GoesByNodes lists p) (net : Network) (s : State) (agrees : NetworkAgrees lists p net s)
    (may : can_clear lists net ≡ true) where
  parts : (is_caught_up lists net 0 ≡ true) × (has_news lists net 0 ≡ true)
  unfolding can_clear
  parts = and_parts (is_caught_up lists net 0) (has_news lists net 0) may

  inner : IsInner lists 0
  inner = leaf_zero lists

  abbrev test : ℕ → Bool
  test x = eqb (parent lists x) 0

  abbrev l : ℕ → ℕ
  l = all_learnt lists p net s agrees test

  here : (x : ℕ) → IsNode lists x → parent lists x ≡ 0 → l x ≡ (net.heard x).number
  here x node up = is_learnt lists p net s agrees test x node (eq-eqb (parent lists x) 0 up) (caught_from lists law p net s agrees 0 parts.0 x node up)

  there : (x : ℕ) → IsNode lists x → (parent lists x ≡ 0 → ⊥) → l x ≡ s.learnt x
  there x node ne = not_learnt lists p net s agrees test x (ne_eqb (parent lists x) 0 ne)

  abbrev knows : State
  knows = adding.knowing s l

  sound : Sound lists knows
  sound = learnt_sound lists p net s agrees test law

  abbrev j : ℕ
  j = net.last_number 0 + 1

  abbrev next : State
  next = adding.adding lists s l 0

  index_is : j ≡ clearings s + 1
  index_is = omega (arith, agrees.last_number 0 inner)

  legal : Legal lists knows (Clear j)
  legal = (adding.differs lists law p by net s agrees 0 inner l sound here parts.1, index_is)

  sound_next : Sound lists next
  sound_next = sound_step lists law knows sound (Clear j) legal

  has : HasAdded lists knows next 0
  has = clearing lists knows j law sound legal

  cut_is : cleared_cut next j ≡ knowledge lists knows 0
  cut_is = ap (λ (k : ℕ). cleared_cut next k) index_is ∙ has.added

  within : j ≤ clearings next
  within = omega (arith, index_is, pushed_length_same s.published 0 (knowledge lists knows 0))

  abbrev the_step : ℕ
  the_step = clearing_step (heard_sum p net 0)

  -- of a child of the auctioneer
  module _ (x : ℕ) (node : IsNode lists x) (up : parent lists x ≡ 0) where
    number_is : (net.heard x).number ≡ number lists next x (cleared_cut next j)
    number_is = sym (ap (λ (k : ℕ). number lists next x (cleared_cut next k)) index_is ∙ has.number_added x node up ∙ here x node up)

    gone_is : (net.heard x).gone ≡ not (addresses lists next j x)
    gone_is =
        ap (λ (b : BidMessage). b.gone) (agrees.heard x node).1 ∙ ap (is_gone lists x) number_is
        ∙ gone_addresses lists law next sound_next x j node within

    step_is : the_step ≡ p.local (cleared_cut next j) x
    step_is =
        ap clearing_step (adding.sum_is lists law p by net s agrees 0 inner l sound here)
        ∙ sym (by.root x (knowledge lists knows 0) node up) ∙ ap (λ (cut : Cut). p.local cut x) (sym cut_is)

    price_is : price_message (net.heard x).number j the_step ≡ price_of_clearing lists p next x j
    price_is = ap (λ (k : ℕ). price_message k j the_step) number_is ∙ ap (price_message (number lists next x (cleared_cut next j)) j) step_is

    due_is : addresses lists next j x ≡ true → is_due lists next x j ≡ true
    due_is e = (due_cleared lists knows j x j law sound legal).1 (inr (up, index_is, ap (λ (cut : Cut). addresses_of lists cut x) (sym cut_is) ∙ e))

    new_price : (net.heard x).gone ≡ false → IsItsPrice lists p next x (price_message (net.heard x).number j the_step)
    new_price e = (due_is (not_flips (net.heard x).gone (addresses lists next j x) gone_is e), price_is)

    there_is : addresses lists next j x ≡ true → (net.heard x).gone ≡ false
    there_is e = gone_is ∙ ap not e

  due_more : (x i : ℕ) → is_due lists s x i ≡ true → is_due lists next x i ≡ true
  due_more x i due = (due_cleared lists knows j x i law sound legal).1 (inl due)

  agrees_after : NetworkAgrees lists p (after_clearing lists p net) next
  agrees_after = record {
    sound = sound_next;
    closed = agrees.closed;
    counts = agrees.counts;
    heard = adding.heard_kept lists law p by net s agrees 0 inner l sound here there has;
    learnt = adding.learnt_is lists law p by net s agrees 0 inner l sound here there has;
    last_number = adding.sent_is lists law p by net s agrees 0 inner l sound here there has;
    newest_numbers = adding.newest_numbers_are lists law p by net s agrees 0 inner l sound here there has;
    records = adding.records_are lists law p by net s agrees 0 inner l sound here there has;
    answered = agrees.answered;
    index = agrees.index;
    device_index = agrees.device_index;
    taken = adding.taken_is lists law p by net s agrees 0 inner l sound here there has due_more;
    full = λ y i y_conc due le. elim ((due_cleared lists knows j y i law sound legal).0 due) [
      | inl old ↦ agrees.full y i y_conc old le
      | inr new ↦ absurd (omega (arith, new.1, le, last_within lists s agrees.sound y))
    ];
    last_sent = λ x node some. down_old lists net.prices_sent 0 net.heard j the_step x (λ (q : PriceMessage). q.index ≡ last_index s x)
        (agrees.last_sent x node some);
    bids_sent = λ x k node lt. adding.its_bid lists law p by net s agrees 0 inner l sound here there has x _ (agrees.bids_sent x k node lt);
    prices_sent = λ x k node lt. down_each lists net.prices_sent 0 net.heard j the_step x (IsItsPrice lists p next x)
        (λ i below. adding.its_price lists law p by net s agrees 0 inner l sound here there has due_more x node _ (agrees.prices_sent x i node below))
        (λ up e. new_price x node up e) k lt;
    newest_sent = λ none x node some.
        let old = agrees.newest_sent none x node (omega (arith, some, newest_same x node)) in
        (old.0, old.1, old.2 ∙ sym (newest_same x node));
    whole_from = agrees.whole_from;
    caught_up = adding.caught_up_is lists law p by net s agrees 0 inner l sound here there has;
    due_root = λ none x i node up due. elim ((due_cleared lists knows j x i law sound legal).0 due) [
      | inl old ↦ down_old lists net.prices_sent 0 net.heard j the_step x (λ (q : PriceMessage). q.index ≡ i) (agrees.due_root none x i node up old)
      | inr new ↦
          let is : j ≡ i = omega (arith, index_is, new.1) in
          down_new lists net.prices_sent 0 net.heard j the_step x (λ (q : PriceMessage). q.index ≡ i) new.0
          (there_is x node new.0 (ap (λ (cut : Cut). addresses_of lists cut x) cut_is ∙ new.2)) is
    ];
    due_through = λ x node p_conc at through all due.
        elim ((due_cleared lists knows j x (last_index s (parent lists x)) law sound legal).0 due) [
          | inl old ↦
              let was = adding.through_is lists law p by net s agrees 0 inner l sound here there has x node p_conc through all in
              down_old lists net.prices_sent 0 net.heard j the_step x (λ (q : PriceMessage). q.index ≡ last_index s (parent lists x))
              (agrees.due_through x node p_conc at was.0 was.1 old)
          | inr new ↦ absurd (omega (arith, p_conc.0, new.0))
        ];
  }
    where
      newest_same : (x : ℕ) → IsNode lists x → newest_number_of lists next x ≡ newest_number_of lists s x
      newest_same x node = has.newest_kept x (λ e. omega (arith, node.0, e))

  -- it stops before a price is sent
  agrees_stopped : NetworkAgrees lists p (auctioneer_stopped net) next
  agrees_stopped = with_prices lists p (after_clearing lists p net) next agrees_after net.answered net.taken net.prices_sent (with_restart net 0)
      next.passed (λ none. absurd (broken net 0 none)) (record {
        sound = sound_next;
        answered = agrees.answered;
        index = agrees.index;
        device_index = λ d leaf none. agrees.device_index d leaf (none_before net 0 d none);
        taken = agrees_after.taken;
        full = agrees_after.full;
        last_sent = agrees.last_sent;
        prices_sent = λ x k node lt. adding.its_price lists law p by net s agrees 0 inner l sound here there has due_more x node _
            (agrees.prices_sent x k node lt);
        due_root = λ none. absurd (broken net 0 none);
        due_through = λ x node p_conc at through all due.
            elim ((due_cleared lists knows j x (last_index s (parent lists x)) law sound legal).0 due) [
              | inl old ↦
                  let was = adding.through_is lists law p by net s agrees 0 inner l sound here there has x node p_conc through all in
                  agrees.due_through x node p_conc at was.0 was.1 old
              | inr new ↦ absurd (omega (arith, p_conc.0, new.0))
            ];
      })

  to_next : (after : Network) → NetworkAgrees lists p after next → GoesOn lists p s after
  to_next after at = learns_and_moves lists p s l (learning lists p net s agrees test) (Clear j) legal after at

  -- a clearing is the Learns of what was heard, and a Clear
  pub clearing_goes_on : GoesOn lists p s (after_clearing lists p net)
  clearing_goes_on = to_next (after_clearing lists p net) agrees_after

  -- so it is where no price is sent
  pub stopped_goes_on : GoesOn lists p s (auctioneer_stopped net)
  stopped_goes_on = to_next (auctioneer_stopped net) agrees_stopped
