-- The auctioneer sends the price of its newest clearing to a child again.
use Rattle.std.proofs.Common.{◌≡◌, ◌∙◌, sym, ap, ℕ, ◌<◌, ◌≤◌, true, false, not, eqb, leb, ◌&&◌, inl, List, []}
use Rattle.std.proofs.Common.{◌∷◌, ◌++◌, length, get_or, arith}
use Rattle.std.proofs.lemmas.Bool.{and_parts, leb-true, eqb-true, not-true}
use Rattle.pm_bid.specs.Clearing.{clearing_step}
use Rattle.pm_market.specs.Lists.{Lists, parent, IsNode, Lawful}
use Rattle.pm_market.specs.State.{State, update, cut_at, last_index, part, number, clearings, cleared_cut, addresses}
use Rattle.pm_market.specs.Legality.{is_node}
use Rattle.pm_market.proofs.Tree.{leaf_zero}
use Rattle.pm_market.proofs.Legality.{is_node_from}
use Rattle.pm_laws.proofs.Numbers.{cleared_is_part}
use Rattle.pm_laws.proofs.MoveLaws.{due_from}
use Rattle.pm_net.specs.Pricing.{Pricing, GoesByNodes}
use Rattle.pm_net.specs.Messages.{BidMessage, PriceMessage, price_message, no_price}
use Rattle.pm_net.specs.Network.{Network}
use Rattle.pm_net.specs.Restarts.{can_tell_one, after_telling_one}
use Rattle.pm_net.specs.Agrees.{bid_of_number, IsItsPrice, NetworkAgrees, GoesOn}
use Rattle.pm_net.proofs.Agreeing.{still, with_prices}
use Rattle.pm_net.proofs.Messages.{each_sent, some_sent}
use Rattle.pm_laws.proofs.Gone.{gone_addresses}
use Rattle.pm_net.proofs.Gone.{not_flips}

module _ (lists : Lists) (law : Lawful lists) (p : Pricing) (by : GoesByNodes lists p) (net : Network) (s : State) (agrees : NetworkAgrees lists p net s)
    (z : ℕ)
    (may : can_tell_one lists net z ≡ true) where
  parts : IsNode lists z × (parent lists z ≡ 0) × (net.whole_from 0 ≤ net.last_number 0) × (1 ≤ net.last_number 0) × ((net.records 0
      (net.last_number 0) z).gone ≡ false)
  unfolding can_tell_one
  parts =
      let a = and_parts (is_node lists z && eqb (parent lists z) 0 && leb (net.whole_from 0) (net.last_number 0) && leb 1 (net.last_number 0)) (not
      (net.records 0 (net.last_number 0) z).gone) may in
      let b = and_parts (is_node lists z && eqb (parent lists z) 0 && leb (net.whole_from 0) (net.last_number 0)) (leb 1 (net.last_number 0)) a.0 in
      let c = and_parts (is_node lists z && eqb (parent lists z) 0) (leb (net.whole_from 0) (net.last_number 0)) b.0 in
      let d = and_parts (is_node lists z) (eqb (parent lists z) 0) c.0 in (
        is_node_from lists z d.0,
        eqb-true (parent lists z) 0 d.1,
        leb-true (net.whole_from 0) (net.last_number 0) c.1,
        leb-true 1 (net.last_number 0) b.1,
        not-true (net.records 0 (net.last_number 0) z).gone a.1,
      )

  abbrev j : ℕ
  j = net.last_number 0

  index_is : j ≡ clearings s
  index_is = agrees.last_number 0 (leaf_zero lists)

  record_is : (x : ℕ) → IsNode lists x → parent lists x ≡ 0 → net.records 0 j x ≡ bid_of_number lists p s x (number lists s x (cleared_cut s j))
  record_is x node up =
      ap (λ (y : ℕ). net.records y j x) (sym up)
      ∙ agrees.records x j node (omega (arith, parts.2, ap net.whole_from up)) (omega (arith, index_is, ap (λ (y : ℕ). length (s.published y)) up))
      ∙ ap (λ (y : ℕ). bid_of_number lists p s x (number lists s x (cut_at (s.published y) j))) up

  within : j ≤ clearings s
  within = omega (arith, index_is)

  demand_is : (x : ℕ) → IsNode lists x → parent lists x ≡ 0 → (net.records 0 j x).demand ≡ p.offer x (cleared_cut s j)
  demand_is x node up =
      ap (λ (b : BidMessage). b.demand) (record_is x node up)
      ∙ sym (by.alike x (cleared_cut s j) (part lists s x (number lists s x (cleared_cut s j))) (cleared_is_part lists law s agrees.sound x j node within).0)

  abbrev price : PriceMessage
  price = price_message (net.records 0 j z).number j (clearing_step (p.add 0 (λ x. (net.records 0 j x).demand)))

  its : IsItsPrice lists p s z price
  its =
      let gone : (net.records 0 j z).gone ≡ not (addresses lists s j z) =
      ap (λ (b : BidMessage). b.gone) (record_is z parts.0 parts.1) ∙ gone_addresses lists law s agrees.sound z j parts.0 within in (
        due_from lists s z j (inl (parts.1, parts.3, within)) (not_flips (net.records 0 j z).gone (addresses lists s j z) gone parts.4),
        ap (λ (n : ℕ). price_message n j (clearing_step (p.add 0 (λ x. (net.records 0 j x).demand)))) (ap (λ (b : BidMessage). b.number)
            (record_is z parts.0 parts.1))
            ∙ ap (price_message (number lists s z (cleared_cut s j)) j) (
            ap clearing_step (by.sums 0 (λ x. (net.records 0 j x).demand) (λ x. p.offer x (cleared_cut s j)) demand_is)
            ∙ sym (by.root z (cleared_cut s j) parts.0 parts.1)),
      )

  abbrev sent : ℕ → List PriceMessage
  sent = update net.prices_sent z (net.prices_sent z ++ price ∷ [])

  old : (P : PriceMessage → Type 0) (y : ℕ) → ((h : ℕ) × (h < length (net.prices_sent y)) × P (get_or (net.prices_sent y) h no_price)) →
      (h : ℕ) × (h < length (sent y)) × P (get_or (sent y) h no_price)
  old P y some = some_sent P net.prices_sent z price no_price y some

  -- the price of the newest clearing is sent again: no move
  pub telling_one : GoesOn lists p s (after_telling_one p net z)
  telling_one = still lists p (after_telling_one p net z) s (with_prices lists p net s agrees net.answered net.taken sent net.restarts s.passed
      (λ none. none)
      (record {
        sound = agrees.sound;
        answered = agrees.answered;
        index = agrees.index;
        device_index = agrees.device_index;
        taken = agrees.taken;
        full = agrees.full;
        last_sent = λ y y_node some. old (λ (q : PriceMessage). q.index ≡ last_index s y) y (agrees.last_sent y y_node some);
        prices_sent = λ y i y_node. each_sent (IsItsPrice lists p s) net.prices_sent z price no_price its y (λ h. agrees.prices_sent y h y_node) i;
        due_root = λ none y i y_node up due. old (λ (q : PriceMessage). q.index ≡ i) y (agrees.due_root none y i y_node up due);
        due_through = λ y y_node p_conc at through all due.
            old (λ (q : PriceMessage). q.index ≡ last_index s (parent lists y)) y (agrees.due_through y y_node p_conc at through all due);
      }))
