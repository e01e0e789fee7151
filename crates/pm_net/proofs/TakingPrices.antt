-- A node takes a price. Where its clearing is later than the one passed to the node last, it is passed to the node, after
-- each earlier one that was due to a relay and was not passed; elsewhere, after a restart, the market makes no move.
use Rattle.std.proofs.Common.{◌≡◌, ◌∙◌, sym, ap, subst, ℕ, ◌<◌, ◌≤◌, Bool, true, false, not, eqb, ltb, leb, ◌&&◌, ◌⊎◌}
use Rattle.std.proofs.Common.{inl, inr, List, [], ◌∷◌, ◌++◌, length, get_or, arith, refl}
use Rattle.std.proofs.lemmas.Bool.{cases_eq, cases_lt, cases_Bool, and_parts, and_from, ltb-true, leb-true, eqb-true, eq-eqb, not_from_false, both_ways}
use Rattle.std.specs.List.{Contains}
use Rattle.pm_bid.specs.Taken.{settled_step}
use Rattle.pm_market.specs.Lists.{Lists, parent, is_leaf, IsNode, IsLeaf, IsInner, IsConcentrator, Lawful}
use Rattle.pm_market.specs.State.{State, update, cut_at, newest_number_of, part, number, last_index, clearings, cleared_cut, addresses}
use Rattle.pm_market.specs.Legality.{is_node}
use Rattle.pm_market.proofs.Cuts.{updated_same, updated_other}
use Rattle.pm_market.proofs.Legality.{is_node_from}
use Rattle.pm_laws.specs.Due.{is_due}
use Rattle.pm_laws.proofs.Facts.{updated_at}
use Rattle.pm_laws.proofs.Numbers.{number_down, cleared_is_part}
use Rattle.pm_laws.proofs.Published.{due_within}
use Rattle.pm_laws.proofs.MoveLaws.{due_parts}
use Rattle.pm_net.specs.Pricing.{Pricing, GoesByNodes}
use Rattle.pm_net.specs.Messages.{BidMessage, PriceMessage, price_message, no_price}
use Rattle.pm_net.specs.Network.{IsUnbroken, Network, sent_price}
use Rattle.pm_net.specs.Running.{is_new_price, names_a_bid, is_overtaken, waits, after_taking_price}
use Rattle.pm_net.specs.Running.{after_answer, relay_step, sent_down, after_passing}
use Rattle.pm_laws.proofs.Numbers.{number_leaf}
use Rattle.pm_net.specs.Messages.{numbers_of}
use Rattle.pm_net.specs.Agrees.{GoesOn, bid_of_number, price_of_clearing, IsItsPrice, HoldsIts, NetworkAgrees, GoesForward}
use Rattle.pm_net.proofs.Agreeing.{with_prices}
use Rattle.pm_net.proofs.Messages.{past, each_sent, some_sent}
use Rattle.pm_net.proofs.Down.{down_each, down_old, down_new}
use Rattle.pm_laws.proofs.Gone.{gone_addresses}
use Rattle.pm_net.proofs.Gone.{not_flips}
use Rattle.pm_net.proofs.News.{overtaken}
use Rattle.pm_net.proofs.Catching.{Caught, catching, last_below}
use Rattle.pm_net.proofs.Catching as catch

module _ (lists : Lists) (law : Lawful lists) (p : Pricing) (by : GoesByNodes lists p) (net : Network) (s : State) (agrees : NetworkAgrees lists p net s)
    (x k : ℕ) (newer : is_new_price lists net x (sent_price net x k) ≡ true) where
  abbrev price : PriceMessage
  price = sent_price net x k

  abbrev j : ℕ
  j = price.index

  parts : (IsNode lists x) × ((net.taken x).index < j)
  unfolding is_new_price
  parts =
      let both = and_parts (is_node lists x) (ltb (net.taken x).index j) newer in
      (is_node_from lists x both.0, ltb-true (net.taken x).index j both.1)

  node : IsNode lists x
  node = parts.0

  inside : k < length (net.prices_sent x)
  inside = elim (cases_lt k (length (net.prices_sent x))) [
    | inl lt ↦ lt
    | inr ge ↦ absurd (omega (arith, parts.1, ap (λ (q : PriceMessage). q.index) (past (net.prices_sent x) k no_price ge)))
  ]

  its : IsItsPrice lists p s x price
  its = agrees.prices_sent x k node inside

  within : (1 ≤ j) × (j ≤ clearings s)
  within = due_within lists s agrees.sound x j its.0

  no_own_child : parent lists x ≡ x → ⊥
  no_own_child e = omega (arith, law.earlier x node, e)

  -- what the market does, with the clearings that it passes given by a test
  module _ (test : ℕ → Bool) (fits : (i : ℕ) → test i ≡ true → is_due lists s x i ≡ true) (passes : test j ≡ true)
      (complete : IsInner lists x → (i : ℕ) → is_due lists s x i ≡ true → test i ≡ true) where
    caught : Caught lists s x test j
    caught = catching lists s x node test fits (law.earlier x node) j

    abbrev next : State
    next = record s { passed = caught.passed }

    last_kept : (y : ℕ) → (y ≡ x → ⊥) → last_index next y ≡ last_index s y
    last_kept y ne = catch.last_kept lists law s agrees.sound x node test j within.0 caught y ne

    last_new : last_index s x < j → last_index next x ≡ j
    last_new lt = catch.last_new lists law s agrees.sound x node test j within.0 caught passes lt

    last_old : j ≤ last_index s x → last_index next x ≡ last_index s x
    last_old le = catch.last_old lists law s agrees.sound x node test j within.0 caught le

    due_more : (y i : ℕ) → is_due lists s y i ≡ true → is_due lists next y i ≡ true
    due_more y i due = catch.due_more lists law s agrees.sound x node test j within.0 caught y i due

    due_cases : (y i : ℕ) → is_due lists next y i ≡ true → (is_due lists s y i ≡ true)
        ⊎ ((parent lists y ≡ x) × (last_index s x < i) × (i ≤ j))
    due_cases y i due = catch.due_cases lists law s agrees.sound x node test j within.0 caught y i due

    its_price : (y : ℕ) (q : PriceMessage) → IsItsPrice lists p s y q → IsItsPrice lists p next y q
    its_price y q at = (due_more y q.index at.0, at.1)

    index_is : (y : ℕ) → IsNode lists y → (update net.taken x price y).index ≤ last_index next y
    index_is y y_node = elim (updated_at net.taken x price y) [
      | inl w ↦ elim (cases_lt (last_index s x) j) [
        | inl lt ↦ omega (arith, ap (λ (q : PriceMessage). q.index) w.1, last_new lt, ap (last_index next) w.0)
        | inr ge ↦ omega (arith, ap (λ (q : PriceMessage). q.index) w.1, last_old ge, ap (last_index next) w.0, ge)
      ]
      | inr w ↦ omega (arith, ap (λ (q : PriceMessage). q.index) w.1, agrees.index y y_node, last_kept y w.0)
    ]

    device_index_is : (y : ℕ) → IsLeaf lists y → net.restarts y ≡ 0 → (update net.taken x price y).index ≡ last_index next y
    device_index_is y leaf none = elim (updated_at net.taken x price y) [
      | inl w ↦
          let at = agrees.device_index x (subst (λ (z : ℕ). IsLeaf lists z) w.0 leaf) (ap net.restarts (sym w.0) ∙ none) in
          omega (arith, ap (λ (q : PriceMessage). q.index) w.1, last_new (omega (arith, at, parts.1)), ap (last_index next) w.0)
      | inr w ↦ omega (arith, ap (λ (q : PriceMessage). q.index) w.1, agrees.device_index y leaf none, last_kept y w.0)
    ]

    taken_is : (y : ℕ) → IsNode lists y → HoldsIts lists p next y (update net.taken x price y)
    taken_is y y_node = elim (updated_at net.taken x price y) [
      | inl w ↦ inr (subst (IsItsPrice lists p next y) (sym w.1) (subst (λ (z : ℕ). IsItsPrice lists p next z price) (sym w.0) (its_price x price its)))
      | inr w ↦ subst (HoldsIts lists p next y) (sym w.1) (elim (agrees.taken y y_node) [
        | inl none ↦ inl none
        | inr was ↦ inr (its_price y (net.taken y) was)
      ])
    ]

    full_is : (c i : ℕ) → IsConcentrator lists c → is_due lists next c i ≡ true → i ≤ last_index next c → Contains (next.passed c) i
    full_is c i conc due le = elim (cases_eq c x) [
      | inl e ↦
          let due_x : is_due lists next x i ≡ true = subst (λ (z : ℕ). is_due lists next z i ≡ true) e due in
          let le_x : i ≤ last_index next x = omega (arith, le, ap (last_index next) e) in
          let inner_x : IsInner lists x = subst (λ (z : ℕ). IsInner lists z) e conc.2 in
          let was : is_due lists s x i ≡ true = elim (due_cases x i due_x) as (λ w. is_due lists s x i ≡ true) [
            | inl old ↦ old
            | inr new ↦ absurd (no_own_child new.0)
          ] in
          subst (λ (z : ℕ). Contains (caught.passed z) i) (sym e) (elim (cases_lt (last_index s x) i) [
            | inl above ↦ elim (cases_lt (last_index s x) j) [
              | inl lt ↦ caught.all i (complete inner_x i was) above (omega (arith, le_x, last_new lt))
              | inr ge ↦ absurd (omega (arith, le_x, last_old ge, above))
            ]
            | inr below ↦ caught.old i (agrees.full x i (node.0, node.1, inner_x) was below)
          ])
      | inr ne ↦ subst (λ (l : List ℕ). Contains l i) (sym (caught.others c ne)) (elim (due_cases c i due) [
        | inl old ↦ agrees.full c i conc old (omega (arith, le, last_kept c ne))
        | inr new ↦ absurd (omega (
          arith,
          new.1,
          le,
          last_kept c ne,
          last_below lists s agrees.sound c (omega (arith, new.0, node.0)),
          ap (last_index s) new.0,
        ))
      ])
    ]

    last_sent_is : (y : ℕ) → IsNode lists y → 0 < last_index next y →
        (i : ℕ) × (i < length (net.prices_sent y)) × ((sent_price net y i).index ≡ last_index next y)
    last_sent_is y y_node some = elim (cases_eq y x) [
      | inl e ↦
          let here : (i : ℕ) × (i < length (net.prices_sent x)) × ((sent_price net x i).index ≡ last_index next x) = elim (cases_lt (last_index s x) j) [
            | inl lt ↦ (k, inside, sym (last_new lt))
            | inr ge ↦ let old = agrees.last_sent x node (omega (arith, ge, within.0)) in (old.0, old.1, old.2 ∙ sym (last_old ge))
          ] in
          subst (λ (z : ℕ). (i : ℕ) × (i < length (net.prices_sent z)) × ((sent_price net z i).index ≡ last_index next z)) (sym e) here
      | inr ne ↦ let old = agrees.last_sent y y_node (omega (arith, some, last_kept y ne)) in (old.0, old.1, old.2 ∙ sym (last_kept y ne))
    ]

    due_root_is : IsUnbroken net → (y i : ℕ) → IsNode lists y → parent lists y ≡ 0 → is_due lists next y i ≡ true →
        (h : ℕ) × (h < length (net.prices_sent y)) × ((sent_price net y h).index ≡ i)
    due_root_is none y i y_node up due = elim (due_cases y i due) [
      | inl old ↦ agrees.due_root none y i y_node up old
      | inr new ↦ absurd (omega (arith, node.0, new.0, up))
    ]

    -- what was sent on is there still where the last clearing passed to the parent is the same
    through_old : (y : ℕ) → IsNode lists y → IsConcentrator lists (parent lists y) →
        last_index next (parent lists y) ≡ last_index s (parent lists y) →
        (net.taken (parent lists y)).index ≡ last_index next (parent lists y) →
        net.last_number (parent lists y) ≤ number lists s (parent lists y) (cleared_cut s (last_index next (parent lists y))) →
        ((z : ℕ) → IsNode lists z → parent lists z ≡ parent lists y → s.learnt z ≡ newest_number_of lists s z) →
        is_due lists next y (last_index next (parent lists y)) ≡ true →
        (h : ℕ) × (h < length (net.prices_sent y)) × ((sent_price net y h).index ≡ last_index next (parent lists y))
    through_old y y_node p_conc same at through all due =
        let was : is_due lists s y (last_index next (parent lists y)) ≡ true = elim (due_cases y (last_index next (parent lists y)) due)
        as (λ w. is_due lists s y (last_index next (parent lists y)) ≡ true) [
          | inl old ↦ old
          | inr new ↦ absurd (omega (arith, new.1, same, ap (last_index s) new.0))
        ] in
        let sent = agrees.due_through y y_node p_conc (at ∙ same) (omega (
          arith,
          through,
          ap (λ (i : ℕ). number lists s (parent lists y) (cleared_cut s i)) same,
        )) all (ap (is_due lists s y) (sym same) ∙ was) in
        (sent.0, sent.1, sent.2 ∙ sym same)

    went : (after : Network) → NetworkAgrees lists p after next → GoesForward lists p s x j after
    went after at =
        let Stands : State → Type 0 = λ t. NetworkAgrees lists p after t in
        record {
          goes = record { moves = caught.moves; legal = caught.legal; agrees = subst Stands (sym caught.ends) at };
          move = elim (cases_lt (last_index s x) j) [
            | inl lt ↦ inr (lt, ap (λ (t : State). last_index t x) caught.ends ∙ last_new lt)
            | inr ge ↦ inl (caught.ends ∙ ap (λ (q : ℕ → List ℕ). record s { passed = q }) (caught.none ge))
          ];
        }

  -- a device
  module _ (leaf : IsLeaf lists x) where
    no_child : (y : ℕ) → IsNode lists y → parent lists y ≡ x → ⊥
    no_child y y_node up = both_ways (is_leaf lists x) (ap (is_leaf lists) (sym up) ∙ law.inner y y_node) leaf

    abbrev own : ℕ → Bool
    own i = eqb i j

    own_fits : (i : ℕ) → own i ≡ true → is_due lists s x i ≡ true
    own_fits i e = ap (is_due lists s x) (eqb-true i j e) ∙ its.0

    own_passes : own j ≡ true
    own_passes = eq-eqb j j refl

    no_relay : IsInner lists x → (i : ℕ) → is_due lists s x i ≡ true → own i ≡ true
    no_relay inner i due = absurd (both_ways (is_leaf lists x) inner leaf)

    abbrev held : State
    held = next own own_fits own_passes no_relay

    holding_agrees : NetworkAgrees lists p (after_taking_price net x price) held
    holding_agrees = with_prices lists p net s agrees net.answered (update net.taken x price) net.prices_sent net.restarts held.passed (λ none. none)
        (record {
          sound = catch.sound lists law s agrees.sound x node own j within.0 (caught own own_fits own_passes no_relay);
          answered = λ c conc. agrees.answered c conc ∙ ap (λ (q : PriceMessage). q.number) (sym (updated_other net.taken x price c (λ e.
              both_ways (is_leaf lists x) (ap (is_leaf lists) (sym e) ∙ conc.2) leaf)));
          index = index_is own own_fits own_passes no_relay;
          device_index = device_index_is own own_fits own_passes no_relay;
          taken = taken_is own own_fits own_passes no_relay;
          full = full_is own own_fits own_passes no_relay;
          last_sent = last_sent_is own own_fits own_passes no_relay;
          prices_sent = λ y i y_node lt. its_price own own_fits own_passes no_relay y _ (agrees.prices_sent y i y_node lt);
          due_root = due_root_is own own_fits own_passes no_relay;
          due_through = λ y y_node p_conc at through all due.
              let other : parent lists y ≡ x → ⊥ = λ e. no_child y y_node e in
              through_old own own_fits own_passes no_relay y y_node p_conc (last_kept own own_fits own_passes no_relay (parent lists y) other)
              (omega (arith, at, ap (λ (q : PriceMessage). q.index) (updated_other net.taken x price (parent lists y) other))) through all due;
        })

    -- a device that takes a price: a Pass, or no move
    pub holding : GoesForward lists p s x j (after_taking_price net x price)
    holding = went own own_fits own_passes no_relay (after_taking_price net x price) holding_agrees

  -- a relay
  module _ (inner : IsInner lists x) (names : names_a_bid net x price.number ≡ true) where
    conc : IsConcentrator lists x
    conc = (node.0, node.1, inner)

    abbrev due_test : ℕ → Bool
    due_test i = is_due lists s x i

    due_fits : (i : ℕ) → due_test i ≡ true → is_due lists s x i ≡ true
    due_fits i e = e

    all_due : IsInner lists x → (i : ℕ) → is_due lists s x i ≡ true → due_test i ≡ true
    all_due is i e = e

    abbrev heard_state : State
    heard_state = next due_test due_fits its.0 all_due

    abbrev its_caught : Caught lists s x due_test j
    its_caught = caught due_test due_fits its.0 all_due

    last_same : (y : ℕ) → (y ≡ x → ⊥) → last_index heard_state y ≡ last_index s y
    last_same y ne = last_kept due_test due_fits its.0 all_due y ne

    named : (1 ≤ price.number) × (net.answered x ≤ price.number) × (price.number ≤ net.last_number x)
    unfolding names_a_bid
    named =
        let a = and_parts (leb 1 price.number && leb (net.answered x) price.number) (leb price.number (net.last_number x)) names in
        let b = and_parts (leb 1 price.number) (leb (net.answered x) price.number) a.0 in
        (leb-true 1 price.number b.0, leb-true (net.answered x) price.number b.1, leb-true price.number (net.last_number x) a.1)

    number_is : price.number ≡ number lists s x (cleared_cut s j)
    number_is = ap (λ (q : PriceMessage). q.number) its.1

    answered_is : (c : ℕ) → IsConcentrator lists c → update net.answered x price.number c ≡ (update net.taken x price c).number
    answered_is c c_conc = elim (cases_eq c x) [
      | inl e ↦ ap (update net.answered x price.number) e ∙ updated_same net.answered x price.number
          ∙ ap (λ (q : PriceMessage). q.number) (sym (updated_same net.taken x price)) ∙ ap (λ (z : ℕ). (update net.taken x price z).number) (sym e)
      | inr ne ↦ updated_other net.answered x price.number c ne ∙ agrees.answered c c_conc
          ∙ ap (λ (q : PriceMessage). q.number) (sym (updated_other net.taken x price c ne))
    ]

    -- where the relay holds the last price passed to it then, that is the one
    is_last : (y : ℕ) → parent lists y ≡ x → (update net.taken x price (parent lists y)).index ≡ last_index heard_state (parent lists y) →
        last_index heard_state (parent lists y) ≡ j
    is_last y up at = omega (
      arith,
      at,
      ap (λ (z : ℕ). (update net.taken x price z).index) up,
      ap (λ (q : PriceMessage). q.index) (updated_same net.taken x price),
    )

    elsewhere : (y : ℕ) → (parent lists y ≡ x → ⊥) → (update net.taken x price (parent lists y)).index
        ≡ last_index heard_state (parent lists y) →
        (net.taken (parent lists y)).index ≡ last_index heard_state (parent lists y)
    elsewhere y ne at = omega (arith, at, ap (λ (q : PriceMessage). q.index) (updated_other net.taken x price (parent lists y) ne))

    -- the clearing has reached it now
    came : Contains (its_caught.passed x) j
    came = elim (cases_lt (last_index s x) j) [
      | inl lt ↦ its_caught.all j its.0 lt (omega arith)
      | inr ge ↦ its_caught.old j (agrees.full x j conc its.0 ge)
    ]

    -- It has taken the price. No price that was sent is lost, each price is due, and its children have the price where it is through.
    taking : (sent : ℕ → List PriceMessage) →
        ((P : PriceMessage → Type 0) (y : ℕ) → ((h : ℕ) × (h < length (net.prices_sent y)) × P (get_or (net.prices_sent y) h no_price)) →
        (h : ℕ) × (h < length (sent y)) × P (get_or (sent y) h no_price)) →
        ((y i : ℕ) → IsNode lists y → i < length (sent y) → IsItsPrice lists p heard_state y (get_or (sent y) i no_price)) →
        ((y : ℕ) → IsNode lists y → parent lists y ≡ x → last_index heard_state (parent lists y) ≡ j →
        net.last_number (parent lists y) ≤ number lists s (parent lists y) (cleared_cut s (last_index heard_state (parent lists y))) →
        ((z : ℕ) → IsNode lists z → parent lists z ≡ parent lists y → s.learnt z ≡ newest_number_of lists s z) →
        is_due lists heard_state y (last_index heard_state (parent lists y)) ≡ true →
        (h : ℕ) × (h < length (sent y)) × ((get_or (sent y) h no_price).index ≡ last_index heard_state (parent lists y))) →
        NetworkAgrees lists p (record (after_answer net x price) { prices_sent = sent }) heard_state
    taking sent old each down = with_prices lists p net s agrees (update net.answered x price.number) (update net.taken x price) sent net.restarts
        heard_state.passed (λ none. none) (record {
          sound = catch.sound lists law s agrees.sound x node due_test j within.0 its_caught;
          answered = answered_is;
          index = index_is due_test due_fits its.0 all_due;
          device_index = device_index_is due_test due_fits its.0 all_due;
          taken = taken_is due_test due_fits its.0 all_due;
          full = full_is due_test due_fits its.0 all_due;
          last_sent = λ y y_node some. old (λ (q : PriceMessage). q.index ≡ last_index heard_state y) y
              (last_sent_is due_test due_fits its.0 all_due y y_node some);
          prices_sent = each;
          due_root = λ none y i y_node up due. old (λ (q : PriceMessage). q.index ≡ i) y
              (due_root_is due_test due_fits its.0 all_due none y i y_node up due);
          due_through = λ y y_node p_conc at through all due. elim (cases_eq (parent lists y) x) [
            | inl up ↦ down y y_node up (is_last y up at) through all due
            | inr ne ↦ old (λ (q : PriceMessage). q.index ≡ last_index heard_state (parent lists y)) y
                (through_old due_test due_fits its.0 all_due y y_node p_conc (last_same (parent lists y) ne) (elsewhere y ne at) through all due)
          ];
        })

    kept_price : (y i : ℕ) → IsNode lists y → i < length (net.prices_sent y) → IsItsPrice lists p heard_state y (sent_price net y i)
    kept_price y i y_node lt = its_price due_test due_fits its.0 all_due y (sent_price net y i) (agrees.prices_sent y i y_node lt)

    -- its record is lost
    module _ (lost : leb (net.whole_from x) price.number ≡ false) (goes : waits lists net x price.number ≡ false) where
      -- a child sent a newer number than the one learnt, where the price names the newest bid
      behind : price.number ≡ net.last_number x →
          ((z : ℕ) → IsNode lists z → parent lists z ≡ x → s.learnt z ≡ newest_number_of lists s z) → ⊥
      unfolding waits
      behind is all = elim (cases_Bool (is_overtaken lists net x)) [
        | inl e ↦ overtaken lists law p net s agrees x e (λ z z_node up. omega (arith, all z z_node up, (agrees.heard z z_node).0))
        | inr e ↦ both_ways (eqb price.number (net.last_number x) && not (is_overtaken lists net x)) goes
            (and_from _ _ (eq-eqb price.number (net.last_number x) is) (not_from_false (is_overtaken lists net x) e))
      ]

      answering_agrees : NetworkAgrees lists p (after_answer net x price) heard_state
      answering_agrees = taking net.prices_sent (λ P y some. some) kept_price (λ y y_node up is through all due. absurd (behind (omega (
        arith,
        through,
        named.2,
        number_is,
        ap net.last_number up,
        ap (λ (i : ℕ). number lists s (parent lists y) (cleared_cut s i)) is,
        ap (λ (z : ℕ). number lists s z (cleared_cut s j)) up,
      )) (λ z z_node z_up. all z z_node (z_up ∙ sym up))))

      -- a relay that takes a price alone, whose record it lost: Passes, or no move
      pub answering : GoesForward lists p s x j (after_answer net x price)
      answering = went due_test due_fits its.0 all_due (after_answer net x price) answering_agrees

    -- its record is whole
    module _ (whole : leb (net.whole_from x) price.number ≡ true) where
      abbrev basis : ℕ → BidMessage
      basis = net.records x price.number

      abbrev the_step : ℕ
      the_step = relay_step p net x price

      module _ (y : ℕ) (y_node : IsNode lists y) (up : parent lists y ≡ x) where
        basis_is : basis y ≡ bid_of_number lists p s y (number lists s y (cleared_cut s j))
        basis_is =
            let le : price.number ≤ length (s.published (parent lists y)) =
            omega (arith, named.2, agrees.last_number x inner, ap (λ (z : ℕ). length (s.published z)) up) in
            let has : net.whole_from (parent lists y) ≤ price.number = omega (arith, leb-true (net.whole_from x) price.number whole, ap net.whole_from up) in
            let up_node : IsNode lists (parent lists y) = subst (λ (z : ℕ). IsNode lists z) (sym up) node in
            ap (λ (z : ℕ). net.records z price.number y) (sym up) ∙ agrees.records y price.number y_node has le
            ∙ ap (bid_of_number lists p s y) (
            ap (λ (i : ℕ). number lists s y (cut_at (s.published (parent lists y)) i)) (number_is
            ∙ ap (λ (z : ℕ). number lists s z (cleared_cut s j)) (sym up))
            ∙ sym (number_down lists law s agrees.sound y j y_node up_node within.1))

        gone_is : (basis y).gone ≡ not (addresses lists s j y)
        gone_is = ap (λ (b : BidMessage). b.gone) basis_is ∙ gone_addresses lists law s agrees.sound y j y_node within.1

        demand_is : (basis y).demand ≡ p.offer y (cleared_cut s j)
        demand_is =
            ap (λ (b : BidMessage). b.demand) basis_is
            ∙ sym (by.alike y (cleared_cut s j) (part lists s y (number lists s y (cleared_cut s j)))
            (cleared_is_part lists law s agrees.sound y j y_node within.1).0)

      limits_are : p.limits x (numbers_of basis) ≡ p.limits x (cleared_cut s j)
      limits_are = by.limits_alike x (numbers_of basis) (cleared_cut s j) (λ y y_node leaf up.
          ap (λ (b : BidMessage). b.number) (basis_is y y_node up) ∙ number_leaf lists s.published y (cleared_cut s j) leaf)

      sum_is : p.add x (λ z. (basis z).demand) ≡ p.add x (λ z. p.offer z (cleared_cut s j))
      sum_is = by.sums x (λ z. (basis z).demand) (λ z. p.offer z (cleared_cut s j)) demand_is

      module _ (y : ℕ) (y_node : IsNode lists y) (up : parent lists y ≡ x) where
        step_is : the_step ≡ p.local (cleared_cut s j) y
        step_is =
            let conc' : IsConcentrator lists (parent lists y) = subst (λ (z : ℕ). IsConcentrator lists z) (sym up) conc in
            ap (settled_step (p.limits x (numbers_of basis)) price.step) sum_is
            ∙ ap (λ l. settled_step l price.step (p.add x (λ z. p.offer z (cleared_cut s j)))) limits_are
            ∙ ap (λ (i : ℕ). settled_step (p.limits x (cleared_cut s j)) i (p.add x (λ z. p.offer z (cleared_cut s j))))
            (ap (λ (q : PriceMessage). q.step) its.1)
            ∙ ap (λ (z : ℕ). settled_step (p.limits z (cleared_cut s j)) (p.local (cleared_cut s j) z)
            (p.add z (λ w. p.offer w (cleared_cut s j)))) (sym up)
            ∙ sym (by.below y (cleared_cut s j) y_node conc')

        price_is : price_message (basis y).number j the_step ≡ price_of_clearing lists p s y j
        price_is =
            ap (λ (i : ℕ). price_message i j the_step) (ap (λ (b : BidMessage). b.number) (basis_is y y_node up))
            ∙ ap (price_message (number lists s y (cleared_cut s j)) j) step_is

        new_price : (basis y).gone ≡ false → IsItsPrice lists p heard_state y (price_message (basis y).number j the_step)
        new_price e = (
          catch.due_here lists law s agrees.sound x node due_test j within.0 its_caught y up came
              (not_flips (basis y).gone (addresses lists s j y) (gone_is y y_node up) e),
          price_is,
        )

      passing_agrees : NetworkAgrees lists p (after_passing lists p net x price) heard_state
      passing_agrees = taking (sent_down lists net.prices_sent x basis j the_step)
          (λ P y some. down_old lists net.prices_sent x basis j the_step y P some)
          (λ y i y_node. down_each lists net.prices_sent x basis j the_step y (IsItsPrice lists p heard_state y) (λ h. kept_price y h y_node)
          (λ up e. new_price y y_node up e) i)
          (λ y y_node up is through all due.
          let addressed : addresses lists s j y ≡ true = (due_parts lists heard_state y j (ap (is_due lists heard_state y) (sym is) ∙ due)).1 in
          down_new lists net.prices_sent x basis j the_step y (λ (q : PriceMessage). q.index ≡ last_index heard_state (parent lists y)) up
          (gone_is y y_node up ∙ ap not addressed) (sym is))

      -- a relay that passes a price on: Passes, or no move
      pub passing : GoesForward lists p s x j (after_passing lists p net x price)
      passing = went due_test due_fits its.0 all_due (after_passing lists p net x price) passing_agrees

      -- it is passed to one child alone, and not taken
      module _ (z : ℕ) (z_node : IsNode lists z) (z_up : parent lists z ≡ x) (stays_in : (basis z).gone ≡ false) where
        abbrev one : PriceMessage
        one = price_message (basis z).number j the_step

        abbrev one_sent : ℕ → List PriceMessage
        one_sent = update net.prices_sent z (net.prices_sent z ++ one ∷ [])

        one_old : (P : PriceMessage → Type 0) (y : ℕ) → ((h : ℕ) × (h < length (net.prices_sent y)) × P (get_or (net.prices_sent y) h no_price)) →
            (h : ℕ) × (h < length (one_sent y)) × P (get_or (one_sent y) h no_price)
        one_old P y some = some_sent P net.prices_sent z one no_price y some

        last_after : last_index s x ≤ last_index heard_state x
        last_after = elim (cases_lt (last_index s x) j) [
          | inl lt ↦ omega (arith, lt, last_new due_test due_fits its.0 all_due lt)
          | inr ge ↦ omega (arith, last_old due_test due_fits its.0 all_due ge)
        ]

        j_within : j ≤ last_index heard_state x
        j_within = elim (cases_lt (last_index s x) j) [
          | inl lt ↦ omega (arith, last_new due_test due_fits its.0 all_due lt)
          | inr ge ↦ omega (arith, ge, last_old due_test due_fits its.0 all_due ge)
        ]

        passing_to_one_agrees : NetworkAgrees lists p (record net { prices_sent = one_sent }) heard_state
        passing_to_one_agrees = with_prices lists p net s agrees net.answered net.taken one_sent net.restarts heard_state.passed (λ none. none) (record {
          sound = catch.sound lists law s agrees.sound x node due_test j within.0 its_caught;
          answered = agrees.answered;
          index = λ y y_node. elim (cases_eq y x) [
            | inl e ↦ omega (arith, agrees.index y y_node, ap (last_index s) e, ap (last_index heard_state) e, last_after)
            | inr ne ↦ omega (arith, agrees.index y y_node, last_same y ne)
          ];
          device_index = λ y leaf none. agrees.device_index y leaf none ∙ sym (last_same y (λ e.
              both_ways (is_leaf lists x) inner (ap (is_leaf lists) (sym e) ∙ leaf)));
          taken = λ y y_node. elim (agrees.taken y y_node) [
            | inl none ↦ inl none
            | inr was ↦ inr (its_price due_test due_fits its.0 all_due y (net.taken y) was)
          ];
          full = full_is due_test due_fits its.0 all_due;
          last_sent = λ y y_node some. one_old (λ (q : PriceMessage). q.index ≡ last_index heard_state y) y
              (last_sent_is due_test due_fits its.0 all_due y y_node some);
          prices_sent = λ y i y_node. each_sent (IsItsPrice lists p heard_state) net.prices_sent z one no_price
              (new_price z z_node z_up stays_in) y (λ h. kept_price y h y_node) i;
          due_root = λ none y i y_node up due. one_old (λ (q : PriceMessage). q.index ≡ i) y
              (due_root_is due_test due_fits its.0 all_due none y i y_node up due);
          due_through = λ y y_node p_conc at through all due. elim (cases_eq (parent lists y) x) [
            | inl up ↦ absurd (omega (
              arith,
              at,
              ap (λ (i : ℕ). (net.taken i).index) up,
              ap (last_index heard_state) up,
              j_within,
              parts.1,
            ))
            | inr ne ↦ one_old (λ (q : PriceMessage). q.index ≡ last_index heard_state (parent lists y)) y
                (through_old due_test due_fits its.0 all_due y y_node p_conc (last_same (parent lists y) ne) at through all due)
          ];
        })

        -- so it is where it passes the price to one child alone
        pub passing_to_one : GoesOn lists p s (record net { prices_sent = one_sent })
        passing_to_one = (went due_test due_fits its.0 all_due (record net { prices_sent = one_sent }) passing_to_one_agrees).goes
