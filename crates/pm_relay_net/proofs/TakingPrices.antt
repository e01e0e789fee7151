-- A relay is given a price: it passes it on, takes it alone, leaves it for later, or drops it.
use Rattle.std.proofs.Common.{◌≡◌, ◌∙◌, sym, ap, subst, ℕ, ◌+◌, ◌-◌, ◌<◌, ◌≤◌, Bool, true, false, cond, not}
use Rattle.std.proofs.Common.{eqb, ltb, leb, ◌&&◌, List, [], ◌++◌}
use Rattle.std.proofs.Common.{length, Some, arith, refl, get_or, ◌%◌}
use Rattle.pm_base.specs.declared.limits.Limits.{Limits}
use Rattle.std.proofs.lemmas.Bool.{cases_Bool, cond-true, cond-false, and_parts, and_from, ltb-true, lt-ltb, leb-true, le-leb, eq-eqb}
use Rattle.std.proofs.lemmas.Bool.{eqb-true, not_from_false}
use Rattle.std.proofs.lemmas.Bool.{both_ways, false_from_ne_true, not-true}
use Rattle.std.proofs.lemmas.List.{append-nil}
use Rattle.pm_bid.specs.Taken.{settled_step}
use Rattle.pm_cache.specs.Cache.{Cache}
use Rattle.pm_market.specs.Lists.{Lists, parent, is_leaf, IsNode, IsConcentrator}
use Rattle.pm_market.specs.Legality.{is_node}
use Rattle.pm_market.proofs.Legality.{is_node_at}
use Rattle.pm_market.proofs.Cuts.{updated_same}
use Rattle.pm_session.specs.Windows.{Sent, Keeps}
use Rattle.pm_concentrator.specs.Limited.{settled_step_of_record}
use Rattle.pm_net.specs.Pricing.{Pricing}
use Rattle.pm_net.specs.Messages.{PriceMessage, numbers_of}
use Rattle.pm_net.specs.Network.{Network, sent_price}
use Rattle.pm_net.specs.Running.{is_new_price, names_a_bid, relay_step, sent_down, waits, is_overtaken, after_answer, after_passing}
use Rattle.pm_net.specs.Running.{after_relay_price}
use Rattle.pm_net.specs.Running.{after_given_price, after_taking_price}
use Rattle.pm_net.specs.Events.{network_step, TakesPrice}
use Rattle.pm_net_plan.specs.Places.{Numbering, IsNumbering}
use Rattle.pm_relay.specs.Relays as relays
use Rattle.pm_relay.specs.Relays.{RelayValue, newest_bid_number, record_at, limits_of_number, limits_places, no_limits, IsNewPrice, MayHearRecord}
use Rattle.pm_relay.specs.Relays.{PricePassedOn, with_price, HearsItsRecord}
use Rattle.pm_relay.specs.declared.outcome.PriceOutcome.{PriceOutcome}
use Rattle.pm_relay.specs.declared.outcome.PriceOutcome.TheVariants.{PassedOn, Alone, Waits, Dropped}
use Rattle.pm_relay_net.specs.Heads.{heads_of}
use Rattle.pm_relay_net.specs.RelayIs.{MatchesNode, RelayIs, update_of, prices_down, recorded_sum}
use Rattle.pm_relay_net.proofs.PricesDown.{price_for_bid, price_by_heads, sent_to_child}
use Rattle.pm_relay_net.proofs.Matching.{over_to, nothing_newer}
use Rattle.pm_net.proofs.News.{child_from}

-- what a relay does with a price, and what its node then is and sends
record Does (lists : Lists) (p : Pricing) (numbering : Numbering) (net : Network) (c : ℕ) (old new : RelayValue) (price : PriceMessage)
    (outcome : PriceOutcome) (after : Network) : Type 0 where
  relay : RelayIs p numbering after c new
  sent : (x : ℕ) → IsNode lists x → parent lists x ≡ c →
      after.prices_sent x ≡ net.prices_sent x ++ prices_down old (update_of price) outcome (numbering.place x)

module _ (lists : Lists) (p : Pricing) (numbering : Numbering) (is : IsNumbering lists numbering) (net : Network) (c : ℕ)
    (conc : IsConcentrator lists c) (old new : RelayValue) (was : RelayIs p numbering net c old) (price : PriceMessage) where
  m : MatchesNode p numbering net c old
  m = was.matches

  -- a price is new to the relay just where it is to the node, and names a bid of it
  new_to : IsNewPrice old (update_of price) → is_new_price lists net c price ≡ true
  unfolding is_new_price
  new_to is_new = and_from (is_node lists c) (ltb (net.taken c).index price.index) (is_node_at lists c (conc.0, conc.1))
      (lt-ltb (net.taken c).index price.index (omega (arith, is_new.newer, m.index)))

  names_to : IsNewPrice old (update_of price) → names_a_bid net c price.number ≡ true
  unfolding names_a_bid
  names_to is_new = and_from (leb 1 price.number && leb (net.answered c) price.number) (leb price.number (net.last_number c))
      (and_from (leb 1 price.number) (leb (net.answered c) price.number) (le-leb 1 price.number is_new.one)
      (le-leb (net.answered c) price.number (omega (arith, is_new.from, m.answered))))
      (le-leb price.number (net.last_number c) (omega (arith, is_new.to, m.newest)))

  new_from : is_new_price lists net c price ≡ true → names_a_bid net c price.number ≡ true → IsNewPrice old (update_of price)
  unfolding is_new_price names_a_bid
  new_from is_new names =
      let a = and_parts (is_node lists c) (ltb (net.taken c).index price.index) is_new in
      let b = and_parts (leb 1 price.number && leb (net.answered c) price.number) (leb price.number (net.last_number c)) names in
      let d = and_parts (leb 1 price.number) (leb (net.answered c) price.number) b.0 in
      record {
        newer = omega (arith, ltb-true (net.taken c).index price.index a.1, m.index);
        one = leb-true 1 price.number d.0;
        from = omega (arith, leb-true (net.answered c) price.number d.1, m.answered);
        to = omega (arith, leb-true price.number (net.last_number c) b.1, m.newest);
      }

  -- it is left for later just where the node leaves it
  waits_to : MayHearRecord old price.number → waits lists net c price.number ≡ true
  unfolding waits
  waits_to may = and_from (eqb price.number (net.last_number c)) (not (is_overtaken lists net c))
      (eq-eqb price.number (net.last_number c) (may.newest ∙ m.newest))
      (not_from_false (is_overtaken lists net c) (over_to lists p numbering is net c old m may.nothing_newer))

  waits_from : waits lists net c price.number ≡ true → MayHearRecord old price.number
  unfolding waits is_overtaken
  waits_from w =
      let a = and_parts (eqb price.number (net.last_number c)) (not (is_overtaken lists net c)) w in
      let all = Rattle.std.proofs.lemmas.Bool.not-false _ (not-true (is_overtaken lists net c) a.1) in
      record {
        newest = eqb-true price.number (net.last_number c) a.0 ∙ sym m.newest;
        nothing_newer = nothing_newer lists p numbering is net c old m (λ x node up.
            leb-true (net.heard x).number (Rattle.pm_net.specs.Running.recorded_number net c x)
            (child_from lists c (λ x. leb (net.heard x).number (Rattle.pm_net.specs.Running.recorded_number net c x)) all x node up));
      }

  -- what the node does
  given : is_new_price lists net c price ≡ true → after_given_price lists p net c price ≡ after_relay_price lists p net c price
  given is_new =
      cond-true (is_new_price lists net c price)
      (cond (is_leaf lists c) (after_taking_price net c price) (after_relay_price lists p net c price)) net is_new
      ∙ cond-false (is_leaf lists c) (after_taking_price net c price) (after_relay_price lists p net c price) conc.2

  abbrev lost : Network
  lost = cond (waits lists net c price.number) net (after_answer net c price)

  named : names_a_bid net c price.number ≡ true → after_relay_price lists p net c price
      ≡ cond (leb (net.whole_from c) price.number) (after_passing lists p net c price) lost
  named names = cond-true (names_a_bid net c price.number) (cond (leb (net.whole_from c) price.number) (after_passing lists p net c price) lost) net names

  passes : IsNewPrice old (update_of price) → old.base < price.number → after_given_price lists p net c price ≡ after_passing lists p net c price
  passes is_new own = given (new_to is_new) ∙ named (names_to is_new)
      ∙ cond-true (leb (net.whole_from c) price.number) (after_passing lists p net c price) lost
      (le-leb (net.whole_from c) price.number (omega (arith, own, m.base)))

  loses : IsNewPrice old (update_of price) → price.number ≤ old.base → after_given_price lists p net c price ≡ lost
  loses is_new below = given (new_to is_new) ∙ named (names_to is_new)
      ∙ cond-false (leb (net.whole_from c) price.number) (after_passing lists p net c price) lost
      (false_from_ne_true (leb (net.whole_from c) price.number) (λ e.
      omega (arith, leb-true (net.whole_from c) price.number e, below, m.base, is_new.one)))

  -- nothing happens
  stays : (outcome : PriceOutcome) → ((k : ℕ) → prices_down old (update_of price) outcome k ≡ []) → new ≡ old →
      Does lists p numbering net c old new price outcome net
  stays outcome none same = record {
    relay = subst (λ (r : RelayValue). RelayIs p numbering net c r) (sym same) was;
    sent = λ x node up. sym (ap (λ l. net.prices_sent x ++ l) (none (numbering.place x)) ∙ append-nil (net.prices_sent x));
  }

  -- the price is taken alone
  alone : IsNewPrice old (update_of price) → price.number ≤ old.base → new ≡ with_price old (update_of price) →
      Does lists p numbering net c old new price Alone (after_answer net c price)
  alone is_new below same = record {
    relay = subst (λ (r : RelayValue). RelayIs p numbering (after_answer net c price) c r) (sym same) (record {
      matches = record {
        steps = m.steps;
        limits = m.limits;
        limited = m.limited;
        made_under = m.made_under;
        newest_under = m.newest_under;
        heads = m.heads;
        demands = m.demands;
        newest = m.newest;
        children = m.children;
        recorded = m.recorded;
        answered = sym (updated_same net.answered c price.number);
        index = sym (ap (λ (q : PriceMessage). q.index) (updated_same net.taken c price));
        base = m.base;
        record_heads = m.record_heads;
        record_sum = m.record_sum;
        opening = m.opening;
        window = omega (arith, m.window, is_new.from, below);
        order = is_new.to;
        demand = m.demand;
      };
      rebuilt = λ hears. was.rebuilt (record {
        came_back = hears.came_back;
        lost = hears.lost;
        caught_up = hears.caught_up;
        nothing_newer = hears.nothing_newer;
        changed = hears.changed;
      });
    });
    sent = λ x node up. sym (append-nil (net.prices_sent x));
  }

  -- the price is passed on
  module _ (is_new : IsNewPrice old (update_of price)) (below : old.base < price.number) (did : PricePassedOn old new (update_of price)) where
    own : ℕ
    own = price.number - old.base

    own_kept : Keeps old.gathered.window (price.number - old.base)
    own_kept = record { one = omega (arith, below); from = omega (arith, m.window, is_new.from); to = omega (arith, is_new.to, below) }

    number_is : old.base + (price.number - old.base) ≡ price.number
    number_is = omega (arith, below)

    heads_are : (record_at old price.number).heads ≡ heads_of numbering c (net.records c price.number)
    heads_are = m.record_heads (price.number - old.base) own_kept ∙ ap (λ (n : ℕ). heads_of numbering c (net.records c n)) number_is

    sum_is : (record_at old price.number).sum ≡ Some (recorded_sum p net c price.number)
    sum_is = m.record_sum (price.number - old.base) own_kept ∙ ap (λ (n : ℕ). Some (recorded_sum p net c n)) number_is

    limits_are : limits_of_number old price.number ≡ p.limits c (numbers_of (net.records c price.number))
    limits_are = ap (limits_of_number old) (sym number_is) ∙ m.made_under (price.number - old.base) own_kept
        ∙ ap (λ (n : ℕ). p.limits c (numbers_of (net.records c n))) number_is

    step_is : settled_step_of_record (limits_of_number old price.number) price.step (record_at old price.number).sum ≡ relay_step p net c price
    step_is = ap (settled_step_of_record (limits_of_number old price.number) price.step) sum_is
        ∙ ap (λ l. settled_step l price.step (recorded_sum p net c price.number)) limits_are

    same_under : (n : ℕ) → limits_of_number new n ≡ limits_of_number old n
    same_under n = ap (λ (l : List Limits). Some (get_or l (n % limits_places) no_limits)) did.made_under

    older : (n : ℕ) → Keeps new.gathered.window n → Keeps old.gathered.window n
    older n keeps = record {
      one = keeps.one;
      from = omega (arith, keeps.from, did.passed.window.answered, own_kept.from);
      to = omega (arith, keeps.to, did.passed.window.last);
    }

    passed_is : RelayIs p numbering (after_passing lists p net c price) c new
    passed_is = record {
      matches = record {
        steps = ap (λ (w : Cache). w.steps) did.passed.cache ∙ m.steps;
        limits = did.passed.limits ∙ m.limits;
        limited = m.limited;
        made_under = λ n keeps. same_under (new.base + n) ∙ ap (λ (i : ℕ). limits_of_number old (i + n)) did.base
            ∙ m.made_under n (older n keeps) ∙ ap (λ (i : ℕ). p.limits c (numbers_of (net.records c (i + n)))) (sym did.base);
        newest_under = same_under (net.last_number c) ∙ m.newest_under;
        heads = ap (λ (w : Cache). w.heads) did.passed.cache ∙ m.heads;
        demands = ap (λ (w : Cache). w.demands) did.passed.cache ∙ m.demands;
        newest = omega (arith, did.base, did.passed.window.last, m.newest);
        children = ap (λ (l : List ℕ). length l) did.recorded ∙ m.children;
        recorded = λ k inside. ap (λ (l : List ℕ). Rattle.pm_relay.specs.Numbers.child_number l k) did.recorded ∙ m.recorded k inside;
        answered = did.answered ∙ sym (updated_same net.answered c price.number);
        index = did.index ∙ sym (ap (λ (q : PriceMessage). q.index) (updated_same net.taken c price));
        base = did.base ∙ m.base;
        record_heads = λ n keeps. ap (λ (q : Sent). q.heads) (did.passed.window.records n keeps) ∙ m.record_heads n (older n keeps)
            ∙ ap (λ (i : ℕ). heads_of numbering c (net.records c (i + n))) (sym did.base);
        record_sum = λ n keeps. ap (λ (q : Sent). q.sum) (did.passed.window.records n keeps) ∙ m.record_sum n (older n keeps)
            ∙ ap (λ (i : ℕ). Some (recorded_sum p net c (i + n))) (sym did.base);
        opening = λ e. absurd (omega (arith, e, did.passed.window.last, own_kept.one, own_kept.to));
        window = omega (arith, did.passed.window.answered, did.answered, did.base);
        order = omega (arith, did.answered, did.base, did.passed.window.last, is_new.to);
        demand = λ some. did.passed.announced ∙ m.demand (omega (arith, some, did.passed.window.last));
      };
      rebuilt = λ hears. omega (arith, hears.lost, did.passed.window.last, own_kept.one, own_kept.to);
    }

    -- what each child is sent
    sent_to : (x : ℕ) → IsNode lists x → parent lists x ≡ c →
        (after_passing lists p net c price).prices_sent x ≡ net.prices_sent x ++ prices_down old (update_of price) PassedOn (numbering.place x)
    sent_to x node up =
        sent_to_child lists net.prices_sent c (net.records c price.number) price.index (relay_step p net c price) x up
        ∙ ap (λ (k : ℕ). net.prices_sent x ++ price_for_bid (net.records c price.number x) price.index k) (sym step_is)
        ∙ sym (ap (λ l. net.prices_sent x ++ l) (price_by_heads lists numbering is (net.records c price.number)
        (record_at old price.number).heads price.index
        (settled_step_of_record (limits_of_number old price.number) price.step (record_at old price.number).sum) c x node up heads_are))

  -- whatever it does
  does : (outcome : PriceOutcome) → relays.TakesPrice old new (update_of price) outcome →
      Does lists p numbering net c old new price outcome (after_given_price lists p net c price)
  does Dropped did =
      let After : Network → Type 0 = λ w. Does lists p numbering net c old new price Dropped w in
      subst After (sym (not_given (is_new_price lists net c price) refl)) (stays Dropped (λ k. refl) did.1)
    where
      not_given : (b : Bool) → is_new_price lists net c price ≡ b → after_given_price lists p net c price ≡ net
      not_given false e = cond-false (is_new_price lists net c price)
          (cond (is_leaf lists c) (after_taking_price net c price) (after_relay_price lists p net c price)) net e
      not_given true e = given e ∙ cond-false (names_a_bid net c price.number)
          (cond (leb (net.whole_from c) price.number) (after_passing lists p net c price) lost) net
          (false_from_ne_true (names_a_bid net c price.number) (λ h. did.0 (new_from e h)))
  does PassedOn did =
      let After : Network → Type 0 = λ w. Does lists p numbering net c old new price PassedOn w in
      subst After (sym (passes did.0 did.1)) (record { relay = passed_is did.0 did.1 did.2; sent = sent_to did.0 did.1 did.2 })
  does Waits did =
      let After : Network → Type 0 = λ w. Does lists p numbering net c old new price Waits w in
      subst After (sym (loses did.0 did.1 ∙ cond-true (waits lists net c price.number) net (after_answer net c price) (waits_to did.2)))
      (stays Waits (λ k. refl) did.3)
  does Alone did =
      let After : Network → Type 0 = λ w. Does lists p numbering net c old new price Alone w in
      subst After (sym (loses did.0 did.1 ∙ cond-false (waits lists net c price.number) net (after_answer net c price)
      (false_from_ne_true (waits lists net c price.number) (λ h. did.2 (waits_from h))))) (alone did.0 did.1 did.3)

-- a relay that is given a price is what the node then is, and each child is sent the same
pub takes : (lists : Lists) (p : Pricing) (numbering : Numbering) (net : Network) (c k : ℕ) (old new : RelayValue) (outcome : PriceOutcome) →
    IsNumbering lists numbering → IsConcentrator lists c → RelayIs p numbering net c old →
    relays.TakesPrice old new (update_of (sent_price net c k)) outcome →
    RelayIs p numbering (network_step lists p net (TakesPrice c k)) c new
    × ((x : ℕ) → IsNode lists x → parent lists x ≡ c → (network_step lists p net (TakesPrice c k)).prices_sent x
    ≡ net.prices_sent x ++ prices_down old (update_of (sent_price net c k)) outcome (numbering.place x))
takes lists p numbering net c k old new outcome is conc was did =
    let done = does lists p numbering is net c conc old new was (sent_price net c k) outcome did in
    (done.relay, done.sent)
