-- The calls of a relay are events of the network.
use Rattle.std.proofs.Common.{◌≡◌, ◌⊎◌, ◌∙◌, sym, ap, subst, ℕ, ◌-◌, ◌<◌, ◌≤◌, true, false, cond, leb, ltb, List}
use Rattle.std.proofs.Common.{[], ◌∷◌}
use Rattle.std.proofs.Common.{◌++◌, length, arith, inl, inr, refl, get_or, ◌%◌, Some}
use Rattle.pm_base.specs.declared.limits.Limits.{Limits}
use Rattle.std.proofs.lemmas.Bool.{cases_eq, cases_Bool, cond-true, cond-false, not-true, eqb-true, both_ways, and_parts}
use Rattle.pm_bid.specs.Bids.{zeros}
use Rattle.pm_market.specs.Lists.{Lists, parent, is_leaf, is_member, changes, IsNode, IsLeaf, IsConcentrator}
use Rattle.pm_market.specs.State.{State, update, part, no_changes, cleared_cut}
use Rattle.pm_market.proofs.Cuts.{updated_other, part_leaf, part_zero, number_inner, greatest_le}
use Rattle.pm_laws.specs.Gone.{is_gone}
use Rattle.pm_laws.proofs.Gone.{gone_leaf, gone_inner}
use Rattle.pm_session.specs.Windows.{Sent, Keeps, record_of}
use Rattle.pm_concentrator.specs.Concentrators.{own_demand}
use Rattle.pm_concentrator.specs.Limited.{settled_step_of_record}
use Rattle.pm_net.specs.Pricing.{Pricing, GoesByNodes}
use Rattle.pm_net.specs.Messages.{BidMessage, PriceMessage, bid_message, no_price}
use Rattle.pm_net.specs.Network.{Network, sent_bid, sent_price}
use Rattle.pm_net.specs.Running.{is_new_bid, after_taking_bid, can_send, after_sending}
use Rattle.pm_net.specs.Restarts as restarts
use Rattle.pm_net.specs.Restarts.{can_rebuild, after_rebuilding, device_stopped, relay_stopped, can_resend, after_resending, after_restart}
use Rattle.pm_net.specs.Events.{may_bid, network_step, TakesBid, Rebuilds, Sends, StopsBidding, Resends, TakesPrice, Restarts}
use Rattle.pm_net.specs.Agrees.{IsItsBid, HoldsIts, NetworkAgrees}
use Rattle.pm_net.specs.Agents.{after_coming_back}
use Rattle.pm_net.specs.Devices.{Devices, with_network, after_stop, after_given, may_change}
use Rattle.pm_net.proofs.Messages.{either, past}
use Rattle.pm_net.proofs.Steps.{hears_each}
use Rattle.pm_net_plan.specs.Places.{Numbering}
use Rattle.pm_relay.specs.Relays as relays
use Rattle.pm_relay.specs.Relays.{RelayValue, newest_bid_number, record_at, limits_of_number, limits_places, no_limits, RelayComesBack}
use Rattle.pm_relay.specs.declared.outcome.PriceOutcome.{PriceOutcome}
use Rattle.pm_relay.specs.declared.outcome.PriceOutcome.TheVariants.{PassedOn, Alone, Waits, Dropped}
use Rattle.pm_relay_net.specs.RelayIs.{RelayIs, update_of, messages_of, prices_down}
use Rattle.pm_relay_net.proofs.Elsewhere.{SameNode, same_elsewhere, same_then}
use Rattle.pm_relay_net.proofs.ComingUp.{back_up}
use Rattle.pm_relay_net.proofs.Learning.{learns, learns_limits}
use Rattle.pm_relay_net.proofs.Sending as sending
use Rattle.pm_relay_net.proofs.TakingPrices.{takes}
use Rattle.pm_relay_net.proofs.PricesDown.{none_to_others}
use Rattle.pm_session.specs.Prices.{price_to}
use Rattle.pm_system.specs.System.{System, price_in_channel, price_stored}
use Rattle.pm_system.specs.Calls as call
use Rattle.pm_system.specs.Calls.{LearnsChildBid, LearnsLimits, RelayTakesBid, RelaySends, RelayStops, RelayResends, RelayTakesPrice, RelayRestarts}
use Rattle.pm_system.specs.Given.{IsTreeMarket}
use Rattle.pm_system.specs.Market.{SystemIs, IsExpired}
use Rattle.pm_system.proofs.Moving.{Follows, relay_no_leaf, parent_relay, same_bid, same_price, bids_in, sent_prices, relay_moves, its_place}
use Rattle.pm_system.proofs.Moving.{channels_still, channels_push, counted_still}

-- a bid that is gone has zeros
pub gone_zeros : (lists : Lists) (p : Pricing) (numbering : Numbering) → IsTreeMarket lists p numbering → (s : State) (x : ℕ) → IsNode lists x →
    (bid : BidMessage) → IsItsBid lists p s x bid → bid.gone ≡ true → bid.demand ≡ zeros p.steps
gone_zeros lists p numbering market s x node bid its gone =
    let n : ℕ = bid.number in
    let by : GoesByNodes lists p = market.by_nodes in
    let is : is_gone lists x n ≡ true = sym (ap (λ (b : BidMessage). b.gone) its.1) ∙ gone in
    ap (λ (b : BidMessage). b.demand) its.1
    ∙ elim (cases_Bool (is_leaf lists x)) [
      | inl leaf ↦
          let out : is_member lists x n ≡ false = not-true (is_member lists x n) (sym (gone_leaf lists x n leaf) ∙ is) in
          by.device x (part lists s x n) leaf ∙ ap (p.demand x) (part_leaf lists s.published x n x leaf) ∙ market.absent x n leaf out
      | inr inner ↦
          let zero : n ≡ 0 = eqb-true n 0 (sym (gone_inner lists x n inner) ∙ is) in
          ap (λ (k : ℕ). p.offer x (part lists s x k)) zero
          ∙ by.alike x (part lists s x 0) no_changes (λ d leaf. part_zero lists s.published x d) ∙ by.nothing x node
    ]

-- so is one in a channel
pub sent_zeros : (lists : Lists) (p : Pricing) (numbering : Numbering) → IsTreeMarket lists p numbering → (net : Network) (s : State) →
    NetworkAgrees lists p net s → (x at : ℕ) → IsNode lists x → at < length (net.bids_sent x) → (sent_bid p net x at).gone ≡ true →
    (sent_bid p net x at).demand ≡ zeros p.steps
sent_zeros lists p numbering market net s agrees x at node inside =
    gone_zeros lists p numbering market s x node (sent_bid p net x at) (agrees.bids_sent x at node inside)

-- a price sends the same down after the relay took it as before
pub same_down : (old new : RelayValue) (price : PriceMessage) (outcome : PriceOutcome) → relays.TakesPrice old new
    (update_of price) outcome → (place : ℕ) →
    prices_down old (update_of price) outcome place ≡ prices_down new (update_of price) outcome place
same_down old new price Dropped did place = refl
same_down old new price Waits did place = refl
same_down old new price Alone did place = refl
same_down old new price PassedOn did place =
    let own : ℕ = price.number - old.base in
    let kept : Keeps new.gathered.window own = record {
      one = omega (arith, did.1);
      from = omega (arith, did.2.passed.window.answered);
      to = omega (arith, did.2.passed.window.last, did.0.to);
    } in
    let same : record_at old price.number ≡ record_at new price.number =
    sym (did.2.passed.window.records own kept) ∙ ap (λ (n : ℕ). record_of new.gathered.window (price.number - n)) (sym did.2.base) in
    ap (λ (q : Sent). messages_of (price_to q.heads (settled_step_of_record (limits_of_number old price.number) price.step q.sum) price.index place)) same
    ∙ ap (λ (l : List Limits). messages_of (price_to (record_at new price.number).heads
    (settled_step_of_record (Some (get_or l (price.number % limits_places) no_limits)) price.step (record_at new price.number).sum) price.index place))
    (sym did.2.made_under)

module _ (lists : Lists) (p : Pricing) (numbering : Numbering) (market : IsTreeMarket lists p numbering) (devices : Devices) (s : State)
    (agrees : NetworkAgrees lists p devices.net s) (sys : System) (sys_is : SystemIs lists p numbering devices sys) where
  abbrev net : Network
  net = devices.net

  -- ---- it learns a bid

  module _ (x k : ℕ) (new : System) (did : RelayTakesBid lists p numbering sys x k new) where
    abbrev c : ℕ
    c = parent lists x

    conc : IsConcentrator lists (parent lists x)
    conc = parent_relay lists market.law x did.node did.below

    -- where the message is in the network's channel
    abbrev at : ℕ
    at = its_place lists p numbering market.places devices sys sys_is x k did.node did.inside

    none : (sent_bid p net x at).gone ≡ true → (sent_bid p net x at).demand ≡ zeros p.steps
    none = sent_zeros lists p numbering market net s agrees x at did.node (bids_in lists p numbering market.places devices sys sys_is x k did.node did.inside)

    looks : LearnsChildBid lists p numbering sys x (sent_bid p net x at) did.relay ⊎ LearnsLimits lists p numbering sys x (sent_bid p net x at) did.relay
    looks =
        let Looks : BidMessage → Type 0 = λ b. LearnsChildBid lists p numbering sys x b did.relay ⊎ LearnsLimits lists p numbering sys x b did.relay in
        subst Looks (same_bid lists p numbering market.places devices sys sys_is x k did.node did.inside) did.learnt

    abbrev once : Network
    once = network_step lists p net (TakesBid x at)

    abbrev twice : Network
    twice = network_step lists p once (Rebuilds c)

    taken_channels : (once.bids_sent ≡ net.bids_sent) × (once.prices_sent ≡ net.prices_sent) × (once.counts ≡ net.counts)
    taken_channels = either (λ (w : Network). (w.bids_sent ≡ net.bids_sent) × (w.prices_sent ≡ net.prices_sent) × (w.counts ≡ net.counts))
        (is_new_bid lists net x (sent_bid p net x at)) (after_taking_bid net x (sent_bid p net x at)) net (λ e. (refl, refl, refl)) (λ e. (refl, refl, refl))

    rebuilt_channels : (twice.bids_sent ≡ once.bids_sent) × (twice.prices_sent ≡ once.prices_sent) × (twice.counts ≡ once.counts)
    rebuilt_channels = either (λ (w : Network). (w.bids_sent ≡ once.bids_sent) × (w.prices_sent ≡ once.prices_sent) × (w.counts ≡ once.counts))
        (can_rebuild lists once c) (after_rebuilding once c) once (λ e. (refl, refl, refl)) (λ e. (refl, refl, refl))

    moved : (after : Network) → RelayIs p numbering after c did.relay → ((y : ℕ) → (y ≡ c → ⊥) → SameNode lists y net after) →
        after.bids_sent ≡ net.bids_sent → after.prices_sent ≡ net.prices_sent → after.counts ≡ net.counts →
        SystemIs lists p numbering (with_network devices after) new
    moved after relay_is same bids prices counts =
        subst (λ (t : System). SystemIs lists p numbering (with_network devices after) t) (sym did.new_is)
        (relay_moves lists p numbering market.places devices sys sys_is market.by_nodes.limits_alike
        (with_network devices after) c did.relay conc relay_is same sys_is.agents sys_is.setpoints
        sys.bids_sent (channels_still lists p numbering market.places devices sys sys_is after.counts after.bids_sent counts bids) counts (λ d leaf. refl)
        sys.prices_sent
        (λ z node. ap (λ f. f z) prices ∙ sys_is.prices_sent z node))

    same_once : (y : ℕ) → (y ≡ c → ⊥) → SameNode lists y net once
    same_once y ne = same_elsewhere lists p net y (TakesBid x at) (λ e. ne (sym e))

    learns_so : RelayIs p numbering once c did.relay ⊎ RelayIs p numbering twice c did.relay
    learns_so = elim looks [
      | inl bid ↦
          learns lists p numbering net x at (sys.relays c) did.relay market.places market.by_places did.node bid.passes (sys_is.relays c conc) none bid.learnt
      | inr by ↦ learns_limits lists p numbering net x at by.limits (sys.relays c) did.relay market.places market.by_places did.node
          (sys_is.relays c conc) by.gone (none by.gone) by.gives by.learnt
    ]

    -- a relay that takes a bid does what the network does
    pub takes_bid : Follows lists p numbering devices (call.TakesBid x k) new
    takes_bid = elim learns_so [
      | inl is ↦ record {
        events = TakesBid x at ∷ [];
        is = moved once is same_once taken_channels.0 taken_channels.1 taken_channels.2;
        restarts = λ y up. (tt, tt);
      }
      | inr is ↦ record {
        events = TakesBid x at ∷ Rebuilds c ∷ [];
        is = moved twice is (λ y ne. same_then lists y net once twice (same_once y ne) (same_elsewhere lists p once y (Rebuilds c) (λ e. ne (sym e))))
            (rebuilt_channels.0 ∙ taken_channels.0) (rebuilt_channels.1 ∙ taken_channels.1) (rebuilt_channels.2 ∙ taken_channels.2);
        restarts = λ y up. (tt, (tt, tt));
      }
    ]

  -- ---- it sends

  -- the channels of devices stay as they are where a relay sends
  leaves_same : (c : ℕ) (bid : BidMessage) → IsConcentrator lists c → (d : ℕ) → IsLeaf lists d →
      update sys.bids_sent c (sys.bids_sent c ++ bid ∷ []) d ≡ sys.bids_sent d
  leaves_same c bid conc d leaf = updated_other sys.bids_sent c (sys.bids_sent c ++ bid ∷ []) d (relay_no_leaf lists c d conc leaf)

  module _ (c : ℕ) (new : System) (did : RelaySends lists sys c new) where
    abbrev after_sent : Network
    after_sent = network_step lists p net (Sends c)

    counts_sent : after_sent.counts ≡ net.counts
    counts_sent = either (λ (w : Network). w.counts ≡ net.counts) (can_send lists net c) (after_sending p net c) net (λ e. refl) (λ e. refl)

    -- so does one that sends its bid
    pub sends : Follows lists p numbering devices (call.Sends c) new
    sends =
        let sent = sending.sends lists market.law p numbering market.places net s agrees c did.conc (sys.relays c) (sys_is.relays c did.conc) market.by_places
        did.relay did.number did.sent in
        let bid : BidMessage = bid_message did.number false (own_demand did.relay.gathered) in
        record {
          events = Sends c ∷ [];
          is = subst (λ (t : System). SystemIs lists p numbering (with_network devices after_sent) t) (sym did.new_is)
              (relay_moves lists p numbering market.places devices sys sys_is market.by_nodes.limits_alike
              (with_network devices after_sent) c did.relay did.conc sent.0
              (λ y ne. same_elsewhere lists p net y (Sends c) (λ e. ne (sym e))) sys_is.agents sys_is.setpoints
              (update sys.bids_sent c (sys.bids_sent c ++ bid ∷ []))
              (channels_push lists p numbering market.places devices sys sys_is after_sent.counts after_sent.bids_sent c bid counts_sent sent.1 (λ x ne.
              either (λ (w : Network). w.bids_sent x ≡ net.bids_sent x) (can_send lists net c) (after_sending p net c) net
              (λ e. updated_other net.bids_sent c _ x ne) (λ e. refl))) counts_sent (leaves_same c bid did.conc)
              sys.prices_sent (λ x node. either (λ (w : Network). w.prices_sent x ≡ net.prices_sent x) (can_send lists net c) (after_sending p net c) net
              (λ e. refl) (λ e. refl) ∙ sys_is.prices_sent x node));
          restarts = λ y up. (tt, tt);
        }

  -- ---- it stops before its bid is sent

  module _ (c : ℕ) (new : System) (did : RelayStops lists sys c new) where
    abbrev after_stopped : Network
    after_stopped = network_step lists p net (StopsBidding c)

    stopped_channels : (after_stopped.bids_sent ≡ net.bids_sent) × (after_stopped.prices_sent ≡ net.prices_sent) × (after_stopped.counts ≡ net.counts)
    stopped_channels =
        let Same : Network → Type 0 = λ w. (w.bids_sent ≡ net.bids_sent) × (w.prices_sent ≡ net.prices_sent) × (w.counts ≡ net.counts) in
        either Same (may_bid lists net c) (device_stopped net c) (cond (can_send lists net c) (relay_stopped net c) net)
        (λ e. absurd (both_ways (is_leaf lists c) did.conc.2 (and_parts (is_leaf lists c) (ltb (net.counts c) (changes lists c)) e).0))
        (λ e. either Same (can_send lists net c) (relay_stopped net c) net (λ e. (refl, refl, refl)) (λ e. (refl, refl, refl)))

    -- one that stores its bid and stops
    pub stops : Follows lists p numbering devices (call.StopsBidding c) new
    stops =
        let Is : Devices → Type 0 = λ w. SystemIs lists p numbering w new in
        record {
          events = StopsBidding c ∷ [];
          is = subst Is (sym (cond-false (is_leaf lists c) (cond (may_change lists devices c) (after_stop lists p devices c) devices)
              (with_network devices after_stopped) did.conc.2))
              (subst (λ (t : System). SystemIs lists p numbering (with_network devices after_stopped) t) (sym did.new_is)
              (relay_moves lists p numbering market.places devices sys sys_is market.by_nodes.limits_alike
              (with_network devices after_stopped) c did.relay did.conc
              (sending.stops lists market.law p numbering market.places net s agrees c did.conc (sys.relays c) (sys_is.relays c did.conc) market.by_places
              did.relay did.number did.sent market.by_nodes.limits_alike)
              (λ y ne. same_elsewhere lists p net y (StopsBidding c) (λ e. ne (sym e))) sys_is.agents sys_is.setpoints
              sys.bids_sent (channels_still lists p numbering market.places devices sys sys_is after_stopped.counts after_stopped.bids_sent
              stopped_channels.2 stopped_channels.0) stopped_channels.2 (λ d leaf. refl)
              sys.prices_sent (λ x node. ap (λ f. f x) stopped_channels.1 ∙ sys_is.prices_sent x node)));
          restarts = λ y up. (tt, tt);
        }

  -- ---- it sends its newest bid again

  module _ (c : ℕ) (new : System) (did : RelayResends lists sys c new) where
    abbrev after_again : Network
    after_again = network_step lists p net (Resends c)

    counts_again : after_again.counts ≡ net.counts
    counts_again = either (λ (w : Network). w.counts ≡ net.counts) (can_resend lists net c) (after_resending lists p net c) net (λ e. refl) (λ e. refl)

    -- one that sends its newest bid again
    pub resends : Follows lists p numbering devices (call.Resends c) new
    resends =
        let r : RelayValue = sys.relays c in
        let bid : BidMessage = bid_message (newest_bid_number r) false (own_demand r.gathered) in
        let same : (y : ℕ) → SameNode lists y net after_again = λ y. same_elsewhere lists p net y (Resends c) tt in
        record {
          events = Resends c ∷ [];
          is = subst (λ (t : System). SystemIs lists p numbering (with_network devices after_again) t) (sym did.new_is) (record {
            root = Rattle.pm_relay_net.proofs.LeftAlone.root_stays lists p numbering market.places net after_again sys.root (same 0) sys_is.root;
            relays = λ y conc.
                Rattle.pm_relay_net.proofs.LeftAlone.relay_stays lists p numbering market.places market.by_nodes.limits_alike net after_again y
                (sys.relays y) (same y)
                (sys_is.relays y conc);
            agents = sys_is.agents;
            setpoints = sys_is.setpoints;
            counted = λ d leaf.
                let Is : List BidMessage → Type 0 = λ l. (after_again.counts d ≡ (sys.agents d).number)
                ⊎ IsExpired lists d (after_again.counts d) (sys.agents d).number l in
                subst Is (sym (leaves_same c bid did.conc d leaf))
                (counted_still lists p numbering market.places devices sys sys_is after_again.counts counts_again d leaf);
            channels = channels_push lists p numbering market.places devices sys sys_is after_again.counts after_again.bids_sent c bid counts_again
                (sending.sends_again lists p numbering net c r did.conc (sys_is.relays c did.conc).matches did.has)
                (λ x ne. either (λ (w : Network). w.bids_sent x ≡ net.bids_sent x) (can_resend lists net c) (after_resending lists p net c) net
                (λ e. updated_other net.bids_sent c _ x ne) (λ e. refl));
            prices_sent = λ x node. either (λ (w : Network). w.prices_sent x ≡ net.prices_sent x) (can_resend lists net c)
                (after_resending lists p net c) net
                (λ e. refl) (λ e. refl) ∙ sys_is.prices_sent x node;
          });
          restarts = λ y up. (tt, tt);
        }

  -- ---- it takes a price

  module _ (c k : ℕ) (new : System) (did : RelayTakesPrice lists numbering sys c k new) where
    abbrev after_taken : Network
    after_taken = network_step lists p net (TakesPrice c k)

    counts_taken : after_taken.counts ≡ net.counts
    counts_taken = hears_each lists p net c k (λ (w : Network). w.counts ≡ net.counts) refl refl refl refl

    price_is : price_in_channel sys c k ≡ sent_price net c k
    price_is = same_price lists p numbering market.places devices sys sys_is c k (did.conc.0, did.conc.1)

    took : relays.TakesPrice (sys.relays c) did.relay (update_of (sent_price net c k)) did.outcome
    took =
        let Takes : PriceMessage → Type 0 = λ q. relays.TakesPrice (sys.relays c) did.relay (update_of q) did.outcome in
        subst Takes price_is did.taken

    others : (x : ℕ) → IsNode lists x → (parent lists x ≡ c → ⊥) → after_taken.prices_sent x ≡ net.prices_sent x
    others x node ne = hears_each lists p net c k (λ (w : Network). w.prices_sent x ≡ net.prices_sent x) refl refl
        (none_to_others lists net.prices_sent c _ _ _ x ne) refl

    -- one that takes a price
    pub takes_price : Follows lists p numbering devices (call.TakesPrice c k) new
    takes_price =
        let Is : Devices → Type 0 = λ w. SystemIs lists p numbering w new in
        let done = takes lists p numbering net c k (sys.relays c) did.relay did.outcome market.places did.conc (sys_is.relays c did.conc) took in
        let down : ℕ → List PriceMessage = prices_down did.relay (update_of (price_in_channel sys c k)) did.outcome in
        record {
          events = TakesPrice c k ∷ [];
          is = subst Is (sym (cond-false (is_leaf lists c) (after_given devices c k after_taken) (with_network devices after_taken) did.conc.2))
              (subst (λ (t : System). SystemIs lists p numbering (with_network devices after_taken) t) (sym did.new_is)
              (relay_moves lists p numbering market.places devices sys sys_is market.by_nodes.limits_alike
              (with_network devices after_taken) c did.relay did.conc done.0
              (λ y ne. same_elsewhere lists p net y (TakesPrice c k) (λ e. ne (sym e))) sys_is.agents sys_is.setpoints
              sys.bids_sent (channels_still lists p numbering market.places devices sys sys_is after_taken.counts after_taken.bids_sent counts_taken
              (hears_each lists p net c k (λ (w : Network). w.bids_sent ≡ net.bids_sent) refl refl refl refl)) counts_taken (λ d leaf. refl)
              _ (sent_prices lists p numbering market.places devices sys sys_is c down after_taken.prices_sent
              (λ x node up. done.1 x node up
              ∙ ap (λ l. net.prices_sent x ++ l) (same_down (sys.relays c) did.relay (sent_price net c k) did.outcome took (numbering.place x)
              ∙ ap (λ (q : PriceMessage). prices_down did.relay (update_of q) did.outcome (numbering.place x)) (sym price_is)))
              others)));
          restarts = λ y up. (tt, tt);
        }

  -- ---- it comes back

  -- a price of the node has one of its numbers
  its_number : (c : ℕ) → IsConcentrator lists c → (price : PriceMessage) → HoldsIts lists p s c price → price.number ≤ net.last_number c
  its_number c conc price (inl none) = omega (arith, ap (λ (q : PriceMessage). q.number) none)
  its_number c conc price (inr its) =
      let cut = cleared_cut s price.index in
      omega (
        arith,
        ap (λ (q : PriceMessage). q.number) its.1,
        number_inner lists s.published c cut conc.2,
        greatest_le lists (s.published c) c cut (length (s.published c)),
        agrees.last_number c conc.2,
      )

  sent_its : (c k : ℕ) → IsNode lists c → HoldsIts lists p s c (sent_price net c k)
  sent_its c k node = elim (Rattle.std.proofs.lemmas.Bool.cases_lt k (length (net.prices_sent c))) [
    | inl inside ↦ inr (agrees.prices_sent c k node inside)
    | inr beyond ↦ inl (past (net.prices_sent c) k no_price (omega (arith, beyond)))
  ]

  stored_its : (c k : ℕ) → IsNode lists c → HoldsIts lists p s c (restarts.stored_price net c k)
  stored_its c k node = either (HoldsIts lists p s c) (leb (sent_price net c k).index (net.taken c).index) (sent_price net c k) (net.taken c)
      (λ e. sent_its c k node) (λ e. agrees.taken c node)

  module _ (c k : ℕ) (new : System) (did : RelayRestarts lists p sys c k new) where
    abbrev r : RelayValue
    r = sys.relays c

    c_node : IsNode lists c
    c_node = (did.conc.0, did.conc.1)

    price_same : price_in_channel sys c k ≡ sent_price net c k
    price_same = same_price lists p numbering market.places devices sys sys_is c k c_node

    abbrev kept : PriceMessage
    kept = restarts.stored_price net c k

    -- what it stored is what the network's relay stored
    stored_same : ((price_stored sys c k r.answered r.index).number ≡ kept.number) × ((price_stored sys c k r.answered r.index).index ≡ kept.index)
    stored_same =
        let m = (sys_is.relays c did.conc).matches in
        let held : PriceMessage = record { number = r.answered; index = r.index; step = 0 } in
        let own : price_stored sys c k r.answered r.index ≡ cond (leb (sent_price net c k).index (net.taken c).index) (sent_price net c k) held =
        ap (λ (q : PriceMessage). cond (leb q.index r.index) q held) price_same
        ∙ ap (λ (i : ℕ). cond (leb (sent_price net c k).index i) (sent_price net c k) held) m.index in
        elim (cases_Bool (leb (sent_price net c k).index (net.taken c).index)) [
          | inl e ↦
              let same = own ∙ cond-true _ (sent_price net c k) held e ∙ sym (cond-true _ (sent_price net c k) (net.taken c) e) in
              (ap (λ (q : PriceMessage). q.number) same, ap (λ (q : PriceMessage). q.index) same)
          | inr e ↦
              let mine = own ∙ cond-false _ (sent_price net c k) held e in
              let its = cond-false _ (sent_price net c k) (net.taken c) e in (
                ap (λ (q : PriceMessage). q.number) mine ∙ m.answered ∙ agrees.answered c did.conc ∙ ap (λ (q : PriceMessage). q.number) (sym its),
                ap (λ (q : PriceMessage). q.index) mine ∙ m.index ∙ ap (λ (q : PriceMessage). q.index) (sym its),
              )
        ]

    comes_back : RelayComesBack p.steps did.limits (newest_bid_number r) kept.number kept.index r.recorded did.under did.relay
    comes_back =
        let Back : ℕ → ℕ → Type 0 = λ n i. RelayComesBack p.steps did.limits (newest_bid_number r) n i r.recorded did.under did.relay in
        subst (λ (i : ℕ). Back kept.number i) stored_same.1
        (subst (λ (n : ℕ). Back n (price_stored sys c k r.answered r.index).index) stored_same.0 did.back)

    -- and one that comes back
    pub comes_up : Follows lists p numbering devices (call.Restarts c k) new
    comes_up =
        let after : Devices = record devices {
          net = after_restart lists p net c k;
          agents = update devices.agents c (after_coming_back (devices.agents c) kept.index);
        } in
        record {
          events = Restarts c k ∷ [];
          is = subst (λ (t : System). SystemIs lists p numbering after t) (sym did.new_is)
              (relay_moves lists p numbering market.places devices sys sys_is market.by_nodes.limits_alike after c did.relay did.conc
              (back_up lists p numbering market.places market.by_nodes.limits_alike net did.limits did.under c k r did.relay did.limited
              (sys_is.relays c did.conc).matches did.under_is
              (its_number c did.conc kept (stored_its c k c_node)) comes_back)
              (λ y ne. same_elsewhere lists p net y (Restarts c k) (λ e. ne (sym e)))
              (λ d leaf. updated_other devices.agents c _ d (relay_no_leaf lists c d did.conc leaf) ∙ sys_is.agents d leaf)
              sys_is.setpoints sys.bids_sent sys_is.channels refl (λ d leaf. refl) sys.prices_sent sys_is.prices_sent);
          restarts = λ y up. (up, tt);
        }
