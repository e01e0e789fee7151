-- The calls of a device's agent are events of the network.
use Rattle.std.proofs.Common.{◌≡◌, ◌⊎◌, ◌∙◌, sym, ap, subst, ℕ, ◌+◌, ◌<◌, ◌≤◌, Bool, true, false, cond, not, ltb, leb, eqb}
use Rattle.std.proofs.Common.{◌||◌, List, [], ◌∷◌, ◌++◌, length, Option, Some, None, arith, inl, inr, refl}
use Rattle.std.proofs.lemmas.Bool.{cases_Bool, cases_eq, cases_lt, cond-true, cond-false, and_from, lt-ltb, eq-eqb, ne_eqb}
use Rattle.std.proofs.lemmas.List.{get_or_append_left, get_or_push, length_push}
use Rattle.std.specs.List.{Contains}
use Rattle.pm_bid.specs.Bids.{zeros}
use Rattle.pm_market.proofs.Cuts.{updated_same, updated_other}
use Rattle.pm_laws.proofs.Facts.{updated_at}
use Rattle.pm_market.specs.Lists.{Lists, is_leaf, is_member, changes, IsNode, IsLeaf}
use Rattle.pm_market.specs.State.{State, update}
use Rattle.pm_market.proofs.Tree.{leaf_node}
use Rattle.pm_net.specs.Pricing.{Pricing}
use Rattle.pm_net.specs.Messages.{BidMessage, PriceMessage, bid_message}
use Rattle.pm_net.specs.Network.{Network, sent_price}
use Rattle.pm_net.specs.Running.{device_bid, is_new_price, after_taking_price, after_relay_price}
use Rattle.pm_net.specs.Restarts as restarts
use Rattle.pm_net.specs.Restarts.{after_restart}
use Rattle.pm_net.specs.Events.{Event, RunsOn, network_step, may_bid, Bids, TakesPrice, Restarts}
use Rattle.pm_net.specs.Agents.{Offer, Setpoint, DeviceAgent, may_offer, after_offer, after_leaving, kept_offer, setpoints_for, answered_by}
use Rattle.pm_net.specs.Agents.{after_price, after_coming_back}
use Rattle.pm_net.specs.Devices.{Devices, with_network, may_change, agent_after_own, agent_after_change, after_change, after_given, devices_step, devices_after}
use Rattle.pm_net.specs.Devices.{AgentIs, DevicesAgree}
use Rattle.pm_net.specs.Devices.{IsOfferWindow}
use Rattle.pm_net.proofs.Messages.{either, updated_alike}
use Rattle.pm_net_plan.specs.Places.{Numbering}
use Rattle.pm_control.specs.Control.{newest_demand, agent_stored}
use Rattle.pm_relay_net.proofs.RootLearning.{or_true}
use Rattle.pm_relay_net.proofs.Elsewhere.{SameNode, same_elsewhere, same_then}
use Rattle.pm_system.specs.System.{System, price_in_channel, price_stored, with_agent, with_bid_sent}
use Rattle.pm_system.specs.Calls as call
use Rattle.pm_system.specs.Calls.{Offers, Leaves, DeviceChanges, DeviceBids, DeviceStops, DeviceResends, DeviceExpires, DeviceTakesPrice}
use Rattle.pm_system.specs.Calls.{DeviceRestarts, bid_kept}
use Rattle.pm_system.specs.Given.{IsTreeMarket}
use Rattle.pm_system.specs.Market.{IsIn, ChannelsAre, IsExpired, SystemIs}
use Rattle.pm_system.proofs.Moving.{Follows, same_price, device_moves, new_in, pushed_here, made_next, channels_still, counted_still}
use Rattle.pm_system.proofs.Devices.{newest_kept}

-- a list with one more
contains_push : (l : List BidMessage) (more bid : BidMessage) → Contains l bid → Contains (l ++ more ∷ []) bid
contains_push l more bid at = (at.0, omega (arith, length_push l more, at.1), get_or_append_left l (more ∷ []) bid at.0 at.1 ∙ at.2)

contains_new : (l : List BidMessage) (bid : BidMessage) → Contains (l ++ bid ∷ []) bid
contains_new l bid = (length l, omega (arith, length_push l bid), get_or_push l bid bid (length l) refl)

-- an agent comes back as what it stored
abbrev pub ComesBackAsStored : Type 0
ComesBackAsStored = (agent : DeviceAgent) (index' : ℕ) → IsOfferWindow agent →
    agent_stored agent.number (newest_demand agent) index' ≡ after_coming_back agent index'

module _ (lists : Lists) (p : Pricing) (numbering : Numbering) (market : IsTreeMarket lists p numbering) (devices : Devices) (s : State)
    (agree : DevicesAgree lists p devices s) (sys : System) (sys_is : SystemIs lists p numbering devices sys) where
  abbrev net : Network
  net = devices.net

  agent_is : (d : ℕ) → IsLeaf lists d → AgentIs lists p d (net.counts d) (net.taken d).index (sys.agents d)
  agent_is d leaf =
      let Is : DeviceAgent → Type 0 = λ a. AgentIs lists p d (net.counts d) (net.taken d).index a in
      subst Is (sys_is.agents d leaf) (agree.agents d leaf)

  -- ---- a change

  -- What is so of a system but for one device's number: each node is what the network has of it, in which device d may have made
  -- the number that is its parent's.
  record Nearly (net' : Devices) : Type 0 where
    same : (y : ℕ) → SameNode lists y net net'.net
    agents : (e : ℕ) → IsLeaf lists e → net'.agents e ≡ sys.agents e
    setpoints : (e : ℕ) → IsLeaf lists e → net'.setpoints e ≡ sys.setpoints e
    channels : ChannelsAre lists p net'.net.counts net'.net.bids_sent sys.bids_sent
    prices : (x : ℕ) → IsNode lists x → net'.net.prices_sent x ≡ sys.prices_sent x

  untouched : (before after : Network) → after.heard ≡ before.heard → after.last_number ≡ before.last_number → after.records ≡ before.records →
      after.whole_from ≡ before.whole_from → after.answered ≡ before.answered → after.taken ≡ before.taken → (y : ℕ) →
      SameNode lists y before after
  untouched before after heard last records whole answered taken y = record {
    heard = λ x node up. ap (λ f. f x) (sym heard);
    last_number = ap (λ f. f y) (sym last);
    records = ap (λ f. f y) (sym records);
    whole_from = ap (λ f. f y) (sym whole);
    answered = ap (λ f. f y) (sym answered);
    taken = ap (λ f. f y) (sym taken);
  }

  as_it_is : Nearly devices
  as_it_is = record {
    same = λ y. untouched net net refl refl refl refl refl refl y;
    agents = sys_is.agents;
    setpoints = sys_is.setpoints;
    channels = sys_is.channels;
    prices = sys_is.prices_sent;
  }

  -- an event that makes the next change of d
  module _ (d : ℕ) (leaf : IsLeaf lists d) (before : Devices) where
    abbrev made : Devices
    made = after_change lists p before d

    steps : may_change lists before d ≡ true → devices_step lists p before (Bids d) ≡ made
    steps may = cond-true (may_change lists before d) made before may

    -- the number that is its parent's
    parents_may : before.net.counts d ≡ (before.agents d).number → before.net.counts d < changes lists d → may_change lists before d ≡ true
    parents_may its within = and_from (may_bid lists before.net d) _
        (and_from (is_leaf lists d) (ltb (before.net.counts d) (changes lists d)) leaf (lt-ltb (before.net.counts d) (changes lists d) within))
        (ap (λ b. b || (not (is_member lists d (before.net.counts d + 1)) || may_offer (before.agents d)))
        (eq-eqb (before.net.counts d) (before.agents d).number its))

    parents_agent : before.net.counts d ≡ (before.agents d).number →
        agent_after_change lists p d (before.net.counts d + 1) (before.agents d) ≡ before.agents d
    parents_agent its = cond-true (eqb (before.net.counts d + 1) ((before.agents d).number + 1)) (before.agents d)
        (agent_after_own lists p d (before.net.counts d + 1) (before.agents d))
        (eq-eqb (before.net.counts d + 1) ((before.agents d).number + 1) (omega (arith, its)))

    agents_kept : before.net.counts d ≡ (before.agents d).number → (e : ℕ) → made.agents e ≡ before.agents e
    agents_kept its e = elim (updated_at before.agents d (agent_after_change lists p d (before.net.counts d + 1) (before.agents d)) e) [
      | inl w ↦ w.1 ∙ parents_agent its ∙ ap before.agents (sym w.0)
      | inr w ↦ w.1
    ]

    -- where nobody gives it, all is as it was
    nearly_then : before.net.counts d ≡ (before.agents d).number → Nearly before → Nearly made
    nearly_then its near = record {
      same = λ y. same_then lists y net before.net made.net (near.same y) (untouched before.net made.net refl refl refl refl refl refl y);
      agents = λ e e_leaf. agents_kept its e ∙ near.agents e e_leaf;
      setpoints = near.setpoints;
      channels = made_next lists p before.net.counts before.net.bids_sent sys.bids_sent d near.channels;
      prices = near.prices;
    }

  module _ (d : ℕ) (agent : DeviceAgent) (bid : BidMessage) (made_so : DeviceChanges lists p sys d agent bid) where
    d_node : IsNode lists d
    d_node = leaf_node lists market.law d made_so.leaf

    abbrev n : ℕ
    n = (sys.agents d).number + 2

    -- its bid is the one that the network has under its next number
    bid_same : device_bid lists p d ((sys.agents d).number + 2) ≡ bid
    bid_same = elim made_so.change [
      | inl offers ↦ ap (λ b. bid_message ((sys.agents d).number + 2) (not b) (p.demand d ((sys.agents d).number + 2))) offers.member
          ∙ sym offers.bid_is
      | inr leaves ↦ ap (λ b. bid_message ((sys.agents d).number + 2) (not b) (p.demand d ((sys.agents d).number + 2))) leaves.absent
          ∙ ap (bid_message ((sys.agents d).number + 2) true) (market.absent d ((sys.agents d).number + 2) made_so.leaf leaves.absent)
          ∙ sym leaves.bid_is
    ]

    number_after : agent.number ≡ (sys.agents d).number + 2
    number_after = elim made_so.change [
      | inl offers ↦ ap (λ (a : DeviceAgent). a.number) offers.offered
      | inr leaves ↦ ap (λ (a : DeviceAgent). a.number) leaves.left
    ]

    -- once the number of its parent is made, it makes its own
    module _ (before : Devices) (near : Nearly before) (next : before.net.counts d ≡ (sys.agents d).number + 1) where
      abbrev after : Devices
      after = after_change lists p before d

      agent_before : before.agents d ≡ sys.agents d
      agent_before = near.agents d made_so.leaf

      not_parents : eqb (before.net.counts d) (before.agents d).number ≡ false
      not_parents = ne_eqb (before.net.counts d) (before.agents d).number
          (λ e. omega (arith, e, next, ap (λ (a : DeviceAgent). a.number) agent_before))

      n_is : before.net.counts d + 1 ≡ (sys.agents d).number + 2
      n_is = omega (arith, next)

      may : may_change lists before d ≡ true
      may = and_from (may_bid lists before.net d) _
          (and_from (is_leaf lists d) (ltb (before.net.counts d) (changes lists d)) made_so.leaf
          (lt-ltb (before.net.counts d) (changes lists d) (omega (arith, made_so.has_next, next))))
          (or_true (eqb (before.net.counts d) (before.agents d).number) _
          (elim made_so.change [
            | inl offers ↦ or_true (not (is_member lists d (before.net.counts d + 1))) (may_offer (before.agents d))
                (ap may_offer agent_before ∙ offers.may)
            | inr leaves ↦ ap (λ b. not b || may_offer (before.agents d)) (ap (is_member lists d) n_is ∙ leaves.absent)
          ]))

      agent_same : agent_after_change lists p d (before.net.counts d + 1) (before.agents d) ≡ agent
      agent_same =
          cond-false (eqb (before.net.counts d + 1) ((before.agents d).number + 1)) (before.agents d)
          (agent_after_own lists p d (before.net.counts d + 1) (before.agents d))
          (ne_eqb (before.net.counts d + 1) ((before.agents d).number + 1) (λ e. omega (arith, e, next, ap (λ (a : DeviceAgent). a.number) agent_before)))
          ∙ ap (agent_after_own lists p d (before.net.counts d + 1)) agent_before
          ∙ ap (λ (i : ℕ). agent_after_own lists p d i (sys.agents d)) n_is
          ∙ elim made_so.change [
            | inl offers ↦ cond-true (is_member lists d ((sys.agents d).number + 2)) (after_offer (sys.agents d) (p.demand d ((sys.agents d).number + 2)))
                (after_leaving (sys.agents d)) offers.member ∙ sym offers.offered
            | inr leaves ↦ cond-false (is_member lists d ((sys.agents d).number + 2)) (after_offer (sys.agents d) (p.demand d ((sys.agents d).number + 2)))
                (after_leaving (sys.agents d)) leaves.absent ∙ sym leaves.left
          ]

      agents_same : (e : ℕ) → IsLeaf lists e → after.agents e ≡ update sys.agents d agent e
      agents_same e leaf = updated_alike before.agents sys.agents d (agent_after_change lists p d (before.net.counts d + 1) (before.agents d)) e
          (near.agents e leaf) ∙ ap (λ (a : DeviceAgent). update sys.agents d a e) agent_same

      counts_after : (e : ℕ) → (e ≡ d → ⊥) → after.net.counts e ≡ before.net.counts e
      counts_after e ne = updated_other before.net.counts d (before.net.counts d + 1) e ne

      channels_after : ChannelsAre lists p after.net.counts after.net.bids_sent sys.bids_sent
      channels_after = made_next lists p before.net.counts before.net.bids_sent sys.bids_sent d near.channels

      in_channel : IsIn p (after.net.bids_sent d) bid
      in_channel =
          let made_one : 1 ≤ before.net.counts d + 1 = omega arith in
          subst (λ (b : BidMessage). IsIn p (after.net.bids_sent d) b) (ap (device_bid lists p d) n_is ∙ bid_same)
          (new_in p before.net.bids_sent d (device_bid lists p d (before.net.counts d + 1)))

      is_then : ((e : ℕ) → (e ≡ d → ⊥) → before.net.counts e ≡ net.counts e) → (bids : ℕ → List BidMessage) →
          ChannelsAre lists p after.net.counts after.net.bids_sent bids →
          ((e : ℕ) → (e ≡ d → ⊥) → bids e ≡ sys.bids_sent e) →
          SystemIs lists p numbering after (record sys { agents = update sys.agents d agent; bids_sent = bids })
      is_then others bids bids_are same_bids =
          device_moves lists p numbering market.places devices sys sys_is market.by_nodes.limits_alike after d made_so.leaf d_node
          (λ y ne. same_then lists y net before.net after.net (near.same y) (untouched before.net after.net refl refl refl refl refl refl y))
          (update sys.agents d agent) agents_same sys.setpoints near.setpoints bids bids_are
          (λ e leaf. elim (cases_eq e d) [
            | inl same ↦ inl (ap after.net.counts same ∙ updated_same before.net.counts d (before.net.counts d + 1) ∙ n_is ∙ sym number_after
                ∙ sym (ap (λ (a : DeviceAgent). a.number) (ap (update sys.agents d agent) same ∙ updated_same sys.agents d agent)))
            | inr ne ↦
                let Is : ℕ → DeviceAgent → List BidMessage → Type 0 = λ c a l. (c ≡ a.number) ⊎ IsExpired lists e c a.number l in
                subst (λ (c : ℕ). Is c (update sys.agents d agent e) (bids e)) (sym (counts_after e ne ∙ others e ne))
                (subst (λ (a : DeviceAgent). Is (net.counts e) a (bids e)) (sym (updated_other sys.agents d agent e ne))
                (subst (λ (l : List BidMessage). Is (net.counts e) (sys.agents e) l) (sym (same_bids e ne)) (sys_is.counted e leaf)))
          ])
          near.prices

    -- a change: first the parent's number, where it is not made yet, then its own
    record Changed (bids : ℕ → List BidMessage) : Type 0 where
      events : List Event
      is : SystemIs lists p numbering (devices_after lists p devices events) (record sys { agents = update sys.agents d agent; bids_sent = bids })
      runs : (y : ℕ) → RunsOn y events

    changed_by : (bids : ℕ → List BidMessage) → ((e : ℕ) → (e ≡ d → ⊥) → bids e ≡ sys.bids_sent e) →
        ((counts : ℕ → ℕ) (net_bids : ℕ → List BidMessage) → ChannelsAre lists p counts net_bids sys.bids_sent → IsIn p (net_bids d) bid →
        ChannelsAre lists p counts net_bids bids) → Changed bids
    changed_by bids same_bids channels =
        let Is : Devices → Type 0 = λ w. SystemIs lists p numbering w (record sys { agents = update sys.agents d agent; bids_sent = bids }) in
        elim (agent_is d made_so.leaf).number [
          | inl its ↦
              let number_is : net.counts d ≡ (devices.agents d).number = its ∙ ap (λ (a : DeviceAgent). a.number) (sym (sys_is.agents d made_so.leaf)) in
              let first : Devices = after_change lists p devices d in
              let near : Nearly (after_change lists p devices d) = nearly_then d made_so.leaf devices number_is as_it_is in
              let next : first.net.counts d ≡ (sys.agents d).number + 1 = omega (arith, updated_same net.counts d (net.counts d + 1), its) in
              let stepped = steps d made_so.leaf devices (parents_may d made_so.leaf devices number_is (omega (arith, made_so.has_next, its))) in
              record {
                events = Bids d ∷ Bids d ∷ [];
                is = subst (λ (w : Devices). Is (devices_step lists p w (Bids d))) (sym stepped)
                    (subst Is (sym (steps d made_so.leaf first (may first near next)))
                    (is_then first near next (λ e ne. updated_other net.counts d (net.counts d + 1) e ne) bids
                    (channels _ _ (channels_after first near next) (in_channel first near next)) same_bids));
                runs = λ y. (tt, (tt, tt));
              }
          | inr next ↦ record {
            events = Bids d ∷ [];
            is = subst Is (sym (steps d made_so.leaf devices (may devices as_it_is next)))
                (is_then devices as_it_is next (λ e ne. refl) bids
                (channels _ _ (channels_after devices as_it_is next) (in_channel devices as_it_is next)) same_bids);
            runs = λ y. (tt, tt);
          }
        ]

    -- a device that bids or leaves does what the network does
    pub bids : (new : System) →
        new ≡ record sys { agents = update sys.agents d agent; bids_sent = update sys.bids_sent d (sys.bids_sent d ++ bid ∷ []) } →
        Follows lists p numbering devices (call.Bids d) new
    bids new new_is =
        let did = changed_by (update sys.bids_sent d (sys.bids_sent d ++ bid ∷ []))
        (λ e ne. updated_other sys.bids_sent d (sys.bids_sent d ++ bid ∷ []) e ne)
        (λ counts net_bids are at. pushed_here lists p counts net_bids sys.bids_sent d bid are at) in
        record {
          events = did.events;
          is = subst (λ (t : System). SystemIs lists p numbering (devices_after lists p devices did.events) t) (sym new_is) did.is;
          restarts = λ y up. did.runs y;
        }

    -- so does one that stores its bid and stops: in the network the bid was sent and lost
    pub stops : (new : System) → new ≡ with_agent sys d agent → Follows lists p numbering devices (call.StopsBidding d) new
    stops new new_is =
        let did = changed_by sys.bids_sent (λ e ne. refl) (λ counts net_bids are at. are) in
        record {
          events = did.events;
          is = subst (λ (t : System). SystemIs lists p numbering (devices_after lists p devices did.events) t) (sym new_is) did.is;
          restarts = λ y up. did.runs y;
        }

  -- ---- a bid of it that is in the network's channel is sent

  -- one more message in its channel
  grown : (d : ℕ) (bid : BidMessage) (e : ℕ) → IsLeaf lists e →
      (net.counts e ≡ (sys.agents e).number)
      ⊎ IsExpired lists e (net.counts e) (sys.agents e).number (update sys.bids_sent d (sys.bids_sent d ++ bid ∷ []) e)
  grown d bid e leaf = elim (sys_is.counted e leaf) [
    | inl same ↦ inl same
    | inr at ↦ inr (record { next = at.next; absent = at.absent; bid = at.bid; sent = still_sent at.bid at.sent; its = at.its })
  ]
    where
      still_sent : (b : BidMessage) → Contains (sys.bids_sent e) b → Contains (update sys.bids_sent d (sys.bids_sent d ++ bid ∷ []) e) b
      still_sent b at = elim (updated_at sys.bids_sent d (sys.bids_sent d ++ bid ∷ []) e) [
        | inl w ↦ subst (λ (l : List BidMessage). Contains l b) (sym w.1)
            (contains_push (sys.bids_sent d) bid b (subst (λ (z : ℕ). Contains (sys.bids_sent z) b) w.0 at))
        | inr w ↦ subst (λ (l : List BidMessage). Contains l b) (sym w.1) at
      ]

  sends_known : (d : ℕ) (bid : BidMessage) → IsLeaf lists d → IsIn p (net.bids_sent d) bid →
      SystemIs lists p numbering devices (with_bid_sent sys d bid)
  sends_known d bid leaf at =
      device_moves lists p numbering market.places devices sys sys_is market.by_nodes.limits_alike devices d leaf (leaf_node lists market.law d leaf)
      (λ y ne. untouched net net refl refl refl refl refl refl y) sys.agents sys_is.agents sys.setpoints sys_is.setpoints
      (update sys.bids_sent d (sys.bids_sent d ++ bid ∷ []))
      (pushed_here lists p net.counts net.bids_sent sys.bids_sent d bid sys_is.channels at) (grown d bid) sys_is.prices_sent

  counts_least : (d : ℕ) → IsLeaf lists d → (sys.agents d).number ≤ net.counts d
  counts_least d leaf = elim (agent_is d leaf).number [
    | inl e ↦ omega (arith, e)
    | inr e ↦ omega (arith, e)
  ]

  -- one that sends its newest bid again
  pub resends : (d : ℕ) (new : System) → DeviceResends lists p sys d new → Follows lists p numbering devices (call.Resends d) new
  resends d new did =
      let bid : BidMessage = bid_kept p (sys.agents d).number (newest_demand (sys.agents d)) in
      let bid_is : device_bid lists p d (sys.agents d).number ≡ bid =
      sym (newest_kept lists p numbering market d did.leaf (net.counts d) (net.taken d).index (sys.agents d) (agent_is d did.leaf)) in
      record {
        events = [];
        is = subst (λ (t : System). SystemIs lists p numbering devices t) (sym did.new_is)
            (sends_known d bid did.leaf (subst (λ (b : BidMessage). IsIn p (net.bids_sent d) b) bid_is
            (sys_is.channels.made d (sys.agents d).number did.leaf did.some (counts_least d did.leaf))));
        restarts = λ y up. tt;
      }

  -- ---- it expires

  gone_bid : (d n : ℕ) → IsLeaf lists d → is_member lists d n ≡ false → device_bid lists p d n ≡ bid_message n true (zeros p.steps)
  gone_bid d n leaf absent = ap (λ b. bid_message n (not b) (p.demand d n)) absent ∙ ap (bid_message n true) (market.absent d n leaf absent)

  -- its parent gives the number after one of it
  pub expires : (d n : ℕ) (new : System) → DeviceExpires lists p sys d n new → Follows lists p numbering devices (call.Expires d n) new
  expires d n new did = elim (cases_lt n (net.counts d + 1)) [
    | inl made ↦ record {
      events = [];
      is = subst (λ (t : System). SystemIs lists p numbering devices t) (sym did.new_is)
          (sends_known d (bid_message n true (zeros p.steps)) did.leaf (subst (λ (b : BidMessage). IsIn p (net.bids_sent d) b)
          (gone_bid d n did.leaf did.absent)
          (sys_is.channels.made d n did.leaf (omega (arith, did.odd)) (omega (arith, made)))));
      restarts = λ y up. tt;
    }
    | inr above ↦
        let its : net.counts d ≡ (sys.agents d).number = omega (arith, above, did.within, counts_least d did.leaf) in
        let number_is : net.counts d ≡ (devices.agents d).number = its ∙ ap (λ (a : DeviceAgent). a.number) (sym (sys_is.agents d did.leaf)) in
        let n_is : net.counts d + 1 ≡ n = omega (arith, above, did.within, its) in
        let first : Devices = after_change lists p devices d in
        let near : Nearly (after_change lists p devices d) = nearly_then d did.leaf devices number_is as_it_is in
        let bid : BidMessage = bid_message n true (zeros p.steps) in
        let at : IsIn p (first.net.bids_sent d) bid = subst (λ (b : BidMessage). IsIn p (first.net.bids_sent d) b)
        (ap (device_bid lists p d) n_is ∙ gone_bid d n did.leaf did.absent) (new_in p net.bids_sent d (device_bid lists p d (net.counts d + 1))) in
        let after_is : SystemIs lists p numbering first (with_bid_sent sys d bid) =
        device_moves lists p numbering market.places devices sys sys_is market.by_nodes.limits_alike first d did.leaf (leaf_node lists market.law d did.leaf)
        (λ y ne. near.same y) sys.agents near.agents sys.setpoints near.setpoints
        (update sys.bids_sent d (sys.bids_sent d ++ bid ∷ []))
        (pushed_here lists p first.net.counts first.net.bids_sent sys.bids_sent d bid near.channels at)
        (λ e leaf. elim (updated_at net.counts d (net.counts d + 1) e) [
          | inl w ↦ inr (record {
            next = w.1 ∙ ap (λ (i : ℕ). i + 1) its ∙ ap (λ (z : ℕ). (sys.agents z).number + 1) (sym w.0);
            absent = ap (λ (z : ℕ). is_member lists z ((sys.agents z).number + 1)) w.0
                ∙ ap (is_member lists d) (let s : (sys.agents d).number + 1 ≡ n = omega (arith, n_is, its) in s) ∙ did.absent;
            bid = bid;
            sent = subst (λ (l : List BidMessage). Contains l bid) (sym (ap (update sys.bids_sent d (sys.bids_sent d ++ bid ∷ [])) w.0
                ∙ updated_same sys.bids_sent d (sys.bids_sent d ++ bid ∷ []))) (contains_new (sys.bids_sent d) bid);
            its = omega (arith, n_is, its, ap (λ (z : ℕ). (sys.agents z).number) w.0);
          })
          | inr w ↦
              let Is : ℕ → Type 0 = λ c. (c ≡ (sys.agents e).number) ⊎ IsExpired lists e c (sys.agents e).number
              (update sys.bids_sent d (sys.bids_sent d ++ bid ∷ []) e) in
              subst Is (sym w.1) (grown d bid e leaf)
        ]) near.prices in
        record {
          events = Bids d ∷ [];
          is = subst (λ (w : Devices). SystemIs lists p numbering w new) (sym (steps d did.leaf devices
              (parents_may d did.leaf devices number_is (omega (arith, did.has_next, n_is)))))
              (subst (λ (t : System). SystemIs lists p numbering first t) (sym did.new_is) after_is);
          restarts = λ y up. (tt, tt);
        }
  ]

  -- ---- a price

  answered_number : (agent : DeviceAgent) (price : PriceMessage) (o : Option Offer) → (answered_by agent price o).number ≡ agent.number
  answered_number agent price None = refl
  answered_number agent price (Some offer) = refl

  price_number : (agent : DeviceAgent) (price : PriceMessage) → (after_price agent price).number ≡ agent.number
  price_number agent price = either (λ (a : DeviceAgent). a.number ≡ agent.number) (ltb agent.index price.index)
      (answered_by agent price (kept_offer agent price.number)) agent (λ e. answered_number agent price (kept_offer agent price.number)) (λ e. refl)

  -- an agent changes, but for its number
  numbers_kept : (d : ℕ) (agent : DeviceAgent) → agent.number ≡ (sys.agents d).number → (counts : ℕ → ℕ) → counts ≡ net.counts →
      (e : ℕ) →
      IsLeaf lists e →
      (counts e ≡ (update sys.agents d agent e).number) ⊎ IsExpired lists e (counts e) (update sys.agents d agent e).number (sys.bids_sent e)
  numbers_kept d agent same counts counts_same e leaf =
      let Is : ℕ → Type 0 = λ i. (counts e ≡ i) ⊎ IsExpired lists e (counts e) i (sys.bids_sent e) in
      let number_is : (update sys.agents d agent e).number ≡ (sys.agents e).number = elim (updated_at sys.agents d agent e) [
        | inl w ↦ ap (λ (a : DeviceAgent). a.number) w.1 ∙ same ∙ ap (λ (z : ℕ). (sys.agents z).number) (sym w.0)
        | inr w ↦ ap (λ (a : DeviceAgent). a.number) w.1
      ] in
      subst Is (sym number_is) (counted_still lists p numbering market.places devices sys sys_is counts counts_same e leaf)

  -- what is so of a network in which a device may have taken a price
  leaf_takes : (d k : ℕ) → IsLeaf lists d → (Q : Network → Type 0) → Q net → Q (after_taking_price net d (sent_price net d k)) →
      Q (network_step lists p net (TakesPrice d k))
  leaf_takes d k leaf Q nothing taken =
      let price : PriceMessage = sent_price net d k in
      either Q (is_new_price lists net d price) (cond (is_leaf lists d) (after_taking_price net d price) (after_relay_price lists p net d price)) net
      (λ e. subst Q (sym (cond-true (is_leaf lists d) (after_taking_price net d price) (after_relay_price lists p net d price) leaf)) taken)
      (λ e. nothing)

  -- one that takes a price
  pub takes_price : (d k : ℕ) (new : System) → DeviceTakesPrice lists sys d k new → Follows lists p numbering devices (call.TakesPrice d k) new
  takes_price d k new did =
      let step : Network = network_step lists p net (TakesPrice d k) in
      let after : Devices = after_given devices d k step in
      let d_node : IsNode lists d = leaf_node lists market.law d did.leaf in
      let price_is : sent_price net d k ≡ price_in_channel sys d k = sym (same_price lists p numbering market.places devices sys sys_is d k d_node) in
      let agent_same : after_price (devices.agents d) (sent_price net d k) ≡ after_price (sys.agents d) (price_in_channel sys d k) =
      ap (λ (a : DeviceAgent). after_price a (sent_price net d k)) (sys_is.agents d did.leaf) ∙ ap (after_price (sys.agents d)) price_is in
      let given_same : setpoints_for (devices.agents d) (sent_price net d k) ≡ setpoints_for (sys.agents d) (price_in_channel sys d k) =
      ap (λ (a : DeviceAgent). setpoints_for a (sent_price net d k)) (sys_is.agents d did.leaf) ∙ ap (setpoints_for (sys.agents d)) price_is in
      let Is : Devices → Type 0 = λ w. SystemIs lists p numbering w new in
      record {
        events = TakesPrice d k ∷ [];
        is = subst Is (sym (cond-true (is_leaf lists d) after (with_network devices step) did.leaf))
            (subst (λ (t : System). SystemIs lists p numbering after t) (sym did.new_is)
            (device_moves lists p numbering market.places devices sys sys_is market.by_nodes.limits_alike after d did.leaf d_node
            (λ y ne. same_elsewhere lists p net y (TakesPrice d k) (λ e. ne (sym e)))
            _ (λ e leaf. updated_alike devices.agents sys.agents d (after_price (devices.agents d) (sent_price net d k)) e (sys_is.agents e leaf)
            ∙ ap (λ (a : DeviceAgent). update sys.agents d a e) agent_same)
            _ (λ e leaf. updated_alike devices.setpoints sys.setpoints d (devices.setpoints d ++ setpoints_for (devices.agents d) (sent_price net d k)) e
            (sys_is.setpoints e leaf)
            ∙ ap (λ (l : List Setpoint). update sys.setpoints d (l ++ setpoints_for (devices.agents d) (sent_price net d k)) e)
            (sys_is.setpoints d did.leaf)
            ∙ ap (λ (l : List Setpoint). update sys.setpoints d (sys.setpoints d ++ l) e) given_same)
            sys.bids_sent
            (channels_still lists p numbering market.places devices sys sys_is step.counts step.bids_sent
            (leaf_takes d k did.leaf (λ (w : Network). w.counts ≡ net.counts) refl refl)
            (leaf_takes d k did.leaf (λ (w : Network). w.bids_sent ≡ net.bids_sent) refl refl))
            (numbers_kept d (after_price (sys.agents d) (price_in_channel sys d k)) (price_number (sys.agents d) (price_in_channel sys d k))
            step.counts (leaf_takes d k did.leaf (λ (w : Network). w.counts ≡ net.counts) refl refl))
            (λ x node. leaf_takes d k did.leaf (λ (w : Network). w.prices_sent x ≡ net.prices_sent x) refl refl ∙ sys_is.prices_sent x node)));
        restarts = λ y up. (tt, tt);
      }

  -- ---- it comes back

  pub comes_up : ComesBackAsStored → (d k : ℕ) (new : System) → DeviceRestarts lists sys d k new → Follows lists p numbering devices
      (call.Restarts d k) new
  comes_up back d k new did =
      let kept : PriceMessage = restarts.stored_price net d k in
      let a : DeviceAgent = sys.agents d in
      let d_node : IsNode lists d = leaf_node lists market.law d did.leaf in
      let after : Devices = record devices {
        net = after_restart lists p net d k;
        agents = update devices.agents d (after_coming_back (devices.agents d) kept.index);
      } in
      let agent_same : after_coming_back (devices.agents d) kept.index
      ≡ agent_stored a.number (newest_demand a) (price_stored sys d k a.answered a.index).index =
      ap (λ (b : DeviceAgent). after_coming_back b kept.index) (sys_is.agents d did.leaf)
      ∙ ap (after_coming_back a) (sym (stored_same d k did.leaf d_node))
      ∙ sym (back a (price_stored sys d k a.answered a.index).index (agent_is d did.leaf).window) in
      record {
        events = Restarts d k ∷ [];
        is = subst (λ (t : System). SystemIs lists p numbering after t) (sym did.new_is)
            (device_moves lists p numbering market.places devices sys sys_is market.by_nodes.limits_alike after d did.leaf d_node
            (λ y ne. same_elsewhere lists p net y (Restarts d k) (λ e. ne (sym e)))
            _ (λ e leaf. updated_alike devices.agents sys.agents d (after_coming_back (devices.agents d) kept.index) e (sys_is.agents e leaf)
            ∙ ap (λ (b : DeviceAgent). update sys.agents d b e) agent_same)
            sys.setpoints sys_is.setpoints sys.bids_sent sys_is.channels
            (numbers_kept d (agent_stored a.number (newest_demand a) (price_stored sys d k a.answered a.index).index) refl net.counts refl)
            sys_is.prices_sent);
        restarts = λ y up. (up, tt);
      }
    where
      -- the index that it stored is the network's
      stored_same : (d k : ℕ) → IsLeaf lists d → IsNode lists d →
          (price_stored sys d k (sys.agents d).answered (sys.agents d).index).index ≡ (restarts.stored_price net d k).index
      stored_same d k leaf node =
          let held : PriceMessage = record { number = (sys.agents d).answered; index = (sys.agents d).index; step = 0 } in
          let index_is : (sys.agents d).index ≡ (net.taken d).index = (agent_is d leaf).its_index in
          let test : Bool = leb (sent_price net d k).index (net.taken d).index in
          let own : price_stored sys d k (sys.agents d).answered (sys.agents d).index ≡ cond test (sent_price net d k) held =
          ap (λ (q : PriceMessage). cond (leb q.index (sys.agents d).index) q held) (same_price lists p numbering market.places devices sys sys_is d k node)
          ∙ ap (λ (i : ℕ). cond (leb (sent_price net d k).index i) (sent_price net d k) held) index_is in
          elim (cases_Bool test) [
            | inl e ↦ ap (λ (q : PriceMessage). q.index) (own ∙ cond-true test (sent_price net d k) held e
                ∙ sym (cond-true test (sent_price net d k) (net.taken d) e))
            | inr e ↦ ap (λ (q : PriceMessage). q.index) (own ∙ cond-false test (sent_price net d k) held e) ∙ index_is
                ∙ ap (λ (q : PriceMessage). q.index) (sym (cond-false test (sent_price net d k) (net.taken d) e))
          ]
