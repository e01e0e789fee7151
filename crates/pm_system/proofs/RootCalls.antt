-- The calls of the root are events of the network.
use Rattle.std.proofs.Common.{◌≡◌, ◌∙◌, sym, ap, subst, ℕ, true, List, [], ◌∷◌, ◌++◌, inl, inr, refl}
use Rattle.std.proofs.lemmas.Bool.{cases_eq, both_ways}
use Rattle.pm_bid.specs.Bids.{zeros}
use Rattle.pm_market.specs.Lists.{Lists, is_leaf}
use Rattle.pm_market.specs.State.{State, update}
use Rattle.pm_market.proofs.Cuts.{updated_same, updated_other}
use Rattle.pm_market.proofs.Tree.{leaf_zero}
use Rattle.pm_net.specs.Pricing.{Pricing}
use Rattle.pm_net.specs.Messages.{BidMessage, PriceMessage}
use Rattle.pm_net.specs.Network.{Network, sent_bid}
use Rattle.pm_net.specs.Running.{is_new_bid, after_taking_bid, can_clear, after_clearing}
use Rattle.pm_net.specs.Restarts as restarts
use Rattle.pm_net.specs.Restarts.{can_rebuild, after_rebuilding, auctioneer_stopped, can_tell_one, after_telling_one, after_restart}
use Rattle.pm_net.specs.Events.{network_step, TakesBid, Rebuilds, Clears, StopsClearing, TellsOne, Restarts}
use Rattle.pm_net.specs.Agrees.{NetworkAgrees}
use Rattle.pm_net.specs.Agents.{after_coming_back}
use Rattle.pm_net.specs.Devices.{Devices, with_network}
use Rattle.pm_net.proofs.Messages.{either}
use Rattle.pm_net_plan.specs.Places.{Numbering}
use Rattle.pm_relay.specs.Roots.{RootValue, with_root_bid, LooksForClearing}
use Rattle.pm_relay_net.specs.RelayIs.{told_demand}
use Rattle.pm_relay_net.specs.RootIs.{RootIs, root_prices}
use Rattle.pm_relay_net.proofs.Elsewhere.{SameNode, same_elsewhere, same_then}
use Rattle.pm_relay_net.proofs.LeftAlone.{relay_stays, root_stays}
use Rattle.pm_relay_net.proofs.RootComingUp.{back_up}
use Rattle.pm_relay_net.proofs.RootLearning.{learns}
use Rattle.pm_relay_net.proofs.RootClearing as clearing
use Rattle.pm_relay_net.proofs.PricesDown.{none_to_others}
use Rattle.pm_system.specs.System.{System}
use Rattle.pm_system.specs.Calls as call
use Rattle.pm_system.specs.Calls.{RootTakesBid, RootClears, RootStops, RootTellsOne, RootRestarts}
use Rattle.pm_system.specs.Given.{IsTreeMarket}
use Rattle.pm_system.specs.Market.{SystemIs}
use Rattle.pm_system.proofs.Moving.{Follows, same_bid, bids_in, sent_prices, root_moves, its_place, channels_still, counted_still}
use Rattle.pm_system.proofs.RelayCalls.{sent_zeros}

module _ (lists : Lists) (p : Pricing) (numbering : Numbering) (market : IsTreeMarket lists p numbering) (devices : Devices) (s : State)
    (agrees : NetworkAgrees lists p devices.net s) (sys : System) (sys_is : SystemIs lists p numbering devices sys) where
  abbrev net : Network
  net = devices.net

  -- the root moves, and sends nothing
  moved : (after : Network) (root : RootValue) (new : System) → new ≡ record sys { root = root } → RootIs p numbering after root →
      ((y : ℕ) → (y ≡ 0 → ⊥) → SameNode lists y net after) → after.bids_sent ≡ net.bids_sent → after.prices_sent ≡ net.prices_sent →
      after.counts ≡ net.counts → SystemIs lists p numbering (with_network devices after) new
  moved after root new new_is root_is same bids prices counts =
      subst (λ (t : System). SystemIs lists p numbering (with_network devices after) t) (sym new_is)
      (root_moves lists p numbering market.places devices sys sys_is market.by_nodes.limits_alike
      (with_network devices after) root root_is same sys_is.agents sys_is.setpoints
      counts bids sys.prices_sent (λ z node. ap (λ f. f z) prices ∙ sys_is.prices_sent z node))

  -- ---- it learns a bid

  module _ (x k : ℕ) (new : System) (did : RootTakesBid lists p numbering sys x k new) where
    -- where the message is in the network's channel
    abbrev at : ℕ
    at = its_place lists p numbering market.places devices sys sys_is x k did.node did.inside

    none : (sent_bid p net x at).gone ≡ true → (sent_bid p net x at).demand ≡ zeros p.steps
    none = sent_zeros lists p numbering market net s agrees x at did.node (bids_in lists p numbering market.places devices sys sys_is x k did.node did.inside)

    looks : LooksForClearing (with_root_bid sys.root (numbering.place x) (sent_bid p net x at).number (told_demand (sent_bid p net x at))) did.root
    looks =
        let Looks : BidMessage → Type 0 = λ b. LooksForClearing (with_root_bid sys.root (numbering.place x) b.number (told_demand b)) did.root in
        subst Looks (same_bid lists p numbering market.places devices sys sys_is x k did.node did.inside) did.learnt

    abbrev once : Network
    once = network_step lists p net (TakesBid x at)

    abbrev twice : Network
    twice = network_step lists p once (Rebuilds 0)

    taken_channels : (once.bids_sent ≡ net.bids_sent) × (once.prices_sent ≡ net.prices_sent) × (once.counts ≡ net.counts)
    taken_channels = either (λ (w : Network). (w.bids_sent ≡ net.bids_sent) × (w.prices_sent ≡ net.prices_sent) × (w.counts ≡ net.counts))
        (is_new_bid lists net x (sent_bid p net x at)) (after_taking_bid net x (sent_bid p net x at)) net (λ e. (refl, refl, refl)) (λ e. (refl, refl, refl))

    rebuilt_channels : (twice.bids_sent ≡ once.bids_sent) × (twice.prices_sent ≡ once.prices_sent) × (twice.counts ≡ once.counts)
    rebuilt_channels = either (λ (w : Network). (w.bids_sent ≡ once.bids_sent) × (w.prices_sent ≡ once.prices_sent) × (w.counts ≡ once.counts))
        (can_rebuild lists once 0) (after_rebuilding once 0) once (λ e. (refl, refl, refl)) (λ e. (refl, refl, refl))

    same_once : (y : ℕ) → (y ≡ 0 → ⊥) → SameNode lists y net once
    same_once y ne = same_elsewhere lists p net y (TakesBid x at) (λ e. ne (sym e ∙ did.below))

    -- a root that takes a bid does what the network does
    pub takes_bid : Follows lists p numbering devices (call.TakesBid x k) new
    takes_bid = elim (learns lists p numbering net x at sys.root did.root market.places market.by_places did.node did.below sys_is.root none looks) [
      | inl is ↦ record {
        events = TakesBid x at ∷ [];
        is = moved once did.root new did.new_is is same_once taken_channels.0 taken_channels.1 taken_channels.2;
        restarts = λ y up. (tt, tt);
      }
      | inr is ↦ record {
        events = TakesBid x at ∷ Rebuilds 0 ∷ [];
        is = moved twice did.root new did.new_is is
            (λ y ne. same_then lists y net once twice (same_once y ne) (same_elsewhere lists p once y (Rebuilds 0) (λ e. ne (sym e))))
            (rebuilt_channels.0 ∙ taken_channels.0) (rebuilt_channels.1 ∙ taken_channels.1) (rebuilt_channels.2 ∙ taken_channels.2);
        restarts = λ y up. (tt, (tt, tt));
      }
    ]

  -- ---- it clears

  pub clears : (new : System) → RootClears lists numbering sys new → Follows lists p numbering devices call.Clears new
  clears new did =
      let after : Network = network_step lists p net Clears in
      let cleared = clearing.clears lists p numbering market.places net sys.root sys_is.root market.by_places did.root did.index did.step did.cleared in
      record {
        events = Clears ∷ [];
        is = subst (λ (t : System). SystemIs lists p numbering (with_network devices after) t) (sym did.new_is)
            (root_moves lists p numbering market.places devices sys sys_is market.by_nodes.limits_alike (with_network devices after) did.root cleared.0
            (λ y ne. same_elsewhere lists p net y Clears ne) sys_is.agents sys_is.setpoints
            (either (λ (w : Network). w.counts ≡ net.counts) (can_clear lists net) (after_clearing lists p net) net (λ e. refl) (λ e. refl))
            (either (λ (w : Network). w.bids_sent ≡ net.bids_sent) (can_clear lists net) (after_clearing lists p net) net (λ e. refl) (λ e. refl))
            _ (sent_prices lists p numbering market.places devices sys sys_is 0 (root_prices did.root) after.prices_sent cleared.2
            (λ x node ne. either (λ (w : Network). w.prices_sent x ≡ net.prices_sent x) (can_clear lists net) (after_clearing lists p net) net
            (λ e. none_to_others lists net.prices_sent 0 _ _ _ x ne) (λ e. refl))));
        restarts = λ y up. (tt, tt);
      }

  -- it stops before a price is sent
  pub stops : (new : System) → RootStops sys new → Follows lists p numbering devices call.StopsClearing new
  stops new did =
      let after : Network = network_step lists p net StopsClearing in
      record {
        events = StopsClearing ∷ [];
        is = moved after did.root new did.new_is
            (clearing.stops lists p numbering market.places net sys.root sys_is.root market.by_places did.root did.index did.step did.cleared)
            (λ y ne. same_elsewhere lists p net y StopsClearing ne)
            (either (λ (w : Network). w.bids_sent ≡ net.bids_sent) (can_clear lists net) (auctioneer_stopped net) net (λ e. refl) (λ e. refl))
            (either (λ (w : Network). w.prices_sent ≡ net.prices_sent) (can_clear lists net) (auctioneer_stopped net) net (λ e. refl) (λ e. refl))
            (either (λ (w : Network). w.counts ≡ net.counts) (can_clear lists net) (auctioneer_stopped net) net (λ e. refl) (λ e. refl));
        restarts = λ y up. (tt, tt);
      }

  -- ---- it tells a child again

  pub tells : (z : ℕ) (new : System) → RootTellsOne lists numbering sys z new → Follows lists p numbering devices (call.TellsOne z) new
  tells z new did =
      let after : Network = network_step lists p net (TellsOne z) in
      let same : (y : ℕ) → SameNode lists y net after = λ y. same_elsewhere lists p net y (TellsOne z) tt in
      let counts : after.counts ≡ net.counts =
      either (λ (w : Network). w.counts ≡ net.counts) (can_tell_one lists net z) (after_telling_one p net z) net (λ e. refl) (λ e. refl) in
      let more : List PriceMessage = sys.prices_sent z ++ root_prices sys.root (numbering.place z) in
      record {
        events = TellsOne z ∷ [];
        is = subst (λ (t : System). SystemIs lists p numbering (with_network devices after) t) (sym did.new_is) (record {
          root = root_stays lists p numbering market.places net after sys.root (same 0) sys_is.root;
          relays = λ y conc. relay_stays lists p numbering market.places market.by_nodes.limits_alike net after y (sys.relays y) (same y)
              (sys_is.relays y conc);
          agents = sys_is.agents;
          setpoints = sys_is.setpoints;
          channels = channels_still lists p numbering market.places devices sys sys_is after.counts after.bids_sent counts
              (either (λ (w : Network). w.bids_sent ≡ net.bids_sent) (can_tell_one lists net z) (after_telling_one p net z) net (λ e. refl) (λ e. refl));
          counted = counted_still lists p numbering market.places devices sys sys_is after.counts counts;
          prices_sent = λ x node. elim (cases_eq x z) [
            | inl e ↦ ap after.prices_sent e
                ∙ clearing.tells lists p numbering market.places net sys.root sys_is.root z did.node did.below did.has did.same
                ∙ ap (λ (l : List PriceMessage). l ++ root_prices sys.root (numbering.place z)) (sys_is.prices_sent z did.node)
                ∙ sym (ap (update sys.prices_sent z more) e ∙ updated_same sys.prices_sent z more)
            | inr ne ↦ either (λ (w : Network). w.prices_sent x ≡ net.prices_sent x) (can_tell_one lists net z) (after_telling_one p net z) net
                (λ e. updated_other net.prices_sent z _ x ne) (λ e. refl)
                ∙ sys_is.prices_sent x node ∙ sym (updated_other sys.prices_sent z more x ne)
          ];
        });
        restarts = λ y up. (tt, tt);
      }

  -- ---- it comes back

  pub comes_up : (y k : ℕ) (new : System) → y ≡ 0 → RootRestarts p sys new → Follows lists p numbering devices (call.Restarts y k) new
  comes_up y k new zero did =
      let after : Devices = record devices {
        net = after_restart lists p net 0 k;
        agents = update devices.agents 0 (after_coming_back (devices.agents 0) (restarts.stored_price net 0 k).index);
      } in
      record {
        events = Restarts 0 k ∷ [];
        is = subst (λ (t : System). SystemIs lists p numbering after t) (sym did.new_is)
            (root_moves lists p numbering market.places devices sys sys_is market.by_nodes.limits_alike after did.root
            (back_up lists p numbering market.places net k sys.root did.root sys_is.root.matches did.back)
            (λ x ne. same_elsewhere lists p net x (Restarts 0 k) (λ e. ne (sym e)))
            (λ d leaf. updated_other devices.agents 0 _ d
            (λ e. both_ways (is_leaf lists d) (ap (is_leaf lists) e ∙ leaf_zero lists) leaf) ∙ sys_is.agents d leaf)
            sys_is.setpoints refl refl sys.prices_sent sys_is.prices_sent);
        restarts = λ x up. (λ e. up (zero ∙ e), tt);
      }
