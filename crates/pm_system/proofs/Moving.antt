-- One node of a system moves, and the others stay what the network has of them.
use Rattle.std.proofs.Common.{◌≡◌, ◌⊎◌, ◌∙◌, sym, ap, subst, ℕ, ◌+◌, ◌<◌, eqb, List, [], ◌∷◌, ◌++◌, length}
use Rattle.std.proofs.Common.{get_or, arith, inl, inr, refl}
use Rattle.std.proofs.lemmas.Bool.{cases_eq, cond-true, cond-false, eq-eqb, ne_eqb, both_ways}
use Rattle.pm_market.specs.Lists.{Lists, parent, is_leaf, IsNode, IsLeaf, IsConcentrator, Lawful}
use Rattle.pm_market.specs.State.{update}
use Rattle.pm_market.proofs.Cuts.{updated_same, updated_other}
use Rattle.pm_net.specs.Pricing.{Pricing, LimitsGoByDevices}
use Rattle.pm_net.specs.Messages.{BidMessage, PriceMessage, nothing_heard, no_price}
use Rattle.pm_net.specs.Network.{Network, sent_bid, sent_price}
use Rattle.pm_net.specs.Running.{device_bid}
use Rattle.pm_net.proofs.Messages.{each_push, some_push, new_push}
use Rattle.pm_laws.proofs.Facts.{updated_at}
use Rattle.pm_net.specs.Events.{Event, RunsOn}
use Rattle.pm_net.specs.Agents.{Setpoint, DeviceAgent}
use Rattle.pm_net.specs.Devices.{Devices, devices_after}
use Rattle.pm_net_plan.specs.Places.{Numbering, IsNumbering}
use Rattle.pm_relay.specs.Relays.{RelayValue}
use Rattle.pm_relay.specs.Roots.{RootValue}
use Rattle.pm_relay_net.specs.RelayIs.{RelayIs}
use Rattle.pm_relay_net.specs.RootIs.{RootIs}
use Rattle.pm_relay_net.proofs.Elsewhere.{SameNode}
use Rattle.pm_relay_net.proofs.LeftAlone.{relay_stays, root_stays}
use Rattle.pm_system.specs.System.{System, bid_in_channel, price_in_channel, with_prices_sent}
use Rattle.pm_system.specs.Calls.{NodeCall, IsNoRestart}
use Rattle.pm_system.specs.Market.{IsIn, ChannelsAre, IsExpired, SystemIs}

-- after a call the system is what the devices' network has after some events
pub record Follows (lists : Lists) (p : Pricing) (numbering : Numbering) (devices : Devices) (call : NodeCall) (new : System) : Type 0 where
  -- the events
  pub events : List Event
  pub is : SystemIs lists p numbering (devices_after lists p devices events) new
  -- which restart no node that stayed up
  pub restarts : (x : ℕ) → IsNoRestart x call → RunsOn x events

-- a relay is neither a device nor the root
pub relay_no_leaf : (lists : Lists) (c d : ℕ) → IsConcentrator lists c → IsLeaf lists d → (d ≡ c → ⊥)
relay_no_leaf lists c d conc leaf e = both_ways (is_leaf lists d) (ap (is_leaf lists) e ∙ conc.2) leaf

-- a relay is not the root
pub relay_no_root : (lists : Lists) (c : ℕ) → IsConcentrator lists c → (c ≡ 0 → ⊥)
relay_no_root lists c conc e = omega (arith, e, conc.0)

-- the parent of a node is the root or a relay
pub parent_relay : (lists : Lists) → Lawful lists → (x : ℕ) → IsNode lists x → (parent lists x ≡ 0 → ⊥) →
    IsConcentrator lists (parent lists x)
parent_relay lists law x node below = (omega (arith, below), omega (arith, law.earlier x node, node.1), law.inner x node)

-- ---- channels of bids

-- a channel that grows
still_in : (p : Pricing) (channel : List BidMessage) (more bid : BidMessage) → IsIn p channel bid → IsIn p (channel ++ more ∷ []) bid
still_in p channel more bid at =
    let pushed = some_push (λ (b : BidMessage). b ≡ bid) channel more (nothing_heard p) (at.place, at.inside, at.is) in
    record { place = pushed.0; inside = pushed.1; is = pushed.2 }

still_there : (p : Pricing) (bids : ℕ → List BidMessage) (x : ℕ) (more : BidMessage) (y : ℕ) (bid : BidMessage) → IsIn p (bids y) bid →
    IsIn p (update bids x (bids x ++ more ∷ []) y) bid
still_there p bids x more y bid at = elim (updated_at bids x (bids x ++ more ∷ []) y) [
  | inl w ↦ subst (λ (l : List BidMessage). IsIn p l bid) (sym w.1)
      (still_in p (bids x) more bid (subst (λ (z : ℕ). IsIn p (bids z) bid) w.0 at))
  | inr w ↦ subst (λ (l : List BidMessage). IsIn p l bid) (sym w.1) at
]

-- what x sends is in its channel
pub new_in : (p : Pricing) (bids : ℕ → List BidMessage) (x : ℕ) (bid : BidMessage) → IsIn p (update bids x (bids x ++ bid ∷ []) x) bid
new_in p bids x bid =
    let pushed = new_push (λ (b : BidMessage). b ≡ bid) (bids x) bid (nothing_heard p) refl in
    subst (λ (l : List BidMessage). IsIn p l bid) (sym (updated_same bids x (bids x ++ bid ∷ [])))
    (record { place = pushed.0; inside = pushed.1; is = pushed.2 })

-- x sends a bid in the network alone
pub pushed_there : (lists : Lists) (p : Pricing) (counts : ℕ → ℕ) (bids sent_bids : ℕ → List BidMessage) (x : ℕ) (bid : BidMessage) →
    ChannelsAre lists p counts bids sent_bids → ChannelsAre lists p counts (update bids x (bids x ++ bid ∷ [])) sent_bids
pushed_there lists p counts bids sent_bids x bid are = record {
  sent = λ y k node inside. still_there p bids x bid y _ (are.sent y k node inside);
  made = λ d n leaf one le. still_there p bids x bid d _ (are.made d n leaf one le);
}

-- a bid that is in the network's channel is sent
pub pushed_here : (lists : Lists) (p : Pricing) (counts : ℕ → ℕ) (bids sent_bids : ℕ → List BidMessage) (x : ℕ) (bid : BidMessage) →
    ChannelsAre lists p counts bids sent_bids → IsIn p (bids x) bid →
    ChannelsAre lists p counts bids (update sent_bids x (sent_bids x ++ bid ∷ []))
pushed_here lists p counts bids sent_bids x bid are at = record {
  sent = λ y k node. elim (updated_at sent_bids x (sent_bids x ++ bid ∷ []) y) [
    | inl w ↦ subst (λ (l : List BidMessage). k < length l → IsIn p (bids y) (get_or l k (nothing_heard p))) (sym w.1)
        (λ inside. each_push (λ (b : BidMessage). IsIn p (bids y) b) (sent_bids x) bid (nothing_heard p)
        (λ i lt. subst (λ (z : ℕ). i < length (sent_bids z) → IsIn p (bids y) (get_or (sent_bids z) i (nothing_heard p))) w.0
        (are.sent y i node) lt)
        (subst (λ (z : ℕ). IsIn p (bids z) bid) (sym w.0) at) k inside)
    | inr w ↦ subst (λ (l : List BidMessage). k < length l → IsIn p (bids y) (get_or l k (nothing_heard p))) (sym w.1) (are.sent y k node)
  ];
  made = are.made;
}

-- the same channels
pub pointwise : (lists : Lists) (p : Pricing) (counts : ℕ → ℕ) (bids bids' sent_bids : ℕ → List BidMessage) →
    ((x : ℕ) → bids x ≡ bids' x) → ChannelsAre lists p counts bids sent_bids → ChannelsAre lists p counts bids' sent_bids
pointwise lists p counts bids bids' sent_bids same are = record {
  sent = λ x k node inside. subst (λ (l : List BidMessage). IsIn p l (get_or (sent_bids x) k (nothing_heard p))) (same x) (are.sent x k node inside);
  made = λ d n leaf one le. subst (λ (l : List BidMessage). IsIn p l (device_bid lists p d n)) (same d) (are.made d n leaf one le);
}

-- device d makes its next number, and sends it in the network
pub made_next : (lists : Lists) (p : Pricing) (counts : ℕ → ℕ) (bids sent_bids : ℕ → List BidMessage) (d : ℕ) →
    ChannelsAre lists p counts bids sent_bids →
    ChannelsAre lists p (update counts d (counts d + 1)) (update bids d (bids d ++ device_bid lists p d (counts d + 1) ∷ [])) sent_bids
made_next lists p counts bids sent_bids d are =
    let bid : BidMessage = device_bid lists p d (counts d + 1) in
    let more = pushed_there lists p counts bids sent_bids d bid are in
    record {
      sent = more.sent;
      made = λ e n leaf one. elim (updated_at counts d (counts d + 1) e) [
        | inl w ↦ λ le.
            elim (cases_eq n (counts d + 1)) [
              | inl same ↦
                  let In : ℕ → ℕ → Type 0 = λ y m. IsIn p (update bids d (bids d ++ bid ∷ []) y) (device_bid lists p y m) in
                  subst (λ (y : ℕ). In y n) (sym w.0) (subst (λ (m : ℕ). In d m) (sym same) (new_in p bids d bid))
              | inr ne ↦ more.made e n leaf one (omega (arith, le, w.1, ne, ap counts w.0))
            ]
        | inr w ↦ λ le. more.made e n leaf one (omega (arith, le, w.1))
      ];
    }

module _ (lists : Lists) (p : Pricing) (numbering : Numbering) (is : IsNumbering lists numbering) (devices : Devices) (sys : System)
    (sys_is : SystemIs lists p numbering devices sys) where
  abbrev net : Network
  net = devices.net

  -- the place in the network's channel of a message of the system
  abbrev pub its_place : (x k : ℕ) → IsNode lists x → k < length (sys.bids_sent x) → ℕ
  its_place x k node inside = (sys_is.channels.sent x k node inside).place

  -- a message of the system is the network's
  pub same_bid : (x k : ℕ) (node : IsNode lists x) (inside : k < length (sys.bids_sent x)) →
      bid_in_channel p sys x k ≡ sent_bid p net x (its_place x k node inside)
  same_bid x k node inside = sym (sys_is.channels.sent x k node inside).is

  -- a price in a place is the network's
  pub same_price : (x k : ℕ) → IsNode lists x → price_in_channel sys x k ≡ sent_price net x k
  same_price x k node = ap (λ (l : List PriceMessage). get_or l k no_price) (sym (sys_is.prices_sent x node))

  -- a place of a channel of bids is one of the network's
  pub bids_in : (x k : ℕ) (node : IsNode lists x) (inside : k < length (sys.bids_sent x)) → its_place x k node inside < length (net.bids_sent x)
  bids_in x k node inside = (sys_is.channels.sent x k node inside).inside

  -- what is so of the numbers of devices where nothing of them changes
  pub counted_still : (counts' : ℕ → ℕ) → counts' ≡ net.counts → (d : ℕ) → IsLeaf lists d →
      (counts' d ≡ (sys.agents d).number) ⊎ IsExpired lists d (counts' d) (sys.agents d).number (sys.bids_sent d)
  counted_still counts' same d leaf =
      let Is : (ℕ → ℕ) → Type 0 = λ f. (f d ≡ (sys.agents d).number) ⊎ IsExpired lists d (f d) (sys.agents d).number (sys.bids_sent d) in
      subst Is (sym same) (sys_is.counted d leaf)

  -- channels are those of a network with the same counts and bids
  pub channels_still : (counts' : ℕ → ℕ) (bids' : ℕ → List BidMessage) → counts' ≡ net.counts → bids' ≡ net.bids_sent →
      ChannelsAre lists p counts' bids' sys.bids_sent
  channels_still counts' bids' counts_same bids_same =
      subst (λ (f : ℕ → ℕ). ChannelsAre lists p f bids' sys.bids_sent) (sym counts_same)
      (subst (λ (g : ℕ → List BidMessage). ChannelsAre lists p net.counts g sys.bids_sent) (sym bids_same) sys_is.channels)

  -- x sends a bid, in both
  pub channels_push : (counts' : ℕ → ℕ) (bids' : ℕ → List BidMessage) (x : ℕ) (bid : BidMessage) → counts' ≡ net.counts →
      bids' x ≡ net.bids_sent x ++ bid ∷ [] → ((y : ℕ) → (y ≡ x → ⊥) → bids' y ≡ net.bids_sent y) →
      ChannelsAre lists p counts' bids' (update sys.bids_sent x (sys.bids_sent x ++ bid ∷ []))
  channels_push counts' bids' x bid counts_same here there =
      subst (λ (f : ℕ → ℕ). ChannelsAre lists p f bids' (update sys.bids_sent x (sys.bids_sent x ++ bid ∷ []))) (sym counts_same)
      (pointwise lists p net.counts (update net.bids_sent x (net.bids_sent x ++ bid ∷ [])) bids' (update sys.bids_sent x (sys.bids_sent x ++ bid ∷ []))
      (λ y. elim (cases_eq y x) [
        | inl e ↦ ap (update net.bids_sent x (net.bids_sent x ++ bid ∷ [])) e ∙ updated_same net.bids_sent x (net.bids_sent x ++ bid ∷ []) ∙ sym here
            ∙ ap bids' (sym e)
        | inr ne ↦ updated_other net.bids_sent x (net.bids_sent x ++ bid ∷ []) y ne ∙ sym (there y ne)
      ])
      (pushed_here lists p net.counts (update net.bids_sent x (net.bids_sent x ++ bid ∷ [])) sys.bids_sent x bid
      (pushed_there lists p net.counts net.bids_sent sys.bids_sent x bid sys_is.channels) (new_in p net.bids_sent x bid)))

  -- and one of a channel of prices
  pub prices_in : (x k : ℕ) → IsNode lists x → k < length (sys.prices_sent x) → k < length (net.prices_sent x)
  prices_in x k node inside = subst (λ (l : List PriceMessage). k < length l) (sym (sys_is.prices_sent x node)) inside

  -- what y sends down reaches its children, and nobody else
  pub sent_prices : (y : ℕ) (prices : ℕ → List PriceMessage) (after : ℕ → List PriceMessage) →
      ((x : ℕ) → IsNode lists x → parent lists x ≡ y → after x ≡ net.prices_sent x ++ prices (numbering.place x)) →
      ((x : ℕ) → IsNode lists x → (parent lists x ≡ y → ⊥) → after x ≡ net.prices_sent x) →
      (x : ℕ) → IsNode lists x → after x ≡ (with_prices_sent lists numbering sys y prices).prices_sent x
  sent_prices y prices after children others x node =
      let more : List PriceMessage = sys.prices_sent x ++ prices (numbering.place x) in
      elim (cases_eq (parent lists x) y) [
        | inl up ↦ children x node up ∙ ap (λ (l : List PriceMessage). l ++ prices (numbering.place x)) (sys_is.prices_sent x node)
            ∙ sym (cond-true (eqb (parent lists x) y) more (sys.prices_sent x) (eq-eqb (parent lists x) y up))
        | inr ne ↦ others x node ne ∙ sys_is.prices_sent x node
            ∙ sym (cond-false (eqb (parent lists x) y) more (sys.prices_sent x) (ne_eqb (parent lists x) y ne))
      ]

  -- what the others stay
  module _ (alike : LimitsGoByDevices lists p.limits) (devices' : Devices) where
    abbrev SameElsewhere : ℕ → Type 0
    SameElsewhere c = (y : ℕ) → (y ≡ c → ⊥) → SameNode lists y net devices'.net

    -- a relay moves
    pub relay_moves : (c : ℕ) (relay : RelayValue) → IsConcentrator lists c → RelayIs p numbering devices'.net c relay →
        SameElsewhere c →
        ((d : ℕ) → IsLeaf lists d → devices'.agents d ≡ sys.agents d) →
        ((d : ℕ) → IsLeaf lists d → devices'.setpoints d ≡ sys.setpoints d) →
        (bids : ℕ → List BidMessage) → ChannelsAre lists p devices'.net.counts devices'.net.bids_sent bids →
        devices'.net.counts ≡ net.counts → ((d : ℕ) → IsLeaf lists d → bids d ≡ sys.bids_sent d) →
        (prices : ℕ → List PriceMessage) → ((x : ℕ) → IsNode lists x → devices'.net.prices_sent x ≡ prices x) →
        SystemIs lists p numbering devices' (record sys { relays = update sys.relays c relay; bids_sent = bids; prices_sent = prices })
    relay_moves c relay conc relay_is same agents setpoints bids bids_are counts_same leaf_bids prices prices_are = record {
      root = root_stays lists p numbering is net devices'.net sys.root (same 0 (λ e. relay_no_root lists c conc (sym e))) sys_is.root;
      relays = λ y y_conc. elim (cases_eq y c) [
        | inl e ↦ subst (λ (v : RelayValue). RelayIs p numbering devices'.net y v)
            (sym (ap (update sys.relays c relay) e ∙ updated_same sys.relays c relay))
            (subst (λ (z : ℕ). RelayIs p numbering devices'.net z relay) (sym e) relay_is)
        | inr ne ↦ subst (λ (v : RelayValue). RelayIs p numbering devices'.net y v) (sym (updated_other sys.relays c relay y ne))
            (relay_stays lists p numbering is alike net devices'.net y (sys.relays y) (same y ne) (sys_is.relays y y_conc))
      ];
      agents = agents;
      setpoints = setpoints;
      channels = bids_are;
      counted = λ d leaf.
          let Is : List BidMessage → Type 0 = λ l. (devices'.net.counts d ≡ (sys.agents d).number) ⊎ IsExpired lists d (devices'.net.counts d)
          (sys.agents d).number l in
          subst Is (sym (leaf_bids d leaf)) (counted_still devices'.net.counts counts_same d leaf);
      prices_sent = prices_are;
    }

    -- the root moves
    pub root_moves : (root : RootValue) → RootIs p numbering devices'.net root → SameElsewhere 0 →
        ((d : ℕ) → IsLeaf lists d → devices'.agents d ≡ sys.agents d) →
        ((d : ℕ) → IsLeaf lists d → devices'.setpoints d ≡ sys.setpoints d) →
        devices'.net.counts ≡ net.counts → devices'.net.bids_sent ≡ net.bids_sent →
        (prices : ℕ → List PriceMessage) → ((x : ℕ) → IsNode lists x → devices'.net.prices_sent x ≡ prices x) →
        SystemIs lists p numbering devices' (record sys { root = root; prices_sent = prices })
    root_moves root root_is same agents setpoints counts_same bids_same prices prices_are = record {
      root = root_is;
      relays = λ y conc. relay_stays lists p numbering is alike net devices'.net y (sys.relays y) (same y (relay_no_root lists y conc)) (sys_is.relays y conc);
      agents = agents;
      setpoints = setpoints;
      channels = channels_still devices'.net.counts devices'.net.bids_sent counts_same bids_same;
      counted = counted_still devices'.net.counts counts_same;
      prices_sent = prices_are;
    }

    -- a device moves
    pub device_moves : (d : ℕ) → IsLeaf lists d → IsNode lists d → SameElsewhere d →
        (agents : ℕ → DeviceAgent) → ((e : ℕ) → IsLeaf lists e → devices'.agents e ≡ agents e) →
        (setpoints : ℕ → List Setpoint) → ((e : ℕ) → IsLeaf lists e → devices'.setpoints e ≡ setpoints e) →
        (bids : ℕ → List BidMessage) → ChannelsAre lists p devices'.net.counts devices'.net.bids_sent bids →
        ((e : ℕ) → IsLeaf lists e →
        (devices'.net.counts e ≡ (agents e).number) ⊎ IsExpired lists e (devices'.net.counts e) (agents e).number (bids e)) →
        ((x : ℕ) → IsNode lists x → devices'.net.prices_sent x ≡ sys.prices_sent x) →
        SystemIs lists p numbering devices' (record sys { agents = agents; setpoints = setpoints; bids_sent = bids })
    device_moves d leaf node same agents agents_are setpoints setpoints_are bids bids_are counted_are prices_are = record {
      root = root_stays lists p numbering is net devices'.net sys.root (same 0 (λ e. omega (arith, e, node.0))) sys_is.root;
      relays = λ y conc. relay_stays lists p numbering is alike net devices'.net y (sys.relays y)
          (same y (λ e. relay_no_leaf lists y d conc leaf (sym e))) (sys_is.relays y conc);
      agents = agents_are;
      setpoints = setpoints_are;
      channels = bids_are;
      counted = counted_are;
      prices_sent = prices_are;
    }
