-- That a world stands for a system: each process that runs is a node of it, and what was handed out may be read.
use Rattle.std.proofs.Common.{◌≡◌, ◌⊎◌, ◌∙◌, sym, ap, subst, ℕ, ◌+◌, ◌-◌, ◌<◌, ◌≤◌, ◌^◌, Bool, true, false}
use Rattle.std.proofs.Common.{replicate, List, [], ◌∷◌, ◌++◌, length, take, Option, Some, None, refl, inl, inr, arith, append-nil}
use Rattle.std.proofs.Common.{append_assoc}
use Rattle.std.proofs.lemmas.Bool.{cases_eq}
use Rattle.std.specs.List.{Contains}
use Rattle.pm_market.specs.Lists.{Lists, IsNode, IsLeaf, IsConcentrator}
use Rattle.pm_session.specs.declared.price.PriceUpdate.{PriceUpdate}
use Rattle.pm_net.specs.Pricing.{Pricing}
use Rattle.pm_net.specs.Messages.{BidMessage, PriceMessage, price_message}
use Rattle.pm_net.specs.Agents.{DeviceAgent, new_agent, may_offer}
use Rattle.pm_net_plan.specs.Places.{Numbering}
use Rattle.pm_control.specs.Control.{newest_demand}
use Rattle.pm_wire.specs.declared.frame.Frame.TheVariants.{Hello, Bid, Gone, Clear}
use Rattle.pm_base.specs.declared.limits.Limits.{Limits}
use Rattle.pm_relay.specs.Numbers.{known_number, parents_number}
use Rattle.pm_relay.specs.Relays.{RelayValue, newest_bid_number}
use Rattle.pm_relay.specs.Roots.{RootValue}
use Rattle.pm_frames.specs.Stored.{StoredRelay, StoredRoot}
use Rattle.pm_frames.specs.declared.stored.StoredAgent.{StoredAgent}
use Rattle.pm_frames.specs.declared.parent.ParentFrame.TheVariants.{Price, Old}
use Rattle.pm_frames.specs.declared.relay.RelayFrame.{RelayFrame}
use Rattle.pm_frames.specs.declared.relay.RelayFrame.TheVariants.{Child, Parent, Send, Expire, Bound, Resume}
use Rattle.pm_frames.specs.declared.relay.RelayFrame.TheVariants as given
use Rattle.pm_frames.specs.declared.root.RootFrame.{RootFrame}
use Rattle.pm_frames.specs.declared.root.RootFrame.TheVariants as root_frame
use Rattle.pm_frames.specs.declared.device.DeviceFrame.{DeviceFrame}
use Rattle.pm_frames.specs.declared.device.DeviceFrame.TheVariants as device_frame
use Rattle.pm_basis.specs.Prices.{BasisValue}
use Rattle.pm_services.specs.RelaySetups.{RelaySetup}
use Rattle.pm_system.specs.System.{System, bid_in_channel}
use Rattle.pm_lives.specs.Outputs.{BidWasSent, PriceWasSent}
use Rattle.pm_lives.specs.Moves.{OnlyMoves}
use Rattle.pm_lives.specs.RelayLife.{UpdateWasSent, RelayStands, IsRelayKept, CarriesBid, CarriesLimits, CarriesExpire, RelayMayRead}
use Rattle.pm_lives.specs.RootLife.{IsRootKept, RootMayRead}
use Rattle.pm_lives.specs.DeviceLife.{AgentStands, IsAgentKept, IsGivenOffer, IsGivenLeaving, DeviceMayRead}
use Rattle.pm_lives.specs.Lives.{no_agent_stored}
use Rattle.pm_lives.proofs.Telling.{BidsKnown}
use Rattle.pm_lives.specs.Lives.{World, AllIn}
use Rattle.pm_lives.proofs.RelayValues.{of_price_stays, update_stays}
use Rattle.pm_lives.proofs.DeviceMoves.{index_stays}

-- ---- the world stands for a system

pub record RelayOk (p : Pricing) (numbering : Numbering) (sys : System) (c : ℕ) (up : Bool) (relay : RelayValue) (waiting : Option PriceUpdate)
    (stored : StoredRelay) : Type 0 where
  -- what is stored of it may be
  pub kept : IsRelayKept p numbering sys c stored
  pub stands : up ≡ true → RelayStands sys c (record { relay = relay; waiting = waiting })

pub record RootOk (sys : System) (up : Bool) (root : RootValue) (stored : StoredRoot) : Type 0 where
  -- what is stored of it may be
  pub kept : IsRootKept sys stored
  pub stands : up ≡ true → sys.root ≡ root

pub record AgentOk (sys : System) (d : ℕ) (up : Bool) (agent : DeviceAgent) (stored : StoredAgent) : Type 0 where
  -- what is stored of it may be
  pub kept : IsAgentKept sys d stored
  pub stands : up ≡ true → AgentStands sys d agent
  -- no process of it ran yet
  pub fresh : up ≡ false → (sys.agents d ≡ new_agent) × (basis : BasisValue) × (stored ≡ no_agent_stored basis)

abbrev pub RelayOkIn : Pricing → Numbering → System → World → ℕ → Type 0
RelayOkIn p numbering sys world c = RelayOk p numbering sys c (world.up c) (world.seen.relays c) (world.waiting c) (world.relay_kept c)

abbrev pub RootOkIn : System → World → Type 0
RootOkIn sys world = RootOk sys (world.up 0) world.seen.root world.root_kept

abbrev pub AgentOkIn : System → World → ℕ → Type 0
AgentOkIn sys world d = AgentOk sys d (world.up d) (world.seen.agents d) (world.agent_kept d)

-- each process that runs is a node of the system, what is stored of each node may be, and what was handed out was sent
pub record WorldStands (lists : Lists) (p : Pricing) (numbering : Numbering) (world : World) (sys : System) : Type 0 where
  -- so it is of each relay
  pub relays : (c : ℕ) → IsConcentrator lists c → RelayOkIn p numbering sys world c
  pub root : RootOkIn sys world
  -- and of each device
  pub agents : (d : ℕ) → IsLeaf lists d → AgentOkIn sys world d
  pub sent : AllIn lists p world.seen sys
  -- each control was told what it was told in the system, and each bid of a device is known
  pub told : (d : ℕ) → IsLeaf lists d → world.seen.setpoints d ≡ sys.setpoints d
  pub known : (d : ℕ) → IsLeaf lists d → BidsKnown sys world.let_go d

-- ---- the same values

-- what holds of a relay's values holds of equal ones
pub relay_ok_as : (p : Pricing) (numbering : Numbering) (sys : System) (c : ℕ) (up up' : Bool) (r r' : RelayValue) (w w' : Option PriceUpdate)
    (k k' : StoredRelay) → up' ≡ up → r' ≡ r → w' ≡ w →
    k' ≡ k → RelayOk p numbering sys c up r w k → RelayOk p numbering sys c up' r' w' k'
relay_ok_as p numbering sys c up up' r r' w w' k k' e1 e2 e3 e4 ok =
    subst (λ (x : Bool). RelayOk p numbering sys c x r' w' k') (sym e1) (subst (λ (x : RelayValue). RelayOk p numbering sys c up x w' k') (sym e2)
    (subst (λ (x : Option PriceUpdate). RelayOk p numbering sys c up r x k') (sym e3)
    (subst (λ (x : StoredRelay). RelayOk p numbering sys c up r w x) (sym e4) ok)))

root_ok_as : (sys : System) (up up' : Bool) (r r' : RootValue) (k k' : StoredRoot) → up' ≡ up → r' ≡ r → k' ≡ k → RootOk sys up r k →
    RootOk sys up' r' k'
root_ok_as sys up up' r r' k k' e1 e2 e4 ok =
    subst (λ (x : Bool). RootOk sys x r' k') (sym e1) (subst (λ (x : RootValue). RootOk sys up x k') (sym e2)
    (subst (λ (x : StoredRoot). RootOk sys up r x) (sym e4) ok))

-- what holds of a device's values holds of equal ones
pub agent_ok_as : (sys : System) (d : ℕ) (up up' : Bool) (r r' : DeviceAgent) (k k' : StoredAgent) → up' ≡ up → r' ≡ r → k' ≡ k →
    AgentOk sys d up r k →
    AgentOk sys d up' r' k'
agent_ok_as sys d up up' r r' k k' e1 e2 e4 ok =
    subst (λ (x : Bool). AgentOk sys d x r' k') (sym e1) (subst (λ (x : DeviceAgent). AgentOk sys d up x k') (sym e2)
    (subst (λ (x : StoredAgent). AgentOk sys d up r x) (sym e4) ok))

-- ---- elsewhere

relay_elsewhere : (p : Pricing) (numbering : Numbering) (y c : ℕ) (sys new : System) → OnlyMoves y sys new → (c ≡ y → ⊥) →
    (up : Bool) (r : RelayValue) (w : Option PriceUpdate) (k : StoredRelay) →
    RelayOk p numbering sys c up r w k → RelayOk p numbering new c up r w k
relay_elsewhere p numbering y c sys new moves ne up r w k ok =
    let same : new.relays c ≡ sys.relays c = moves.relays c ne in
    record {
      kept = record {
        last = ok.kept.last ∙ ap newest_bid_number (sym same);
        numbers = ok.kept.numbers ∙ ap (λ (q : RelayValue). q.recorded) (sym same);
        limits = ok.kept.limits;
        price = of_price_stays y sys new moves c k.answered k.index ok.kept.price;
        older = omega (arith, ok.kept.older, ap (λ (q : RelayValue). q.index) same);
      };
      stands = λ e.
          let was = ok.stands e in
          record {
            relay_is = was.relay_is ∙ sym same;
            waiting = still_waits y c sys new moves w was.waiting;
            held = of_price_stays y sys new moves c r.answered r.index was.held;
          };
    }
  where
    still_waits : (y c : ℕ) (sys new : System) → OnlyMoves y sys new → (w : Option PriceUpdate) →
        Rattle.std.specs.Prelude.IfSome w (UpdateWasSent sys c) → Rattle.std.specs.Prelude.IfSome w (UpdateWasSent new c)
    still_waits y c sys new moves None is = tt
    still_waits y c sys new moves (Some price) is = update_stays y sys new moves c price is

root_elsewhere : (y : ℕ) (sys new : System) → OnlyMoves y sys new → (0 ≡ y → ⊥) → (up : Bool) (r : RootValue) (k : StoredRoot) →
    RootOk sys up r k →
    RootOk new up r k
root_elsewhere y sys new moves ne up r k ok =
    let same : new.root ≡ sys.root = moves.root (λ e. ne (sym e)) in
    record {
      kept = record {
        last = ok.kept.last ∙ ap Rattle.pm_relay.specs.Roots.newest_index (sym same);
        numbers = ok.kept.numbers ∙ ap (λ (q : RootValue). q.recorded) (sym same);
      };
      stands = λ e. same ∙ ok.stands e;
    }

agent_elsewhere : (y d : ℕ) (sys new : System) → OnlyMoves y sys new → (d ≡ y → ⊥) → (up : Bool) (r : DeviceAgent) (k : StoredAgent) →
    AgentOk sys d up r k → AgentOk new d up r k
agent_elsewhere y d sys new moves ne up r k ok =
    let same : new.agents d ≡ sys.agents d = moves.agents d ne in
    record {
      kept = record {
        number = ok.kept.number ∙ ap (λ (a : DeviceAgent). a.number) (sym same);
        newest = ok.kept.newest ∙ ap newest_demand (sym same);
        price = index_stays y sys new moves d k.index ok.kept.price;
        older = omega (arith, ok.kept.older, ap (λ (a : DeviceAgent). a.index) same);
      };
      stands = λ e.
          let was = ok.stands e in
          record { agent_is = was.agent_is ∙ sym same; held = index_stays y sys new moves d r.index was.held; within = was.within };
      fresh = λ e. (same ∙ (ok.fresh e).0, (ok.fresh e).1, (ok.fresh e).2);
    }

-- two worlds are the same but for node y and what was handed out
pub record AgreesBut (y : ℕ) (world new : World) : Type 0 where
  -- the same processes run
  pub up : (z : ℕ) → (z ≡ y → ⊥) → new.up z ≡ world.up z
  pub relays : (z : ℕ) → (z ≡ y → ⊥) → new.seen.relays z ≡ world.seen.relays z
  -- and each other device has the same value, also the auctioneer unless it is y
  pub agents : (z : ℕ) → (z ≡ y → ⊥) → new.seen.agents z ≡ world.seen.agents z
  pub root : (0 ≡ y → ⊥) → new.seen.root ≡ world.seen.root
  -- each other relay has the same price waiting, and the same Resume stored
  pub waiting : (z : ℕ) → (z ≡ y → ⊥) → new.waiting z ≡ world.waiting z
  pub relay_kept : (z : ℕ) → (z ≡ y → ⊥) → new.relay_kept z ≡ world.relay_kept z
  -- the same Resume is stored of each other device, and of the auctioneer unless it is y
  pub agent_kept : (z : ℕ) → (z ≡ y → ⊥) → new.agent_kept z ≡ world.agent_kept z
  pub root_kept : (0 ≡ y → ⊥) → new.root_kept ≡ world.root_kept

-- Node y alone moved. If it stands for its node in the new system, the new world stands for the new system.
pub stands_but : (lists : Lists) (p : Pricing) (numbering : Numbering) (y : ℕ) (world new : World) (sys after : System) → AgreesBut y world new →
    OnlyMoves y sys after →
    WorldStands lists p numbering world sys → AllIn lists p new.seen after → (IsConcentrator lists y → RelayOkIn p numbering after new y) →
    (0 ≡ y → RootOkIn after new) →
    (IsLeaf lists y → AgentOkIn after new y) → ((d : ℕ) → IsLeaf lists d → new.seen.setpoints d ≡ after.setpoints d) →
    ((d : ℕ) → IsLeaf lists d → BidsKnown after new.let_go d) → WorldStands lists p numbering new after
stands_but lists p numbering y world new sys after agrees moves stands sent relay root agent told known = record {
  relays = λ c conc. elim (cases_eq c y) [
    | inl e ↦ subst (λ (z : ℕ). RelayOkIn p numbering after new z) (sym e) (relay (subst (λ (z : ℕ). IsConcentrator lists z) e conc))
    | inr ne ↦ relay_ok_as p numbering after c (world.up c) (new.up c) (world.seen.relays c) (new.seen.relays c) (world.waiting c) (new.waiting c)
        (world.relay_kept c) (new.relay_kept c) (agrees.up c ne) (agrees.relays c ne) (agrees.waiting c ne) (agrees.relay_kept c ne)
        (relay_elsewhere p numbering y c sys after moves ne (world.up c) (world.seen.relays c) (world.waiting c) (world.relay_kept c) (stands.relays c conc))
  ];
  root = elim (cases_eq 0 y) [
    | inl e ↦ root e
    | inr ne ↦ root_ok_as after (world.up 0) (new.up 0) world.seen.root new.seen.root world.root_kept new.root_kept (agrees.up 0 ne) (agrees.root ne)
        (agrees.root_kept ne) (root_elsewhere y sys after moves ne (world.up 0) world.seen.root world.root_kept stands.root)
  ];
  agents = λ d leaf. elim (cases_eq d y) [
    | inl e ↦ subst (λ (z : ℕ). AgentOkIn after new z) (sym e) (agent (subst (λ (z : ℕ). IsLeaf lists z) e leaf))
    | inr ne ↦ agent_ok_as after d (world.up d) (new.up d) (world.seen.agents d) (new.seen.agents d) (world.agent_kept d) (new.agent_kept d)
        (agrees.up d ne) (agrees.agents d ne) (agrees.agent_kept d ne)
        (agent_elsewhere y d sys after moves ne (world.up d) (world.seen.agents d) (world.agent_kept d) (stands.agents d leaf))
  ];
  sent = sent;
  told = told;
  known = known;
}

-- ---- what was handed out may be read

-- limits that a message carries are carried still where the message was sent
pub limits_there : (lists : Lists) (p : Pricing) (numbering : Numbering) (seen sys : System) (c sender number : ℕ) (limits : Limits) →
    (may : CarriesLimits lists p numbering seen c sender number limits) → BidWasSent p sys may.x (bid_in_channel p seen may.x may.place) →
    CarriesLimits lists p numbering sys c sender number limits
limits_there lists p numbering seen sys c sender number limits may at = record {
  x = may.x;
  node = may.node;
  up = may.up;
  sender_is = may.sender_is;
  place = at.place;
  inside = at.inside;
  number_is = may.number_is ∙ ap (λ (b : BidMessage). b.number) (sym at.is);
  gone = ap (λ (b : BidMessage). b.gone) at.is ∙ may.gone;
  gives = may.gives;
}

module _ (lists : Lists) (p : Pricing) (numbering : Numbering) (seen sys : System) (all : AllIn lists p seen sys) where
  bid_carried : (y sender number : ℕ) (demand : Option (List Rattle.std.proofs.Common.ℤ)) → CarriesBid lists p numbering seen y sender number demand →
      CarriesBid lists p numbering sys y sender number demand
  bid_carried y sender number demand may =
      let at = all.bids may.x may.place may.node may.inside in
      record {
        x = may.x;
        node = may.node;
        up = may.up;
        sender_is = may.sender_is;
        place = at.place;
        inside = at.inside;
        number_is = may.number_is ∙ ap (λ (b : BidMessage). b.number) (sym at.is);
        demand_is = may.demand_is ∙ ap Rattle.pm_relay_net.specs.RelayIs.told_demand (sym at.is);
        passes = may.passes;
      }

  -- limits that a relay may read by what was handed out, it may read by what was sent
  pub limits_carried : (c sender number : ℕ) (limits : Limits) → CarriesLimits lists p numbering seen c sender number limits →
      CarriesLimits lists p numbering sys c sender number limits
  limits_carried c sender number limits may =
      limits_there lists p numbering seen sys c sender number limits may (all.bids may.x may.place may.node may.inside)

  price_carried : (x : ℕ) (price : PriceMessage) → IsNode lists x → PriceWasSent seen x price → PriceWasSent sys x price
  price_carried x price node at =
      let there = all.prices x at.0 node at.1 in
      (there.0, there.1, there.2 ∙ at.2)

  -- so it is of each frame of a relay
  pub relay_may : (own : RelaySetup) (c : ℕ) → IsConcentrator lists c → seen.relays c ≡ sys.relays c → (frame : RelayFrame) →
      RelayMayRead lists p numbering own seen c frame → RelayMayRead lists p numbering own sys c frame
  relay_may own c conc same (Child (Hello basis)) may = tt
  relay_may own c conc same (Child (Bid sender number demand)) may = bid_carried c sender number (Some demand) may
  relay_may own c conc same (Child (Gone sender number)) may = bid_carried c sender number None may
  relay_may own c conc same (Child Clear) may = tt
  relay_may own c conc same (Parent (Price child number index step basis)) may =
      (may.0, price_carried c (price_message number index step) (conc.0, conc.1) may.1)
  relay_may own c conc same (Parent (Old child kept)) may = tt
  relay_may own c conc same Send may = tt
  relay_may own c conc same (Expire sender) may =
      subst (λ (r : RelayValue). CarriesExpire lists p numbering c sender
      (parents_number (known_number r.recorded r.gathered.cache.heads (sender - 1)))) same may
  relay_may own c conc same (given.Limits number limits) may = λ giver is. limits_carried c giver number limits (may giver is)
  relay_may own c conc same (Bound sender bound) may = tt
  relay_may own c conc same (Resume stored) may = may

  -- of each frame of the auctioneer
  pub root_may : seen.root ≡ sys.root → (frame : RootFrame) → RootMayRead lists p numbering seen frame → RootMayRead lists p numbering sys frame
  root_may same (root_frame.Market (Hello basis)) may = tt
  root_may same (root_frame.Market (Bid sender number demand)) may = bid_carried 0 sender number (Some demand) may
  root_may same (root_frame.Market (Gone sender number)) may = bid_carried 0 sender number None may
  root_may same (root_frame.Market Clear) may = tt
  root_may same (root_frame.Expire sender) may =
      subst (λ (r : RootValue). CarriesExpire lists p numbering 0 sender
      (parents_number (known_number r.recorded r.auction.cache.heads (sender - 1)))) same may
  root_may same (root_frame.Bound sender bound) may = tt
  root_may same (root_frame.Resume stored) may = may

  -- and of each frame of a device
  pub device_may : (own : BasisValue) (d : ℕ) → IsNode lists d → seen.agents d ≡ sys.agents d → (frame : DeviceFrame) →
      DeviceMayRead lists p own seen d frame → DeviceMayRead lists p own sys d frame
  device_may own d node same (device_frame.Hello basis) may = tt
  device_may own d node same (device_frame.Kind named) may = tt
  device_may own d node same (device_frame.Offer form demand) may =
      subst (λ (a : DeviceAgent). may_offer a ≡ true → Rattle.std.specs.Prelude.nat_lt (a.number + 5) (2 ^ 32) ≡ true →
      IsGivenOffer lists p d (a.number + 2) demand) same may
  device_may own d node same device_frame.Leave may =
      subst (λ (a : DeviceAgent). Rattle.std.specs.Prelude.nat_lt (a.number + 3) (2 ^ 32) ≡ true → IsGivenLeaving lists d (a.number + 2)) same may
  device_may own d node same (device_frame.Parent (Price child number index step basis)) may =
      (may.0, price_carried d (price_message number index step) node may.1)
  device_may own d node same (device_frame.Parent (Old child kept)) may =
      subst (λ (a : DeviceAgent). Rattle.std.specs.Prelude.nat_lt a.number kept ≡ true →
      Rattle.std.specs.Prelude.nat_lt (a.number + 7) (2 ^ 32) ≡ true → (demand : List Rattle.std.proofs.Common.ℤ) →
      newest_demand a ≡ Some demand → IsGivenLeaving lists d (a.number + 2)
      × IsGivenOffer lists p d (a.number + 2 + 2) demand) same may
  device_may own d node same (device_frame.Resume stored) may = may
