-- Frames that come from node to node, and the start of a life.
use Rattle.std.proofs.Common.{◌≡◌, ◌⊎◌, ◌∙◌, sym, ap, subst, ℕ, ◌+◌, ◌<◌, Bool, true, false, cond, eqb, List, []}
use Rattle.std.proofs.Common.{◌∷◌, ◌++◌, Option, Some, None, refl, inl, inr, arith, subst₂, get_or, replicate}
use Rattle.std.proofs.lemmas.Bool.{cond-true, cond-false, ne_eqb}
use Rattle.std.proofs.lemmas.List.{get_or-replicate, get_or_past, length-replicate}
use Rattle.pm_base.specs.declared.limits.Limits.{Limits}
use Rattle.pm_market.specs.Lists.{Lists, parent, IsNode}
use Rattle.pm_net.specs.Pricing.{Pricing}
use Rattle.pm_net.specs.Messages.{BidMessage, PriceMessage}
use Rattle.pm_net_plan.specs.Places.{Numbering}
use Rattle.pm_wire.specs.Frames.{frame_bytes}
use Rattle.pm_wire.specs.declared.frame.Frame.TheVariants.{Hello, Bid, Gone}
use Rattle.pm_relay_net.specs.RelayIs.{LimitsPassBy, GivesLimits, told_demand}
use Rattle.pm_frames.specs.Stored.{StoredRelay}
use Rattle.pm_frames.specs.RelayFrames.{relay_frame_bytes, IsRelayFormed}
use Rattle.pm_frames.specs.RootFrames.{root_frame_bytes, IsRootFormed}
use Rattle.pm_frames.specs.DeviceFrames.{device_frame_bytes, IsDeviceFormed}
use Rattle.pm_frames.specs.declared.place.NodePlace.{NodePlace}
use Rattle.pm_frames.specs.declared.place.Stage.{Stage}
use Rattle.pm_frames.specs.declared.relay.RelayFrame.{RelayFrame}
use Rattle.pm_frames.specs.declared.relay.RelayFrame.TheVariants as relay_frame
use Rattle.pm_frames.specs.declared.root.RootFrame.{RootFrame}
use Rattle.pm_frames.specs.declared.root.RootFrame.TheVariants as root_frame
use Rattle.pm_frames.specs.declared.device.DeviceFrame.{DeviceFrame}
use Rattle.pm_frames.specs.declared.device.DeviceFrame.TheVariants as device_frame
use Rattle.pm_frames.proofs.OneRelayFrame.{relay_framing_sound}
use Rattle.pm_frames.proofs.OneRootFrame.{root_framing_sound}
use Rattle.pm_frames.proofs.OneDeviceFrame.{device_framing_sound}
use Rattle.pm_basis.specs.declared.basis.Basis.{Basis}
use Rattle.pm_basis.specs.Prices.{BasisValue}
use Rattle.pm_base.specs.Limits.{most_nodes}
use Rattle.pm_session.specs.declared.price.PriceUpdate.{PriceUpdate}
use Rattle.pm_relay.specs.Numbers.{child_number}
use Rattle.pm_frames.specs.declared.place.RelayPlace.{RelayPlace}
use Rattle.pm_services.proofs.DeviceReplies.{itself}
use Rattle.pm_services.specs.Bounds.{no_bounds}
use Rattle.pm_services.specs.Receipts.{sender_place}
use Rattle.pm_services.specs.RelaySetups.{RelaySetup}
use Rattle.pm_services.specs.RelayAnswers.{OpenRelay, RelayServiceValue, RelayComesUp, AnswersRelay, WritesNow, written_by}
use Rattle.pm_services.specs.RelayWrites.{WaitingRelay, WritesKept}
use Rattle.pm_wire.specs.Answers.{answer_bytes}
use Rattle.pm_wire.specs.declared.answer.Reply as Reply
use Rattle.pm_frames.specs.declared.parent.ParentFrame.TheVariants.{Old}
use Rattle.pm_lives.specs.Carrying.{setup_for}
use Rattle.pm_system.specs.System.{System}
use Rattle.pm_lives.specs.Outputs.{PriceWasSent, BidWasSent}
use Rattle.pm_services.specs.Outputs.{Up, up_bytes, down_frame_bytes}
use Rattle.pm_lives.specs.RelayLife.{CarriesBid, CarriesLimits, RelayMayRead, no_relay_stored}
use Rattle.pm_lives.specs.RootLife.{RootMayRead}
use Rattle.pm_lives.specs.DeviceLife.{DeviceMayRead}
use Rattle.pm_net.specs.Agents.{new_agent}
use Rattle.pm_relay.specs.Roots.{RootComesBack}
use Rattle.pm_frames.specs.Stored.{StoredRoot, IsNewestAccepted}
use Rattle.pm_frames.specs.declared.stored.StoredAgent.{StoredAgent}
use Rattle.pm_services.specs.RootAnswers.{OpenRoot, AnswersRoot, WritesRootNow}
use Rattle.pm_services.specs.DeviceAnswers.{DeviceServiceValue, OpenDevice, AnswersDevice, device_after, reply_to}
use Rattle.pm_services.specs.DeviceWrites.{device_bytes, numbered_bid, again_outs}
use Rattle.pm_system.specs.Calls.{bid_kept}
use Rattle.pm_lives.specs.Lives.{no_root_stored}
use Rattle.pm_lives.specs.Carrying.{RootIsGiven, RootIsBack, DeviceIsBack, root_hello, root_resumed, bid_frame, limits_frame, price_frame}
use Rattle.pm_lives.specs.Carrying.{RelayIsGiven, RelayIsBack, hello, resumed}

-- a bid has the bytes of its frame
bytes_by : (g : Bool) (child number : ℕ) (demand : List Rattle.std.proofs.Common.ℤ) →
    cond g (frame_bytes (Gone child number)) (frame_bytes (Bid child number demand)) ≡ frame_bytes (cond g (Gone child number) (Bid child number demand))
bytes_by true child number demand = refl
bytes_by false child number demand = refl

up_is : (child : ℕ) (bid : BidMessage) → up_bytes child bid ≡ frame_bytes (bid_frame child bid)
up_is child bid = bytes_by bid.gone child bid.number bid.demand

module _ (lists : Lists) (p : Pricing) (numbering : Numbering) (sys : System) (x : ℕ) (node : IsNode lists x) (bid : BidMessage)
    (sent : BidWasSent p sys x bid) where
  carried : (y : ℕ) → parent lists x ≡ y → ((y ≡ 0 → ⊥) → LimitsPassBy p y x) →
      (demand : Option (List Rattle.std.proofs.Common.ℤ)) → demand ≡ told_demand bid →
      CarriesBid lists p numbering sys y (numbering.place x + 1) bid.number demand
  carried y up passes demand is = record {
    x = x;
    node = node;
    up = up;
    sender_is = refl;
    place = sent.place;
    inside = sent.inside;
    number_is = ap (λ (b : BidMessage). b.number) (sym sent.is);
    demand_is = is ∙ ap told_demand (sym sent.is);
    passes = passes;
  }

  relay_by : (own : RelaySetup) (c : ℕ) → parent lists x ≡ c → LimitsPassBy p c x → (g : Bool) → bid.gone ≡ g →
      RelayMayRead lists p numbering own sys c (relay_frame.Child (cond g (Gone (numbering.place x + 1) bid.number) (Bid (numbering.place x + 1) bid.number
      bid.demand)))
  relay_by own c up passes true e = carried c up (λ ne. passes) None (sym (cond-true bid.gone None (Some bid.demand) e))
  relay_by own c up passes false e = carried c up (λ ne. passes) (Some bid.demand) (sym (cond-false bid.gone None (Some bid.demand) e))

  root_by : parent lists x ≡ 0 → (g : Bool) → bid.gone ≡ g →
      RootMayRead lists p numbering sys (root_frame.Market (cond g (Gone (numbering.place x + 1) bid.number) (Bid (numbering.place x + 1) bid.number
      bid.demand)))
  root_by up true e = carried 0 up (λ ne. absurd (ne refl)) None (sym (cond-true bid.gone None (Some bid.demand) e))
  root_by up false e = carried 0 up (λ ne. absurd (ne refl)) (Some bid.demand) (sym (cond-false bid.gone None (Some bid.demand) e))

  -- a relay that reads these bytes reads that bid
  pub relay_reads_bid : (c : ℕ) → parent lists x ≡ c → LimitsPassBy p c x →
      (own : RelaySetup) (place : RelayPlace) (frame : RelayFrame) (more behind : List ℕ) → IsRelayFormed place frame →
      IsRelayFormed place (relay_frame.Child (bid_frame (numbering.place x + 1) bid)) →
      relay_frame_bytes frame ++ more ≡ up_bytes (numbering.place x + 1) bid ++ behind → RelayMayRead lists p numbering own sys c frame × (more ≡ behind)
  relay_reads_bid c up passes own place frame more behind formed fits same =
      let other : RelayFrame = relay_frame.Child (bid_frame (numbering.place x + 1) bid) in
      let one = relay_framing_sound.one_frame place frame other more behind formed fits
      (same ∙ ap (λ (l : List ℕ). l ++ behind) (up_is (numbering.place x + 1) bid)) in
      (subst (λ (f : RelayFrame). RelayMayRead lists p numbering own sys c f) (sym one.0) (relay_by own c up passes bid.gone refl), one.1)

  -- and one that reads those of limits reads the limits that are given under it
  pub relay_reads_limits : (c : ℕ) → parent lists x ≡ c → bid.gone ≡ true → (limits : Limits) → GivesLimits p c x bid.number limits →
      (own : RelaySetup) →
      own.terms.giver ≡ Some (numbering.place x + 1) → (place : RelayPlace)
      (frame : RelayFrame) (more behind : List ℕ) → IsRelayFormed place frame → IsRelayFormed place (limits_frame bid limits) →
      relay_frame_bytes frame ++ more ≡ relay_frame_bytes (limits_frame bid limits) ++ behind →
      RelayMayRead lists p numbering own sys c frame × (more ≡ behind)
  relay_reads_limits c up gone limits gives own given place frame more behind formed fits same =
      let other : RelayFrame = limits_frame bid limits in
      let one = relay_framing_sound.one_frame place frame other more behind formed fits same in
      let carries : CarriesLimits lists p numbering sys c (numbering.place x + 1) bid.number limits = record {
        x = x;
        node = node;
        up = up;
        sender_is = refl;
        place = sent.place;
        inside = sent.inside;
        number_is = ap (λ (b : BidMessage). b.number) (sym sent.is);
        gone = ap (λ (b : BidMessage). b.gone) sent.is ∙ gone;
        gives = gives;
      } in
      let may : RelayMayRead lists p numbering own sys c (limits_frame bid limits) = λ giver is.
      subst (λ (g : ℕ). CarriesLimits lists p numbering sys c g bid.number limits) (let same = sym given ∙ is in cc) carries in
      (subst (λ (f : RelayFrame). RelayMayRead lists p numbering own sys c f) (sym one.0) may, one.1)

  -- the auctioneer may read a frame whose bytes are those of a bid that was sent to it, and reads no more of them
  pub root_reads_bid : parent lists x ≡ 0 → (stage : Stage) (frame : RootFrame) (more behind : List ℕ) → IsRootFormed stage frame →
      IsRootFormed stage (root_frame.Market (bid_frame (numbering.place x + 1) bid)) →
      root_frame_bytes frame ++ more ≡ up_bytes (numbering.place x + 1) bid ++ behind → RootMayRead lists p numbering sys frame × (more ≡ behind)
  root_reads_bid up stage frame more behind formed fits same =
      let other : RootFrame = root_frame.Market (bid_frame (numbering.place x + 1) bid) in
      let one = root_framing_sound.one_frame stage frame other more behind formed fits
      (same ∙ ap (λ (l : List ℕ). l ++ behind) (up_is (numbering.place x + 1) bid)) in
      (subst (λ (f : RootFrame). RootMayRead lists p numbering sys f) (sym one.0) (root_by up bid.gone refl), one.1)

module _ (lists : Lists) (p : Pricing) (numbering : Numbering) (sys : System) (x : ℕ) (price : PriceMessage) (sent : PriceWasSent sys x price) where
  -- a relay or a device that reads the bytes of a price reads that price
  pub relay_reads_price : (own : RelaySetup) (child : RelayPlace) (frame : RelayFrame) (more behind : List ℕ) → IsRelayFormed child frame →
      IsRelayFormed child (relay_frame.Parent (price_frame own.basis (numbering.place x + 1) price)) →
      relay_frame_bytes frame ++ more ≡ down_frame_bytes own.basis (numbering.place x) price ++ behind →
      RelayMayRead lists p numbering own sys x frame × (more ≡ behind)
  relay_reads_price own place frame more behind formed fits same =
      let other : RelayFrame = relay_frame.Parent (price_frame own.basis (numbering.place x + 1) price) in
      let one = relay_framing_sound.one_frame place frame other more behind formed fits same in
      (subst (λ (f : RelayFrame). RelayMayRead lists p numbering own sys x f) (sym one.0) (refl, sent), one.1)

  -- a device may read a frame whose bytes are those of a price that was sent to it, and reads no more of them
  pub device_reads_price : (basis : BasisValue) (child : NodePlace) (frame : DeviceFrame) (more behind : List ℕ) → IsDeviceFormed child frame →
      IsDeviceFormed child (device_frame.Parent (price_frame basis (numbering.place x + 1) price)) →
      device_frame_bytes frame ++ more ≡ down_frame_bytes basis (numbering.place x) price ++ behind →
      DeviceMayRead lists p basis sys x frame × (more ≡ behind)
  device_reads_price basis place frame more behind formed fits same =
      let other : DeviceFrame = device_frame.Parent (price_frame basis (numbering.place x + 1) price) in
      let one = device_framing_sound.one_frame place frame other more behind formed fits same in
      (subst (λ (f : DeviceFrame). DeviceMayRead lists p basis sys x f) (sym one.0) (itself basis, sent), one.1)

-- a device that reads the bytes of an Old reads that Old
pub device_reads_old : (child kept : ℕ) (place : NodePlace) (frame : DeviceFrame) (more behind : List ℕ) → IsDeviceFormed place frame →
    IsDeviceFormed place (device_frame.Parent (Old child kept)) →
    device_frame_bytes frame ++ more ≡ answer_bytes (Reply.TheVariants.Old child kept) ++ behind →
    (frame ≡ device_frame.Parent (Old child kept)) × (more ≡ behind)
device_reads_old child kept place frame more behind formed fits same =
    device_framing_sound.one_frame place frame (device_frame.Parent (Old child kept)) more behind formed fits same

-- ---- the start of a life

relay_hello : (old : RelayServiceValue) (basis : Basis) (after : RelayServiceValue) (reply : List ℕ) → old.relay ≡ None →
    AnswersRelay old (relay_frame.Child (Hello basis)) after reply →
    RelayComesUp (setup_for old basis) after.relay × (reply ≡ [])
relay_hello old basis after reply closed did = (
  (subst (λ (o : Option OpenRelay). WritesNow old.child old.terms o (relay_frame.Child (Hello basis)) after.relay did.outs) closed did.writes).0,
  did.written ∙ ap (λ (o : Option OpenRelay). written_by o did.outs) closed,
)

nothing_learnt : (giver : Option ℕ) (own : RelaySetup) (held : WaitingRelay) → WritesKept giver own held (no_relay_stored own) held []
nothing_learnt None own held = (refl, refl)
nothing_learnt (Some giver) own held = inl (no_number (sender_place giver), (refl, refl))
  where
    no_number : (k : ℕ) → child_number (replicate most_nodes 0) k ≡ 0
    no_number k = elim (Rattle.std.proofs.lemmas.Bool.cases_lt k most_nodes) [
      | inl inside ↦ get_or-replicate most_nodes k 0 0 inside
      | inr past ↦ get_or_past (replicate most_nodes 0) k 0 (omega (arith, past, length-replicate {A = ℕ} most_nodes 0))
    ]

waiting_is : (held : WaitingRelay) → held.waiting ≡ None → record { relay = held.relay; waiting = None } ≡ held
waiting_is held e = ap (λ (w : Option PriceUpdate). record { relay = held.relay; waiting = w }) (sym e)

-- a relay that was given Hello and what is stored comes back with it
pub relay_is_back : (old : RelayServiceValue) (basis : Basis) (after : RelayServiceValue) (stored : StoredRelay) (reply : List ℕ) → old.relay ≡ None →
    RelayIsGiven old basis after stored reply → RelayIsBack old basis after stored reply
relay_is_back old basis after _ _ closed (hello reply did) =
    let up = relay_hello old basis after reply closed did in
    let held : WaitingRelay = up.0.held in
    record {
      relay = held.relay;
      back = up.0.opens.back;
      held = held;
      relay_is = up.0.opened;
      outs = [];
      learns = subst (λ (h : WaitingRelay). WritesKept old.terms.giver (setup_for old basis) h (no_relay_stored (setup_for old basis)) held [])
          (sym (waiting_is held up.0.opens.waiting)) (nothing_learnt old.terms.giver (setup_for old basis) held);
      written = up.1;
    }
relay_is_back old basis after _ _ closed (resumed mid reply more stored first then) =
    let up = relay_hello old basis mid reply closed first in
    let answers = subst (λ (o : Option OpenRelay). WritesNow mid.child mid.terms o (relay_frame.Resume stored) after.relay then.outs) up.0.opened
    then.writes in
    let came = answers.2 in
    record {
      relay = came.held.back.relay;
      back = came.held.opens.back;
      held = answers.0.held;
      relay_is = answers.1 ∙ ap (λ (s : RelaySetup). Some (record { setup = s; bounds = answers.0.bounds; held = answers.0.held })) came.setup
          ∙ ap (λ (b : List Limits). Some (record { setup = setup_for old basis; bounds = b; held = answers.0.held })) came.bounds;
      outs = then.outs;
      learns = subst (λ (h : WaitingRelay). WritesKept old.terms.giver (setup_for old basis) h stored answers.0.held then.outs)
          (sym (waiting_is came.held.back came.held.opens.waiting)) came.held.learns;
      written = then.written ∙ ap (λ (o : Option OpenRelay). written_by o then.outs) up.0.opened;
    }

root_is_there : (basis : Basis) (after : Option OpenRoot) (reply : List ℕ) → AnswersRoot None (root_frame.Market (Hello basis)) after reply →
    RootIsBack basis after (no_root_stored basis)
root_is_there basis after reply did =
    let up = did.writes.0 in
    record { up_root = record { basis = basis; bounds = no_bounds; root = up.root }; root_is = up.opened; basis_is = refl; bounds_are = refl; back = up.back }

-- so does an auctioneer
pub root_is_back : (basis : Basis) (after : Option OpenRoot) (stored : StoredRoot) → RootIsGiven basis after stored → RootIsBack basis after stored
root_is_back basis after _ (root_hello reply did) = root_is_there basis after reply did
root_is_back basis after _ (root_resumed mid reply more stored first then) =
    let was = root_is_there basis mid reply first in
    let came = subst (λ (o : Option OpenRoot). WritesRootNow o (root_frame.Resume stored) after then.outs) was.root_is then.writes in
    record {
      up_root = came.0;
      root_is = came.1;
      basis_is = came.2.basis ∙ was.basis_is;
      bounds_are = came.2.bounds ∙ was.bounds_are;
      back = subst (λ (b : BasisValue). RootComesBack b.steps stored.last stored.numbers came.0.root) was.basis_is came.2.held.0;
    }

gone_if : (p : Pricing) (basis : BasisValue) (child steps number : ℕ) (test : Bool) →
    device_bytes child basis (cond test [] (Up (numbered_bid steps number None) ∷ []))
    ≡ device_bytes child basis (cond test [] (Up (bid_kept p number None) ∷ []))
gone_if p basis child steps number true = refl
gone_if p basis child steps number false = refl

restart_written : (p : Pricing) (basis : BasisValue) (child steps : ℕ) (stored : StoredAgent) (newest : Option (List Rattle.std.proofs.Common.ℤ)) →
    IsNewestAccepted stored.number newest →
    device_bytes child basis (again_outs steps stored.number newest)
    ≡ device_bytes child basis (cond (eqb stored.number 0) [] (Up (bid_kept p stored.number newest) ∷ []))
restart_written p basis child steps stored None accepted = gone_if p basis child steps stored.number (eqb stored.number 0)
restart_written p basis child steps stored (Some demand) accepted =
    sym (ap (device_bytes child basis) (cond-false (eqb stored.number 0) [] (Up (bid_kept p stored.number (Some demand)) ∷ [])
    (ne_eqb stored.number 0 (λ e. omega (Rattle.std.proofs.Common.arith, e, accepted.0)))))

-- and so does a device, which writes its newest bid
pub device_is_back : (p : Pricing) (old mid after : DeviceServiceValue) (basis : Basis) (stored : StoredAgent) (reply more : List ℕ) →
    old.device ≡ None →
    IsNewestAccepted stored.number stored.newest → AnswersDevice old (device_frame.Hello basis) mid reply →
    AnswersDevice mid (device_frame.Resume stored) after more → DeviceIsBack p old.child basis after stored reply more
device_is_back p old mid after basis stored reply more closed accepted first then =
    let was : mid.device ≡ Some (record { agent = new_agent; basis = basis }) =
    first.device ∙ ap (λ (o : Option OpenDevice). device_after o (device_frame.Hello basis)) closed in
    record {
      device_is = then.device ∙ ap (λ (o : Option OpenDevice). device_after o (device_frame.Resume stored)) was;
      silent = first.replied ∙ ap (λ (o : Option OpenDevice). reply_to old.child o (device_frame.Hello basis)) closed;
      written = then.replied ∙ ap (λ (o : Option OpenDevice). reply_to mid.child o (device_frame.Resume stored)) was
          ∙ ap (λ (n : ℕ). device_bytes n basis (again_outs basis.steps stored.number stored.newest)) first.child
          ∙ restart_written p basis old.child basis.steps stored stored.newest accepted;
    }
