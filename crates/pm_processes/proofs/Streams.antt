-- What a node still reads stands in its stream, behind Hello; and what it says, if it was handed on unchanged.
use Rattle.std.proofs.Common.{◌≡◌, ◌∙◌, sym, ap, subst, ℕ, ◌+◌, ◌≤◌, true, List, [], ◌∷◌, ◌++◌, Option, Some}
use Rattle.std.proofs.Common.{None, refl, arith}
use Rattle.pm_basis.specs.Prices.{BasisValue}
use Rattle.pm_market.specs.Lists.{Lists, IsConcentrator}
use Rattle.pm_net.specs.Pricing.{Pricing}
use Rattle.pm_net.specs.Messages.{BidMessage, price_message}
use Rattle.pm_net.proofs.Messages.{either}
use Rattle.pm_net_plan.specs.Places.{Numbering}
use Rattle.pm_wire.specs.declared.frame.Frame.{Frame}
use Rattle.pm_wire.specs.declared.frame.Frame.TheVariants.{Hello, Bid, Gone, Clear}
use Rattle.pm_wire.specs.Framing.{AllStand}
use Rattle.pm_wire.specs.Frames.{IsFormed}
use Rattle.pm_frames.specs.Terms.{MayGive}
use Rattle.pm_frames.specs.Places.{basis_at, bid_place, stage_behind, stage_after}
use Rattle.pm_frames.specs.Stored.{StoredRelay, StoredRoot}
use Rattle.pm_frames.specs.RelayFrames.{relay_framing, relay_frame_bytes, relay_place_after, IsOfChild, IsRelayFormed, IsRelayAccepted}
use Rattle.pm_frames.specs.RootFrames.{root_framing, root_frame_bytes, root_stage_after, IsRootFormed}
use Rattle.pm_frames.specs.DeviceFrames.{device_framing, device_place_after, IsDeviceFormed}
use Rattle.pm_frames.specs.declared.terms.RelayTerms.{RelayTerms}
use Rattle.pm_frames.specs.declared.place.NodePlace.{NodePlace}
use Rattle.pm_frames.specs.declared.place.RelayPlace.{RelayPlace}
use Rattle.pm_frames.specs.declared.place.Stage.{Stage}
use Rattle.pm_frames.specs.declared.place.Stage.TheVariants.{Start, Opened, Running}
use Rattle.pm_frames.specs.declared.stored.StoredAgent.{StoredAgent}
use Rattle.pm_frames.specs.declared.parent.ParentFrame.TheVariants.{Price, Old}
use Rattle.pm_frames.specs.declared.relay.RelayFrame.{RelayFrame}
use Rattle.pm_frames.specs.declared.relay.RelayFrame.TheVariants as relay_frame
use Rattle.pm_frames.specs.declared.root.RootFrame.{RootFrame}
use Rattle.pm_frames.specs.declared.root.RootFrame.TheVariants as root_frame
use Rattle.pm_frames.specs.declared.device.DeviceFrame.{DeviceFrame}
use Rattle.pm_frames.specs.declared.device.DeviceFrame.TheVariants as device_frame
use Rattle.pm_services.specs.RelaySetups.{RelaySetup}
use Rattle.pm_services.specs.DeviceWrites.{same_basis}
use Rattle.pm_system.specs.System.{System, bid_in_channel, price_in_channel}
use Rattle.pm_system.proofs.Moving.{relay_no_root}
use Rattle.pm_lives.specs.Outputs.{PriceWasSent}
use Rattle.pm_lives.specs.Carrying.{bid_frame}
use Rattle.pm_lives.specs.RelayLife.{IsNoGiver, PassesGiver, RelayMayRead}
use Rattle.pm_lives.specs.RootLife.{RootMayRead}
use Rattle.pm_lives.specs.Free.{RelayIsFree, RootIsFree}
use Rattle.pm_lives.proofs.Carrying.{relay_reads_bid, root_reads_bid, relay_reads_price, device_reads_price}
use Rattle.pm_processes.specs.Processes.{relay_start, stream_start}
use Rattle.pm_processes.specs.RelayProcess.{RelayExchange, relay_frames, relay_start_frames}
use Rattle.pm_processes.specs.RootProcess.{RootExchange, root_frames, root_start_frames}
use Rattle.pm_processes.specs.DeviceProcess.{DeviceExchange, device_frames, device_start_frames}
use Rattle.pm_processes.specs.HandedOn.{IsBidHandedOn, RelayIsHanded, RootIsHanded, DeviceIsHanded}

-- ---- behind Hello

none_some : (basis : BasisValue) → None ≡ Some basis → ⊥
none_some basis is = cc

abbrev steps_in : Option BasisValue → Option ℕ
steps_in None = None
steps_in (Some basis) = Some basis.steps

-- behind Hello a bid has its steps
steps_are : (stage : Stage) (basis : BasisValue) → basis_at stage ≡ Some basis → bid_place stage ≡ Some basis.steps
steps_are Start basis is = absurd (none_some basis is)
steps_are (Opened own) basis is = ap steps_in is
steps_are (Running own) basis is = ap steps_in is

basis_behind : (stage : Stage) → basis_at (stage_behind stage) ≡ basis_at stage
basis_behind Start = refl
basis_behind (Opened basis) = refl
basis_behind (Running basis) = refl

-- no Hello stands there
no_hello : (stage : Stage) (own basis : BasisValue) → basis_at stage ≡ Some own → IsFormed (bid_place stage) (Hello basis) → ⊥
no_hello Start own basis is formed = none_some own is
no_hello (Opened other) own basis is formed = formed
no_hello (Running other) own basis is formed = formed

child_behind : (stage : Stage) (own : BasisValue) (frame : Frame) → basis_at stage ≡ Some own → IsFormed (bid_place stage) frame →
    basis_at (stage_after stage frame) ≡ Some own
child_behind stage own (Hello basis) is formed = absurd (no_hello stage own basis is formed)
child_behind stage own (Bid sender number demand) is formed = basis_behind stage ∙ is
child_behind stage own (Gone sender number) is formed = basis_behind stage ∙ is
child_behind stage own Clear is formed = basis_behind stage ∙ is

-- ---- the stream to a relay

-- what a relay still reads stands in its stream, behind Hello
pub record RelayStream (terms : RelayTerms) (basis : BasisValue) (es : List RelayExchange) : Type 0 where
  -- where they stand
  pub place : RelayPlace
  -- the place has the relay's terms
  pub terms_are : place.terms ≡ terms
  -- and its basis
  pub basis_is : basis_at place.stage ≡ Some basis
  -- they are the next frames there
  pub stand : AllStand relay_framing place (relay_frames es)
  -- the place in which it is given limits is one of a child
  pub gives : MayGive terms.giver

relay_basis : (place : RelayPlace) (own : BasisValue) (frame : RelayFrame) → basis_at place.stage ≡ Some own → IsRelayFormed place frame →
    basis_at (relay_place_after place frame).stage ≡ Some own
relay_basis place own (relay_frame.Child frame) is formed = child_behind place.stage own frame is formed.0
relay_basis place own (relay_frame.Parent frame) is formed = basis_behind place.stage ∙ is
relay_basis place own relay_frame.Send is formed = basis_behind place.stage ∙ is
relay_basis place own (relay_frame.Expire sender) is formed = basis_behind place.stage ∙ is
relay_basis place own (relay_frame.Limits number limits) is formed = basis_behind place.stage ∙ is
relay_basis place own (relay_frame.Bound sender bound) is formed = basis_behind place.stage ∙ is
relay_basis place own (relay_frame.Resume stored) is formed = basis_behind place.stage ∙ is

same_terms : (place : RelayPlace) (frame : RelayFrame) → (relay_place_after place frame).terms ≡ place.terms
same_terms place (relay_frame.Child frame) = refl
same_terms place (relay_frame.Parent frame) = refl
same_terms place relay_frame.Send = refl
same_terms place (relay_frame.Expire sender) = refl
same_terms place (relay_frame.Limits number limits) = refl
same_terms place (relay_frame.Bound sender bound) = refl
same_terms place (relay_frame.Resume stored) = refl

-- so it is behind Hello, and a Resume
pub relay_stream : (child : ℕ) (terms : RelayTerms) (basis : BasisValue) (resume : Option StoredRelay) (es : List RelayExchange) → MayGive terms.giver →
    AllStand relay_framing (relay_start child terms) (relay_start_frames basis resume ++ relay_frames es) → RelayStream terms basis es
relay_stream child terms basis None es may stand = record {
  place = relay_place_after (relay_start child terms) (relay_frame.Child (Hello basis));
  terms_are = refl;
  basis_is = refl;
  stand = stand.1;
  gives = may;
}
relay_stream child terms basis (Some stored) es may stand = record {
  place = relay_place_after (relay_place_after (relay_start child terms) (relay_frame.Child (Hello basis))) (relay_frame.Resume stored);
  terms_are = refl;
  basis_is = refl;
  stand = stand.1.1;
  gives = may;
}

-- and behind the next frame
pub relay_rest : (terms : RelayTerms) (basis : BasisValue) (e : RelayExchange) (es : List RelayExchange) → RelayStream terms basis (e ∷ es) →
    RelayStream terms basis es
relay_rest terms basis e es is = record {
  place = relay_place_after is.place e.frame;
  terms_are = same_terms is.place e.frame ∙ is.terms_are;
  basis_is = relay_basis is.place basis e.frame is.basis_is is.stand.0.formed;
  stand = is.stand.1;
  gives = is.gives;
}

no_giver : (giver' : Option ℕ) (sender : ℕ) → MayGive giver' → 1 ≤ sender → ¬ (giver' ≡ Some sender) → IsNoGiver giver' sender
no_giver giver' sender may one other giver is same =
    let of_child : (1 ≤ giver) × (giver ≤ Rattle.pm_base.specs.Limits.most_nodes) = subst MayGive is may in
    let equal : giver ≡ sender = omega (arith, one, of_child.0, same) in
    other (is ∙ ap Some equal)

-- a frame of the place in which limits are given is not accepted
passes : (place : RelayPlace) (frame : RelayFrame) → MayGive place.terms.giver → IsRelayAccepted place frame → PassesGiver place.terms.giver frame
passes place (relay_frame.Child (Hello basis)) may is = tt
passes place (relay_frame.Child (Bid sender number demand)) may is = no_giver place.terms.giver sender may is.0.0.0 is.1
passes place (relay_frame.Child (Gone sender number)) may is = no_giver place.terms.giver sender may is.0.0 is.1
passes place (relay_frame.Child Clear) may is = tt
passes place (relay_frame.Parent frame) may is = tt
passes place relay_frame.Send may is = tt
passes place (relay_frame.Expire sender) may is = no_giver place.terms.giver sender may is.0.0 is.1
passes place (relay_frame.Limits number limits) may is = tt
passes place (relay_frame.Bound sender bound) may is = tt
passes place (relay_frame.Resume stored) may is = tt

-- so the next frame is of another place
pub relay_passes : (terms : RelayTerms) (basis : BasisValue) (e : RelayExchange) (es : List RelayExchange) → RelayStream terms basis (e ∷ es) →
    PassesGiver terms.giver e.frame
relay_passes terms basis e es is =
    subst (λ (t : RelayTerms). PassesGiver t.giver e.frame) is.terms_are
    (passes is.place e.frame (subst (λ (t : RelayTerms). MayGive t.giver) (sym is.terms_are) is.gives) is.stand.0.accepted)

-- ---- the stream to an auctioneer

-- what it still reads stands in its stream, behind Hello
pub record RootStream (basis : BasisValue) (es : List RootExchange) : Type 0 where
  -- where it stands
  pub stage : Stage
  -- the place has its basis
  pub basis_is : basis_at stage ≡ Some basis
  pub stand : AllStand root_framing stage (root_frames es)

root_basis : (stage : Stage) (own : BasisValue) (frame : RootFrame) → basis_at stage ≡ Some own → IsRootFormed stage frame →
    basis_at (root_stage_after stage frame) ≡ Some own
root_basis stage own (root_frame.Market frame) is formed = child_behind stage own frame is formed
root_basis stage own (root_frame.Expire sender) is formed = basis_behind stage ∙ is
root_basis stage own (root_frame.Bound sender bound) is formed = basis_behind stage ∙ is
root_basis stage own (root_frame.Resume stored) is formed = basis_behind stage ∙ is

-- so it is behind Hello, and a Resume
pub root_stream : (basis : BasisValue) (resume : Option StoredRoot) (es : List RootExchange) →
    AllStand root_framing Start (root_start_frames basis resume ++ root_frames es) → RootStream basis es
root_stream basis None es stand = record { stage = Opened basis; basis_is = refl; stand = stand.1 }
root_stream basis (Some stored) es stand = record { stage = Running basis; basis_is = refl; stand = stand.1.1 }

-- and behind the next frame
pub root_rest : (basis : BasisValue) (e : RootExchange) (es : List RootExchange) → RootStream basis (e ∷ es) → RootStream basis es
root_rest basis e es is = record {
  stage = root_stage_after is.stage e.frame;
  basis_is = root_basis is.stage basis e.frame is.basis_is is.stand.0.formed;
  stand = is.stand.1;
}

-- ---- the stream to a device

-- what it still reads stands in its stream, behind Hello
pub record DeviceStream (basis : BasisValue) (es : List DeviceExchange) : Type 0 where
  -- where it stands
  pub place : NodePlace
  -- the place has its basis
  pub basis_is : basis_at place.stage ≡ Some basis
  pub stand : AllStand device_framing place (device_frames es)

device_basis : (place : NodePlace) (own : BasisValue) (frame : DeviceFrame) → basis_at place.stage ≡ Some own → IsDeviceFormed place frame →
    basis_at (device_place_after place frame).stage ≡ Some own
device_basis place own (device_frame.Hello basis) is formed = absurd (no_hello place.stage own basis is formed)
device_basis place own (device_frame.Offer form demand) is formed = basis_behind place.stage ∙ is
device_basis place own (device_frame.Kind named) is formed = basis_behind place.stage ∙ is
device_basis place own device_frame.Leave is formed = basis_behind place.stage ∙ is
device_basis place own (device_frame.Parent frame) is formed = basis_behind place.stage ∙ is
device_basis place own (device_frame.Resume stored) is formed = basis_behind place.stage ∙ is

-- so it is behind Hello, and a Resume
pub device_stream : (child : ℕ) (basis : BasisValue) (resume : Option StoredAgent) (es : List DeviceExchange) →
    AllStand device_framing (stream_start child) (device_start_frames basis resume ++ device_frames es) → DeviceStream basis es
device_stream child basis None es stand = record {
  place = device_place_after (stream_start child) (device_frame.Hello basis);
  basis_is = refl;
  stand = stand.1;
}
device_stream child basis (Some stored) es stand = record {
  place = device_place_after (device_place_after (stream_start child) (device_frame.Hello basis)) (device_frame.Resume stored);
  basis_is = refl;
  stand = stand.1.1;
}

-- and behind the next frame
pub device_rest : (basis : BasisValue) (e : DeviceExchange) (es : List DeviceExchange) → DeviceStream basis (e ∷ es) → DeviceStream basis es
device_rest basis e es is = record {
  place = device_place_after is.place e.frame;
  basis_is = device_basis is.place basis e.frame is.basis_is is.stand.0.formed;
  stand = is.stand.1;
}

-- ---- what a frame says that was handed on unchanged

-- a price that a device reads was handed out to it, and is of the basis of all
abbrev pub DeviceIsGiven : BasisValue → System → ℕ → DeviceFrame → Type 0
DeviceIsGiven own seen d (device_frame.Parent (Price child number index step basis)) =
    (same_basis basis own ≡ true) × PriceWasSent seen d (price_message number index step)
DeviceIsGiven own seen d frame = Unit {0}

of_child : (child : ℕ) (bid : BidMessage) → IsOfChild (bid_frame child bid)
of_child child bid = either IsOfChild bid.gone (Gone child bid.number) (Bid child bid.number bid.demand) (λ e. tt) (λ e. tt)

module _ (lists : Lists) (p : Pricing) (numbering : Numbering) (seen : System) where
  module _ (own : RelaySetup) (c : ℕ) (conc : IsConcentrator lists c) (place : RelayPlace) (is : basis_at place.stage ≡ Some own.basis) where
    relay_bid : (frame : RelayFrame) → IsRelayFormed place frame → IsBidHandedOn lists p numbering own.basis seen c (relay_frame_bytes frame) →
        RelayMayRead lists p numbering own seen c frame
    relay_bid frame formed handed =
        let bid : BidMessage = bid_in_channel p seen handed.x handed.place in
        (relay_reads_bid lists p numbering seen handed.x handed.node bid (record { place = handed.place; inside = handed.inside; is = refl }) c handed.up
        (handed.passes (relay_no_root lists c conc)) own place frame [] [] formed (
          subst (λ (o : Option ℕ). IsFormed o (bid_frame (numbering.place handed.x + 1) bid)) (sym (steps_are place.stage own.basis is)) handed.formed,
          of_child (numbering.place handed.x + 1) bid,
        ) (ap (λ (l : List ℕ). l ++ []) handed.unchanged)).0

    relay_handed : (frame : RelayFrame) → IsRelayFormed place frame → RelayIsHanded lists p numbering own seen c frame →
        RelayIsFree lists p numbering own seen c frame
    relay_handed (relay_frame.Child (Hello basis)) formed handed = tt
    relay_handed (relay_frame.Child (Bid sender number demand)) formed handed =
        relay_bid (relay_frame.Child (Bid sender number demand)) formed handed
    relay_handed (relay_frame.Child (Gone sender number)) formed handed = relay_bid (relay_frame.Child (Gone sender number)) formed handed
    relay_handed (relay_frame.Child Clear) formed handed = tt
    relay_handed (relay_frame.Parent (Price child number index step basis)) formed handed =
        (relay_reads_price lists p numbering seen c (price_in_channel seen c handed.place) (handed.place, handed.inside, refl) own place
        (relay_frame.Parent (Price child number index step basis)) [] [] formed (formed.0, handed.formed)
        (ap (λ (l : List ℕ). l ++ []) handed.unchanged)).0
    relay_handed (relay_frame.Parent (Old child kept)) formed handed = tt
    relay_handed relay_frame.Send formed handed = tt
    relay_handed (relay_frame.Expire sender) formed handed = handed
    relay_handed (relay_frame.Limits number limits) formed handed = handed
    relay_handed (relay_frame.Bound sender bound) formed handed = tt
    relay_handed (relay_frame.Resume stored) formed handed = handed

  -- the next frame of a relay, if it was handed on unchanged, has the fields of what was handed out
  pub relay_free : (own : RelaySetup) (c : ℕ) → IsConcentrator lists c → (e : RelayExchange) (es : List RelayExchange) →
      RelayStream own.terms own.basis (e ∷ es) → RelayIsHanded lists p numbering own seen c e.frame → RelayIsFree lists p numbering own seen c e.frame
  relay_free own c conc e es is handed = relay_handed own c conc is.place is.basis_is e.frame is.stand.0.formed handed

  module _ (basis : BasisValue) (stage : Stage) (is : basis_at stage ≡ Some basis) where
    root_bid : (frame : RootFrame) → IsRootFormed stage frame → IsBidHandedOn lists p numbering basis seen 0 (root_frame_bytes frame) →
        RootMayRead lists p numbering seen frame
    root_bid frame formed handed =
        let bid : BidMessage = bid_in_channel p seen handed.x handed.place in
        (root_reads_bid lists p numbering seen handed.x handed.node bid (record { place = handed.place; inside = handed.inside; is = refl }) handed.up
        stage frame [] [] formed
        (subst (λ (o : Option ℕ). IsFormed o (bid_frame (numbering.place handed.x + 1) bid)) (sym (steps_are stage basis is)) handed.formed)
        (ap (λ (l : List ℕ). l ++ []) handed.unchanged)).0

    root_handed : (frame : RootFrame) → IsRootFormed stage frame → RootIsHanded lists p numbering basis seen frame →
        RootIsFree lists p numbering seen frame
    root_handed (root_frame.Market (Hello other)) formed handed = tt
    root_handed (root_frame.Market (Bid sender number demand)) formed handed =
        root_bid (root_frame.Market (Bid sender number demand)) formed handed
    root_handed (root_frame.Market (Gone sender number)) formed handed = root_bid (root_frame.Market (Gone sender number)) formed handed
    root_handed (root_frame.Market Clear) formed handed = tt
    root_handed (root_frame.Expire sender) formed handed = handed
    root_handed (root_frame.Bound sender bound) formed handed = tt
    root_handed (root_frame.Resume stored) formed handed = handed

  -- so it is of the auctioneer's next frame
  pub root_free : (basis : BasisValue) (e : RootExchange) (es : List RootExchange) → RootStream basis (e ∷ es) →
      RootIsHanded lists p numbering basis seen e.frame → RootIsFree lists p numbering seen e.frame
  root_free basis e es is handed = root_handed basis is.stage is.basis_is e.frame is.stand.0.formed handed

  device_handed : (own : BasisValue) (d : ℕ) (place : NodePlace) (frame : DeviceFrame) → IsDeviceFormed place frame →
      DeviceIsHanded numbering own seen d frame → DeviceIsGiven own seen d frame
  device_handed own d place (device_frame.Parent (Price child number index step basis)) formed handed =
      (device_reads_price lists p numbering seen d (price_in_channel seen d handed.place) (handed.place, handed.inside, refl) own place
      (device_frame.Parent (Price child number index step basis)) [] [] formed (formed.0, handed.formed)
      (ap (λ (l : List ℕ). l ++ []) handed.unchanged)).0
  device_handed own d place (device_frame.Parent (Old child kept)) formed handed = tt
  device_handed own d place frame formed handed = tt

  -- and of a device's
  pub device_given : (own : BasisValue) (d : ℕ) (e : DeviceExchange) (es : List DeviceExchange) → DeviceStream own (e ∷ es) →
      DeviceIsHanded numbering own seen d e.frame → DeviceIsGiven own seen d e.frame
  device_given own d e es is handed = device_handed own d is.place e.frame is.stand.0.formed handed
