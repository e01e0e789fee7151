-- What the readers of the frames of nodes have read.
use Rattle.std.proofs.Common.{◌≡◌, ◌≢◌, ◌∙◌, sym, ap, subst, refl, ℕ, ◌<◌, ◌≤◌, ◌^◌, ◌%◌, ℤ, List, [], ◌∷◌}
use Rattle.std.proofs.Common.{append_assoc, length, length-append}
use Rattle.std.proofs.lemmas.List.{append-nil}
use Rattle.std.proofs.Common.{◌++◌, false, true, Bool, Option, Some, None, arith}
use Rattle.std.specs.Prelude.{IsTrue}
use Rattle.std.specs.Int.{w32, to_be_bytes}
use Rattle.pm_wire.specs.declared.frame.Frame.{Frame}
use Rattle.pm_wire.specs.declared.frame.Frame.TheVariants.{Hello, Bid, Gone, Clear}
use Rattle.pm_wire.specs.Framing.{Framing}
use Rattle.pm_wire.specs.Kinds.{clear_kind}
use Rattle.pm_wire.specs.Frames.{bid_framing, frame_bytes, IsFormed, IsAccepted}
use Rattle.pm_wire.specs.Spelling.{IsOne, IsRefusedFrame, IsFrameAt}
use Rattle.pm_wire.proofs.OneFrame.{parts_same}
use Rattle.pm_basis.specs.Prices.{BasisValue}
use Rattle.pm_frames.specs.Kinds.{resume_kind, resume_gone_kind}
use Rattle.pm_frames.specs.NamedBases.{basis_bytes, IsBasisFormed}
use Rattle.pm_frames.specs.Expiries.{expire_bytes, IsExpireFormed, IsExpireAccepted}
use Rattle.pm_frames.specs.Places.{bid_place, basis_at, steps_at, IsOpen, IsFresh}
use Rattle.pm_frames.specs.ParentFrames.{IsRefusedParentFrame}
use Rattle.pm_frames.specs.Stored.{StoredRelay, relay_resume_bytes, IsRelayStored, IsRelayStoredAccepted}
use Rattle.pm_frames.specs.Stored.{StoredRoot, root_resume_bytes, IsRootStored, IsRootStoredAccepted, newest_bytes}
use Rattle.pm_base.specs.declared.limits.Limits.{Limits}
use Rattle.pm_frames.specs.LimitsFrames.{given_bytes, IsGivenFormed, IsGivenAccepted, bound_bytes, IsBoundFormed, IsBoundAccepted}
use Rattle.pm_frames.specs.Offers.{IsOffer, IsRefusedOffer, AreDemands, IsOfferOf}
use Rattle.pm_frames.specs.RelayFrames.{relay_framing, IsOfChild, IsForChild}
use Rattle.pm_frames.specs.RootFrames.{root_framing}
use Rattle.pm_frames.specs.DeviceFrames.{device_framing}
use Rattle.pm_frames.specs.declared.place.NodePlace.{NodePlace}
use Rattle.pm_frames.specs.declared.place.RelayPlace.{RelayPlace}
use Rattle.pm_frames.specs.declared.place.Stage.{Stage}
use Rattle.pm_frames.specs.declared.place.Stage.TheVariants.{Start}
use Rattle.pm_frames.specs.declared.relay.RelayFrame.TheVariants as relays
use Rattle.pm_frames.specs.declared.root.RootFrame.TheVariants as roots
use Rattle.pm_frames.specs.declared.device.DeviceFrame.TheVariants as devices

-- where a test fails that passes whatever the fact holds of, the fact does not hold
pub fails : {A : Type 0} (test : Bool) → test ≡ false → (A → IsTrue test) → A → ⊥
fails test is back holds = let passes : test ≡ true = back holds in cc (is, passes)

-- the bytes are of a frame that is refused where no frame was read
pub nothing_read : {P F : Type 0} (framing : Framing P F) (place there : P) (bytes : List ℕ) (frame : Option F) → there ≡ place → frame ≡ None →
    IsOne framing there bytes frame →
    IsRefusedFrame framing place bytes
nothing_read framing place there bytes frame same none one =
    subst (λ p. IsRefusedFrame framing p bytes) same (subst (λ f. IsOne framing there bytes f) none one)

-- ---- frames of a stream of bids

-- a frame whose first byte is not that of Clear is of a child
of_child : (kind : ℕ) (body : List ℕ) (frame : Frame) → kind ≢ clear_kind → kind ∷ body ≡ frame_bytes frame → IsOfChild frame
of_child kind body (Hello basis) other e = tt
of_child kind body (Bid child number demand) other e = tt
of_child kind body (Gone child number) other e = tt
of_child kind body Clear other e = absurd (other (parts_same _ _ _ _ e).0)

-- a frame that a stream of bids refuses is refused by a relay, if it is no Clear
pub child_refused : (place : RelayPlace) (kind : ℕ) (body : List ℕ) → kind ≢ clear_kind →
    IsRefusedFrame bid_framing (bid_place place.stage) (kind ∷ body) → IsRefusedFrame relay_framing place (kind ∷ body)
child_refused place kind body other at = record {
  frame = relays.Child at.frame;
  formed = (at.formed, of_child kind body at.frame other at.spelled);
  refused = λ accepted. at.refused accepted.0;
  spelled = at.spelled;
}

-- so is one in the place in which limits are given
pub giver_refused : (place : RelayPlace) (there : Option ℕ) (kind : ℕ) (body : List ℕ) (read : Option Frame) (frame : Frame) → kind ≢ clear_kind →
    there ≡ bid_place place.stage → read ≡ Some frame → IsOne bid_framing there (kind ∷ body) read → ¬ IsForChild place.terms frame →
    IsRefusedFrame relay_framing place (kind ∷ body)
giver_refused place there kind body read frame other same some one refused =
    let at : IsFrameAt bid_framing (bid_place place.stage) (kind ∷ body) frame =
    subst (λ p. IsFrameAt bid_framing p (kind ∷ body) frame) same (subst (λ f. IsOne bid_framing there (kind ∷ body) f) some one) in
    record {
      frame = relays.Child frame;
      formed = (at.stands.formed, of_child kind body frame other at.spelled);
      refused = λ accepted. refused accepted.1;
      spelled = at.spelled;
    }

-- and one in another place is a child's
pub child_read : (place : RelayPlace) (there : Option ℕ) (kind : ℕ) (body : List ℕ) (read : Option Frame) (frame : Frame) → kind ≢ clear_kind →
    there ≡ bid_place place.stage → read ≡ Some frame → IsOne bid_framing there (kind ∷ body) read → IsForChild place.terms frame →
    IsFrameAt relay_framing place (kind ∷ body) (relays.Child frame)
child_read place there kind body read frame other same some one accepted =
    let at : IsFrameAt bid_framing (bid_place place.stage) (kind ∷ body) frame =
    subst (λ p. IsFrameAt bid_framing p (kind ∷ body) frame) same (subst (λ f. IsOne bid_framing there (kind ∷ body) f) some one) in
    record {
      stands = record { formed = (at.stands.formed, of_child kind body frame other at.spelled); accepted = (at.stands.accepted, accepted) };
      spelled = at.spelled;
    }

-- a frame of a stream of bids that is refused there is refused by an auctioneer
pub market_refused : (stage : Stage) (bytes : List ℕ) → IsRefusedFrame bid_framing (bid_place stage) bytes → IsRefusedFrame root_framing stage bytes
market_refused stage bytes at = record { frame = roots.Market at.frame; formed = at.formed; refused = at.refused; spelled = at.spelled }

hello_as : (place : NodePlace) (bytes : List ℕ) (frame : Frame) → place.stage ≡ Start → IsFormed None frame → ¬ IsAccepted frame →
    bytes ≡ frame_bytes frame → IsRefusedFrame device_framing place bytes
hello_as place bytes (Hello basis) start formed refused spelled = record {
  frame = devices.Hello basis;
  formed = subst (λ stage. IsFormed (bid_place stage) (Hello basis)) (sym start) formed;
  refused = refused;
  spelled = spelled;
}
hello_as place bytes (Bid child number demand) start formed refused spelled = absurd formed
hello_as place bytes (Gone child number) start formed refused spelled = absurd formed
hello_as place bytes Clear start formed refused spelled = absurd formed

-- a Hello that a stream of bids refuses is refused by a device's agent
pub hello_refused : (place : NodePlace) (bytes : List ℕ) → place.stage ≡ Start → IsRefusedFrame bid_framing None bytes →
    IsRefusedFrame device_framing place bytes
hello_refused place bytes start at = hello_as place bytes at.frame start at.formed at.refused at.spelled

-- ---- frames of a parent

-- a parent's frame that is not accepted is refused by a relay
pub relay_parent_refused : (place : RelayPlace) (bytes : List ℕ) → IsOpen place.stage →
    IsRefusedParentFrame place.child bytes → IsRefusedFrame relay_framing place bytes
relay_parent_refused place bytes is_open at = record {
  frame = relays.Parent at.frame;
  formed = (is_open, at.formed);
  refused = at.refused;
  spelled = at.spelled;
}

-- and by a device's agent
pub device_parent_refused : (place : NodePlace) (bytes : List ℕ) → IsOpen place.stage →
    IsRefusedParentFrame place.child bytes → IsRefusedFrame device_framing place bytes
device_parent_refused place bytes is_open at = record {
  frame = devices.Parent at.frame;
  formed = (is_open, at.formed);
  refused = at.refused;
  spelled = at.spelled;
}

-- ---- a device that is let go

-- an Expire of no child is refused by a relay
pub relay_expire_refused : (place : RelayPlace) (bytes : List ℕ) (child : ℕ) → IsOpen place.stage → IsExpireFormed child →
    bytes ≡ expire_bytes child → ¬ (IsExpireAccepted child × ¬ (place.terms.giver ≡ Some child)) → IsRefusedFrame relay_framing place bytes
relay_expire_refused place bytes child is_open formed spelled refused = record {
  frame = relays.Expire child;
  formed = (is_open, formed);
  refused = refused;
  spelled = spelled;
}

-- and by an auctioneer
pub root_expire_refused : (stage : Stage) (bytes : List ℕ) (child : ℕ) → IsOpen stage → IsExpireFormed child →
    bytes ≡ expire_bytes child → ¬ IsExpireAccepted child → IsRefusedFrame root_framing stage bytes
root_expire_refused stage bytes child is_open formed spelled refused = record {
  frame = roots.Expire child;
  formed = (is_open, formed);
  refused = refused;
  spelled = spelled;
}

-- ---- limits

pub relay_limits_refused : (place : RelayPlace) (bytes : List ℕ) (number : ℕ) (limits : Limits) → IsOpen place.stage →
    IsGivenFormed number limits → bytes ≡ given_bytes number limits → ¬ (¬ (place.terms.giver ≡ None) × IsGivenAccepted number limits) →
    IsRefusedFrame relay_framing place bytes
relay_limits_refused place bytes number limits is_open formed spelled refused = record {
  frame = relays.Limits number limits;
  formed = (is_open, formed);
  refused = refused;
  spelled = spelled;
}

-- a bound that no child may have is refused by a relay
pub relay_bound_refused : (place : RelayPlace) (bytes : List ℕ) (child : ℕ) (bound : Limits) → IsOpen place.stage → IsBoundFormed child bound →
    bytes ≡ bound_bytes child bound → ¬ (IsBoundAccepted child bound × ¬ (place.terms.giver ≡ Some child)) → IsRefusedFrame relay_framing place bytes
relay_bound_refused place bytes child bound is_open formed spelled refused = record {
  frame = relays.Bound child bound;
  formed = (is_open, formed);
  refused = refused;
  spelled = spelled;
}

-- and by an auctioneer
pub root_bound_refused : (stage : Stage) (bytes : List ℕ) (child : ℕ) (bound : Limits) → IsOpen stage → IsBoundFormed child bound →
    bytes ≡ bound_bytes child bound → ¬ IsBoundAccepted child bound → IsRefusedFrame root_framing stage bytes
root_bound_refused stage bytes child bound is_open formed spelled refused = record {
  frame = roots.Bound child bound;
  formed = (is_open, formed);
  refused = refused;
  spelled = spelled;
}

-- ---- what nodes come back with, and offers

pub relay_resume_refused : (place : RelayPlace) (bytes : List ℕ) (stored : StoredRelay) → IsFresh place.stage → IsRelayStored stored →
    bytes ≡ relay_resume_bytes stored → ¬ IsRelayStoredAccepted place.stage place.terms stored → IsRefusedFrame relay_framing place bytes
relay_resume_refused place bytes stored fresh is spelled refused = record {
  frame = relays.Resume stored;
  formed = (fresh, is);
  refused = refused;
  spelled = spelled;
}

-- a Resume of an auctioneer that is well formed and not of its basis is refused
pub root_resume_refused : (stage : Stage) (bytes : List ℕ) (stored : StoredRoot) → IsFresh stage → IsRootStored stored →
    bytes ≡ root_resume_bytes stored → ¬ IsRootStoredAccepted stage stored → IsRefusedFrame root_framing stage bytes
root_resume_refused stage bytes stored fresh is spelled refused = record {
  frame = roots.Resume stored;
  formed = (fresh, is);
  refused = refused;
  spelled = spelled;
}

-- the demands are no bid where none was read
pub nothing_offered : (steps many : ℕ) (bytes : List ℕ) (offer : Option (List ℤ)) → many ≡ steps → offer ≡ None → IsOffer many bytes offer →
    IsRefusedOffer steps bytes
nothing_offered steps many bytes offer same none is = subst (λ n. IsRefusedOffer n bytes) same (subst (λ o. IsOffer many bytes o) none is)

-- the fields of what a device comes back with that stand before its offer
pub record AreFields (body x y z : List ℕ) (number index : ℕ) (basis : BasisValue) : Type 0 where
  -- the number stands first
  pub number_first : body ≡ to_be_bytes w32 number ++ x
  -- then the index
  pub index_next : x ≡ to_be_bytes w32 index ++ y
  -- and then the basis
  pub basis_last : y ≡ basis_bytes basis ++ z
  -- four bytes hold the number
  pub number_small : number < 2 ^ 32
  -- and the index
  pub index_small : index < 2 ^ 32
  -- the basis is well formed
  pub formed : IsBasisFormed basis

fields_spelled : (body x y z : List ℕ) (number index : ℕ) (basis : BasisValue) → AreFields body x y z number index basis →
    body ≡ to_be_bytes w32 number ++ (to_be_bytes w32 index ++ (basis_bytes basis ++ z))
fields_spelled body x y z number index basis are =
    are.number_first ∙ ap (λ l. to_be_bytes w32 number ++ l) (are.index_next ∙ ap (λ l. to_be_bytes w32 index ++ l) are.basis_last)

-- a Resume whose offer is no bid is refused
pub resume_refused : (place : NodePlace) (body x y z : List ℕ) (number index : ℕ) (basis : BasisValue) → IsFresh place.stage →
    AreFields body x y z number index basis → IsRefusedOffer (steps_at place.stage) z → IsRefusedFrame device_framing place (resume_kind ∷ body)
resume_refused place body x y z number index basis fresh are at = record {
  frame = devices.Resume (record { number = number; index = index; basis = basis; newest = Some at.demand });
  formed = (fresh, (are.number_small, are.index_small, are.formed, (at.are.count, at.are.fit)));
  refused = λ accepted. at.refused accepted.2.1;
  spelled = ap (λ l. resume_kind ∷ l) (fields_spelled body x y z number index basis are
      ∙ ap (λ l. to_be_bytes w32 number ++ (to_be_bytes w32 index ++ (basis_bytes basis ++ l))) at.are.spelled);
}

-- and one of another basis, or under a number that no device gives
pub number_refused : (place : NodePlace) (body x y z : List ℕ) (number index : ℕ) (basis : BasisValue) (demand : List ℤ) → IsFresh place.stage →
    AreFields body x y z number index basis → ¬ ((basis_at place.stage ≡ Some basis) × (number % 2 ≡ 0) × (1 ≤ number)) →
    AreDemands (steps_at place.stage) z demand → IsRefusedFrame device_framing place (resume_kind ∷ body)
number_refused place body x y z number index basis demand fresh fields refused are = record {
  frame = devices.Resume (record { number = number; index = index; basis = basis; newest = Some demand });
  formed = (fresh, (fields.number_small, fields.index_small, fields.formed, (are.count, are.fit)));
  refused = λ accepted. refused (accepted.0, accepted.1, accepted.2.0);
  spelled = ap (λ l. resume_kind ∷ l) (fields_spelled body x y z number index basis fields
      ∙ ap (λ l. to_be_bytes w32 number ++ (to_be_bytes w32 index ++ (basis_bytes basis ++ l))) are.spelled);
}

no_more : (a b : List ℕ) → length a ≡ 18 → length b ≡ 18 → (z : List ℕ) → a ≡ b ++ z → z ≡ []
no_more a b many same [] e = refl
no_more a b many same (n ∷ z) e = absurd (omega (arith, many, same, ap length e, length-append b (n ∷ z)))

gone_spelled : (body x y z : List ℕ) (number index : ℕ) (basis : BasisValue) → AreFields body x y z number index basis → length body ≡ 18 →
    resume_gone_kind ∷ body ≡ newest_bytes number index basis None
gone_spelled body x y z number index basis are many =
    let front : List ℕ = to_be_bytes w32 number ++ (to_be_bytes w32 index ++ basis_bytes basis) in
    let plain : to_be_bytes w32 number ++ (to_be_bytes w32 index ++ (basis_bytes basis ++ z)) ≡ front ++ z = simp append_assoc in
    let all : body ≡ front ++ z = fields_spelled body x y z number index basis are ∙ plain in
    let none : z ≡ [] = no_more body front many refl z all in
    ap (λ l. resume_gone_kind ∷ l) (all ∙ ap (λ l. front ++ l) none ∙ append-nil front)

-- a ResumeGone of another basis, or under a number that no device gives, is refused
pub gone_refused : (place : NodePlace) (body x y z : List ℕ) (number index : ℕ) (basis : BasisValue) → IsFresh place.stage →
    AreFields body x y z number index basis → length body ≡ 18 → ¬ ((basis_at place.stage ≡ Some basis) × (number % 2 ≡ 0)) →
    IsRefusedFrame device_framing place (resume_gone_kind ∷ body)
gone_refused place body x y z number index basis fresh are many refused = record {
  frame = devices.Resume (record { number = number; index = index; basis = basis; newest = None });
  formed = (fresh, (are.number_small, are.index_small, are.formed, tt));
  refused = λ accepted. refused (accepted.0, accepted.1);
  spelled = gone_spelled body x y z number index basis are many;
}

-- and another is read
pub gone_read : (place : NodePlace) (body x y z : List ℕ) (number index : ℕ) (basis : BasisValue) → IsFresh place.stage →
    AreFields body x y z number index basis → length body ≡ 18 → (basis_at place.stage ≡ Some basis) × (number % 2 ≡ 0) →
    IsFrameAt device_framing place (resume_gone_kind ∷ body)
    (devices.Resume (record { number = number; index = index; basis = basis; newest = None }))
gone_read place body x y z number index basis fresh are many accepted = record {
  stands = record {
    formed = (fresh, (are.number_small, are.index_small, are.formed, tt));
    accepted = (accepted.0, accepted.1, tt);
  };
  spelled = gone_spelled body x y z number index basis are many;
}

-- the demands that were read
pub some_offered : (steps many : ℕ) (bytes : List ℕ) (offer : Option (List ℤ)) (demand : List ℤ) → many ≡ steps → offer ≡ Some demand →
    IsOffer many bytes offer → IsOfferOf steps bytes demand
some_offered steps many bytes offer demand same some is =
    subst (λ n. IsOfferOf n bytes demand) same (subst (λ o. IsOffer many bytes o) some is)

-- the fields of a Resume with an offer
pub resume_read : (place : NodePlace) (body x y z : List ℕ) (number index : ℕ) (basis : BasisValue) (demand : List ℤ) → IsFresh place.stage →
    AreFields body x y z number index basis → (basis_at place.stage ≡ Some basis) × (number % 2 ≡ 0) × (1 ≤ number) →
    IsOfferOf (steps_at place.stage) z demand →
    IsFrameAt device_framing place (resume_kind ∷ body)
    (devices.Resume (record { number = number; index = index; basis = basis; newest = Some demand }))
resume_read place body x y z number index basis demand fresh fields accepted offer = record {
  stands = record {
    formed = (fresh, (fields.number_small, fields.index_small, fields.formed, (offer.are.count, offer.are.fit)));
    accepted = (accepted.0, accepted.1, (accepted.2, offer.accepted));
  };
  spelled = ap (λ l. resume_kind ∷ l) (fields_spelled body x y z number index basis fields
      ∙ ap (λ l. to_be_bytes w32 number ++ (to_be_bytes w32 index ++ (basis_bytes basis ++ l))) offer.are.spelled);
}

-- where a test passes, the fact holds
pub passes : {A : Type 0} (test : Bool) → test ≡ true → (IsTrue test → A) → A
passes test is so = so is
