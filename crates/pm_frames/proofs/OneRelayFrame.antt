-- The frames of the stream to a relay: the first byte of one tells how many it has, and its bytes determine it.
use Rattle.std.proofs.Common.{◌≡◌, ap, ℕ, ◌+◌, ◌*◌, ◌≤◌, List, ◌++◌, length, Option, Some, refl, arith}
use Rattle.std.specs.Prelude.{◌==◌, IfSome}
use Rattle.pm_wire.specs.declared.frame.Frame as bids
use Rattle.pm_wire.specs.Framing.{IsFraming, HasSize, MayStand}
use Rattle.pm_wire.specs.Kinds.{hello_kind, bid_kind, gone_kind, old_kind}
use Rattle.pm_wire.specs.Memory.{frame_limit}
use Rattle.pm_wire.proofs.OneField.{two_same}
use Rattle.pm_wire.proofs.OneFrame.{parts_same, bid_framing_sound}
use Rattle.pm_frames.specs.Kinds.{price_kind, send_kind, resume_kind, expire_kind, limits_kind, bound_kind}
use Rattle.pm_frames.specs.Places.{bid_place, IsRelayPlace}
use Rattle.pm_frames.specs.Stored.{relay_resume_bytes, relay_resume_size}
use Rattle.pm_frames.specs.RelayFrames.{relay_framing, relay_frame_bytes, relay_size, relay_size_open, IsRelayFormed, relay_place_after}
use Rattle.pm_frames.specs.declared.place.RelayPlace.{RelayPlace}
use Rattle.pm_frames.specs.declared.terms.RelayTerms.{RelayTerms}
use Rattle.pm_frames.specs.declared.place.Stage.{Stage}
use Rattle.pm_frames.specs.declared.place.Stage.TheVariants.{Start, Opened, Running}
use Rattle.pm_frames.specs.declared.parent.ParentFrame as parents
use Rattle.pm_frames.specs.declared.relay.RelayFrame.{RelayFrame}
use Rattle.pm_frames.specs.declared.relay.RelayFrame.TheVariants.{Child, Parent, Send, Expire, Limits, Bound, Resume}
use Rattle.pm_frames.proofs.FirstBytes.{bid_kind_of, first_same}
use Rattle.pm_frames.proofs.OneNumber.{length-number_bytes}
use Rattle.pm_frames.proofs.OneParent.{parent_same, parent_least, no_parent}
use Rattle.std.proofs.Common.{◌∙◌, sym}
use Rattle.pm_frames.proofs.OneStored.{relay_stored_same, given_same, bound_same}
use Rattle.pm_frames.proofs.NodePlaces.{behind_is, after_is, steps_of}
use Rattle.pm_frames.proofs.Sizes.{either, of_some}

-- ---- the bytes determine the frame

one_frame : (place : RelayPlace) (f g : RelayFrame) (x y : List ℕ) → IsRelayFormed place f → IsRelayFormed place g →
    relay_frame_bytes f ++ x ≡ relay_frame_bytes g ++ y → (f ≡ g) × (x ≡ y)
one_frame place (Child f) (Child g) x y is is' e =
    let same = bid_framing_sound.one_frame (bid_place place.stage) f g x y is.0 is'.0 e in
    (ap (λ h. Child h) same.0, same.1)
one_frame place (Child f) (Parent g) x y is is' e = absurd (omega (arith, bid_kind_of f x, parent_least g y, first_same _ _ e))
one_frame place (Child f) Send x y is is' e = absurd (omega (arith, bid_kind_of f x, first_same _ _ e))
one_frame place (Child f) (Expire b) x y is is' e = absurd (omega (arith, bid_kind_of f x, first_same _ _ e))
one_frame place (Child f) (Limits n k) x y is is' e = absurd (omega (arith, bid_kind_of f x, first_same _ _ e))
one_frame place (Child f) (Bound n k) x y is is' e = absurd (omega (arith, bid_kind_of f x, first_same _ _ e))
one_frame place (Child f) (Resume b) x y is is' e = absurd (omega (arith, bid_kind_of f x, first_same _ _ e))
one_frame place (Parent f) (Child g) x y is is' e = absurd (omega (arith, parent_least f x, bid_kind_of g y, first_same _ _ e))
one_frame place (Parent f) (Parent g) x y is is' e = let same = parent_same f g x y is.1 is'.1 e in (ap (λ h. Parent h) same.0, same.1)
one_frame place (Parent f) Send x y is is' e = absurd (no_parent f x send_kind (λ s. omega (arith, s)) (λ s. omega (arith, s)) (first_same _ _ e))
one_frame place (Parent f) (Expire b) x y is is' e = absurd (no_parent f x expire_kind (λ s. omega (arith, s)) (λ s. omega (arith, s)) (first_same _ _ e))
one_frame place (Parent f) (Limits n k) x y is is' e = absurd (no_parent f x limits_kind (λ s. omega (arith, s)) (λ s. omega (arith, s)) (first_same _ _ e))
one_frame place (Parent f) (Bound n k) x y is is' e = absurd (no_parent f x bound_kind (λ s. omega (arith, s)) (λ s. omega (arith, s)) (first_same _ _ e))
one_frame place (Parent f) (Resume b) x y is is' e = absurd (no_parent f x resume_kind (λ s. omega (arith, s)) (λ s. omega (arith, s)) (first_same _ _ e))
one_frame place Send (Child g) x y is is' e = absurd (omega (arith, bid_kind_of g y, first_same _ _ e))
one_frame place Send (Parent g) x y is is' e = absurd (no_parent g y send_kind (λ s. omega (arith, s)) (λ s. omega (arith, s)) (sym (first_same _ _ e)))
one_frame place Send Send x y is is' e = (refl, (parts_same _ _ _ _ e).1)
one_frame place Send (Expire b) x y is is' e = absurd (omega (arith, first_same _ _ e))
one_frame place Send (Limits n k) x y is is' e = absurd (omega (arith, first_same _ _ e))
one_frame place Send (Bound n k) x y is is' e = absurd (omega (arith, first_same _ _ e))
one_frame place Send (Resume b) x y is is' e = absurd (omega (arith, first_same _ _ e))
one_frame place (Expire a) (Child g) x y is is' e = absurd (omega (arith, bid_kind_of g y, first_same _ _ e))
one_frame place (Expire a) (Parent g) x y is is' e =
    absurd (no_parent g y expire_kind (λ s. omega (arith, s)) (λ s. omega (arith, s)) (sym (first_same _ _ e)))
one_frame place (Expire a) Send x y is is' e = absurd (omega (arith, first_same _ _ e))
one_frame place (Expire a) (Expire b) x y is is' e =
    let same = two_same a b x y is.1 is'.1 (parts_same _ _ _ _ e).1 in (ap (λ h. Expire h) same.0, same.1)
one_frame place (Expire a) (Limits n k) x y is is' e = absurd (omega (arith, first_same _ _ e))
one_frame place (Expire a) (Bound n k) x y is is' e = absurd (omega (arith, first_same _ _ e))
one_frame place (Expire a) (Resume b) x y is is' e = absurd (omega (arith, first_same _ _ e))
one_frame place (Limits m l) (Child g) x y is is' e = absurd (omega (arith, bid_kind_of g y, first_same _ _ e))
one_frame place (Limits m l) (Parent g) x y is is' e =
    absurd (no_parent g y limits_kind (λ s. omega (arith, s)) (λ s. omega (arith, s)) (sym (first_same _ _ e)))
one_frame place (Limits m l) Send x y is is' e = absurd (omega (arith, first_same _ _ e))
one_frame place (Limits m l) (Expire b) x y is is' e = absurd (omega (arith, first_same _ _ e))
one_frame place (Limits m l) (Limits n k) x y is is' e =
    let same = given_same m l n k x y is.1 is'.1 e in (ap (λ z. Limits z l) same.0 ∙ ap (λ z. Limits n z) same.1, same.2)
one_frame place (Limits m l) (Bound n k) x y is is' e = absurd (omega (arith, first_same _ _ e))
one_frame place (Limits m l) (Resume b) x y is is' e = absurd (omega (arith, first_same _ _ e))
one_frame place (Bound m l) (Child g) x y is is' e = absurd (omega (arith, bid_kind_of g y, first_same _ _ e))
one_frame place (Bound m l) (Parent g) x y is is' e =
    absurd (no_parent g y bound_kind (λ s. omega (arith, s)) (λ s. omega (arith, s)) (sym (first_same _ _ e)))
one_frame place (Bound m l) Send x y is is' e = absurd (omega (arith, first_same _ _ e))
one_frame place (Bound m l) (Expire b) x y is is' e = absurd (omega (arith, first_same _ _ e))
one_frame place (Bound m l) (Limits n k) x y is is' e = absurd (omega (arith, first_same _ _ e))
one_frame place (Bound m l) (Bound n k) x y is is' e =
    let same = bound_same m l n k x y is.1 is'.1 e in (ap (λ z. Bound z l) same.0 ∙ ap (λ z. Bound n z) same.1, same.2)
one_frame place (Bound m l) (Resume b) x y is is' e = absurd (omega (arith, first_same _ _ e))
one_frame place (Resume a) (Child g) x y is is' e = absurd (omega (arith, bid_kind_of g y, first_same _ _ e))
one_frame place (Resume a) (Parent g) x y is is' e =
    absurd (no_parent g y resume_kind (λ s. omega (arith, s)) (λ s. omega (arith, s)) (sym (first_same _ _ e)))
one_frame place (Resume a) Send x y is is' e = absurd (omega (arith, first_same _ _ e))
one_frame place (Resume a) (Expire b) x y is is' e = absurd (omega (arith, first_same _ _ e))
one_frame place (Resume a) (Limits n k) x y is is' e = absurd (omega (arith, first_same _ _ e))
one_frame place (Resume a) (Bound n k) x y is is' e = absurd (omega (arith, first_same _ _ e))
one_frame place (Resume a) (Resume b) x y is is' e = let same = relay_stored_same a b x y is.1 is'.1 e in (ap (λ h. Resume h) same.0, same.1)

-- ---- the first byte tells the size

sized : (child : ℕ) (terms : RelayTerms) (stage : Stage) (frame : RelayFrame) (more : List ℕ) →
    IsRelayFormed (record { child = child; terms = terms; stage = stage }) frame →
    HasSize relay_framing (record { child = child; terms = terms; stage = stage }) (relay_frame_bytes frame ++ more) (length (relay_frame_bytes frame))
sized child terms Start (Child (bids.TheVariants.Hello basis)) more is = refl
sized child terms Start (Child (bids.TheVariants.Bid sender number demand)) more is = absurd is.0
sized child terms Start (Child (bids.TheVariants.Gone sender number)) more is = absurd is.0
sized child terms Start (Child bids.TheVariants.Clear) more is = absurd is.0
sized child terms Start (Parent frame) more is = absurd is.0
sized child terms Start Send more is = absurd is
sized child terms Start (Expire sender) more is = absurd is.0
sized child terms Start (Limits number limits) more is = absurd is.0
sized child terms Start (Bound sender bound) more is = absurd is.0
sized child terms Start (Resume stored) more is = absurd is.0
sized child terms (Opened known) (Child (bids.TheVariants.Hello basis)) more is = absurd is.0
sized child terms (Opened known) (Child (bids.TheVariants.Bid sender number demand)) more is =
    bid_framing_sound.sized (Some known.steps) (bids.TheVariants.Bid sender number demand) more is.0
sized child terms (Opened known) (Child (bids.TheVariants.Gone sender number)) more is = refl
sized child terms (Opened known) (Child bids.TheVariants.Clear) more is = absurd is.1
sized child terms (Opened known) (Parent (parents.TheVariants.Price own number index step basis)) more is = refl
sized child terms (Opened known) (Parent (parents.TheVariants.Old own kept)) more is = refl
sized child terms (Opened known) Send more is = refl
sized child terms (Opened known) (Expire sender) more is = refl
sized child terms (Opened known) (Limits number limits) more is = refl
sized child terms (Opened known) (Bound sender bound) more is = refl
sized child terms (Opened known) (Resume stored) more is =
    let size : relay_resume_size ≡ length (relay_resume_bytes stored) = omega (arith, length-number_bytes stored.numbers, is.1.7.0) in
    ap (λ n. Some n) size
sized child terms (Running known) (Child (bids.TheVariants.Hello basis)) more is = absurd is.0
sized child terms (Running known) (Child (bids.TheVariants.Bid sender number demand)) more is =
    bid_framing_sound.sized (Some known.steps) (bids.TheVariants.Bid sender number demand) more is.0
sized child terms (Running known) (Child (bids.TheVariants.Gone sender number)) more is = refl
sized child terms (Running known) (Child bids.TheVariants.Clear) more is = absurd is.1
sized child terms (Running known) (Parent (parents.TheVariants.Price own number index step basis)) more is = refl
sized child terms (Running known) (Parent (parents.TheVariants.Old own kept)) more is = refl
sized child terms (Running known) Send more is = refl
sized child terms (Running known) (Expire sender) more is = refl
sized child terms (Running known) (Limits number limits) more is = refl
sized child terms (Running known) (Bound sender bound) more is = refl
sized child terms (Running known) (Resume stored) more is = absurd is.0

-- what holds of each size holds of those after Hello
size_open : (P : ℕ → Type 0) (steps kind : ℕ) → P 1 → P 3 → P 7 → P 11 → P 13 → P 23 → P (7 + 4 * steps) →
    IfSome (relay_size_open steps kind) P
size_open P steps kind one three seven eleven thirteen more bid =
    let Q : Option ℕ → Type 0 = λ o. IfSome o P in
    either Q (kind == bid_kind) _ _ bid (either Q (kind == gone_kind) _ _ seven
    (either Q (kind == price_kind) _ _ more (either Q (kind == old_kind) _ _ seven (either Q (kind == send_kind) _ _ one
    (either Q (kind == expire_kind) _ _ three (either Q (kind == limits_kind) _ _ thirteen (either Q (kind == bound_kind) _ _ eleven tt)))))))

size_of : (P : ℕ → Type 0) (stage : Stage) (kind : ℕ) → P 1 → P 3 → P 7 → P 11 → P 13 → P 23 → P relay_resume_size →
    ((steps : ℕ) → bid_place stage ≡ Some steps → P (7 + 4 * steps)) →
    IfSome (relay_size stage kind) P
size_of P Start kind one three seven eleven thirteen more resume bid =
    let Q : Option ℕ → Type 0 = λ o. IfSome o P in either Q (kind == hello_kind) _ _ eleven tt
size_of P (Opened known) kind one three seven eleven thirteen more resume bid =
    let Q : Option ℕ → Type 0 = λ o. IfSome o P in
    either Q (kind == resume_kind) _ _ resume (size_open P known.steps kind one three seven eleven thirteen more (bid known.steps refl))
size_of P (Running known) kind one three seven eleven thirteen more resume bid =
    size_open P known.steps kind one three seven eleven thirteen more (bid known.steps refl)

some_bytes : (place : RelayPlace) (kind size : ℕ) → relay_size place.stage kind ≡ Some size → 1 ≤ size
some_bytes place kind size is =
    let P : ℕ → Type 0 = λ n. 1 ≤ n in
    of_some P _ size
    (size_of P place.stage kind (omega arith) (omega arith) (omega arith) (omega arith) (omega arith) (omega arith) (omega arith)
    (λ steps e. omega arith)) is

few_bytes : (place : RelayPlace) (kind size : ℕ) → IsRelayPlace place → relay_size place.stage kind ≡ Some size → size ≤ frame_limit
few_bytes place kind size is_place is =
    let P : ℕ → Type 0 = λ n. n ≤ frame_limit in
    of_some P _ size (size_of P place.stage kind (omega arith) (omega arith) (omega arith) (omega arith) (omega arith) (omega arith) (omega arith)
    (λ steps e. omega (arith, (steps_of place.stage steps is_place e).most))) is

leads_on : (place : RelayPlace) (frame : RelayFrame) → IsRelayPlace place → MayStand relay_framing place frame →
    IsRelayPlace (relay_place_after place frame)
leads_on place (Child frame) is stands = after_is place.stage frame is (record { formed = stands.formed.0; accepted = stands.accepted.0 })
leads_on place (Parent frame) is stands = behind_is place.stage is
leads_on place Send is stands = behind_is place.stage is
leads_on place (Expire child) is stands = behind_is place.stage is
leads_on place (Limits number limits) is stands = behind_is place.stage is
leads_on place (Bound child bound) is stands = behind_is place.stage is
leads_on place (Resume stored) is stands = behind_is place.stage is

-- the frames of the stream to a relay are a framing
pub relay_framing_sound : IsFraming relay_framing
relay_framing_sound = record {
  sized = λ place. sized place.child place.terms place.stage;
  some_bytes = some_bytes;
  few_bytes = few_bytes;
  one_frame = one_frame;
  not_empty = omega arith;
  leads_on = leads_on;
}
