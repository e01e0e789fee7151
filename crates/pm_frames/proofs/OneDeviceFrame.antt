-- The frames of the stream to a device's agent: the first byte of one tells how many it has, and its bytes determine it.
use Rattle.std.proofs.Common.{◌≡◌, ◌∙◌, sym, ap, ℕ, ◌+◌, ◌*◌, ◌≤◌, ℤ, List, ◌++◌, length, Option, Some}
use Rattle.std.proofs.Common.{None, refl, arith, get_or}
use Rattle.std.specs.Prelude.{◌==◌, IfSome, IsTrue}
use Rattle.std.proofs.lemmas.Bool.Decides.{nat_tests}
use Rattle.pm_basis.specs.Prices.{BasisValue}
use Rattle.pm_points.specs.Points.{Point, max_points}
use Rattle.pm_device.specs.Kinds.{is_valid}
use Rattle.pm_device.specs.declared.kind.Kind.{Kind}
use Rattle.pm_wire.specs.declared.frame.Frame as bids
use Rattle.pm_wire.specs.Framing.{IsFraming, HasSize, MayStand}
use Rattle.pm_wire.specs.Kinds.{hello_kind, old_kind}
use Rattle.pm_wire.proofs.OneField.{length-demand_bytes}
use Rattle.pm_wire.proofs.OneFrame.{parts_same, bid_framing_sound}
use Rattle.pm_frames.specs.Kinds.{price_kind, resume_kind, offer_kind, leave_kind, resume_gone_kind, kind_kind, state_kind, points_kind}
use Rattle.pm_frames.specs.NamedKinds.{kind_of_named, IsValidKind}
use Rattle.pm_frames.specs.OfferForms.{offer_bytes, points_bytes, points_size, IsOfferFormed}
use Rattle.pm_frames.specs.ParentFrames.{parent_bytes}
use Rattle.pm_frames.specs.Places.{bid_place, IsNodePlace}
use Rattle.pm_frames.specs.Stored.{newest_bytes, agent_resume_bytes, IsNewestFormed}
use Rattle.pm_frames.specs.DeviceFrames.{device_framing, device_frame_bytes, device_size, device_size_open, device_size_fresh, device_frame_limit}
use Rattle.pm_frames.specs.DeviceFrames.{IsDeviceFormed, device_place_after}
use Rattle.pm_frames.specs.declared.place.NodePlace.{NodePlace}
use Rattle.pm_frames.specs.declared.place.Stage.{Stage}
use Rattle.pm_frames.specs.declared.place.Stage.TheVariants.{Start, Opened, Running}
use Rattle.pm_frames.specs.declared.parent.ParentFrame.{ParentFrame}
use Rattle.pm_frames.specs.declared.parent.ParentFrame as parents
use Rattle.pm_frames.specs.declared.stored.StoredAgent.{StoredAgent}
use Rattle.pm_frames.specs.declared.form.OfferForm.{OfferForm}
use Rattle.pm_frames.specs.declared.form.OfferForm.TheVariants.{Array, Points, State}
use Rattle.pm_frames.specs.declared.device.DeviceFrame.{DeviceFrame}
use Rattle.pm_frames.specs.declared.device.DeviceFrame.TheVariants.{Hello, Offer, Leave, Parent, Resume}
use Rattle.pm_frames.specs.declared.device.DeviceFrame.TheVariants as device_frame
use Rattle.pm_frames.proofs.FirstBytes.{first_same}
use Rattle.pm_frames.proofs.OneOffer.{offer_same, no_offer, kind_same, newest_most, points_sized, length-point_list_bytes}
use Rattle.pm_frames.proofs.OneParent.{parent_same, parent_most, no_parent}
use Rattle.pm_frames.proofs.OneStored.{newest_same, newest_kind}
use Rattle.pm_frames.proofs.NodePlaces.{behind_is, steps_of}
use Rattle.pm_frames.proofs.Sizes.{either, of_some, if_some}

-- ---- the bytes determine the frame

hello_same : (place : NodePlace) (b c : BasisValue) (x y : List ℕ) → IsDeviceFormed place (Hello b) → IsDeviceFormed place (Hello c) →
    device_frame_bytes (Hello b) ++ x ≡ device_frame_bytes (Hello c) ++ y → (b ≡ c) × (x ≡ y)
hello_same place b c x y is is' e =
    let same = bid_framing_sound.one_frame (bid_place place.stage) (bids.TheVariants.Hello b) (bids.TheVariants.Hello c) x y is is' e in
    let bases : b ≡ c = cc same.0 in (bases, same.1)

-- the first byte of an offer is none of a parent's frame
offer_no_parent : (place : NodePlace) (form : OfferForm) (demand : List ℤ) (frame : ParentFrame) (x y : List ℕ) →
    IsOfferFormed place form demand → get_or (offer_bytes form demand ++ x) 0 0 ≡ get_or (parent_bytes frame ++ y) 0 0 → ⊥
offer_no_parent place form demand frame x y is e =
    no_parent frame y (get_or (offer_bytes form demand ++ x) 0 0) (no_offer place form demand x 7 is (λ s. omega (arith, s)) (omega arith))
    (no_offer place form demand x 23 is (λ s. omega (arith, s)) (omega arith)) (sym e)

-- nor of what is kept over a restart
offer_no_resume : (place : NodePlace) (form : OfferForm) (demand : List ℤ) (stored : StoredAgent) (x y : List ℕ) →
    IsOfferFormed place form demand → get_or (offer_bytes form demand ++ x) 0 0 ≡ get_or (agent_resume_bytes stored ++ y) 0 0 → ⊥
offer_no_resume place form demand stored x y is e =
    let least = newest_kind stored.number stored.index stored.basis stored.newest y in
    let most = newest_most stored.number stored.index stored.basis stored.newest y in
    no_offer place form demand x (get_or (agent_resume_bytes stored ++ y) 0 0) is (λ s. omega (arith, s, least)) (omega (arith, most)) e

one_frame : (place : NodePlace) (f g : DeviceFrame) (x y : List ℕ) → IsDeviceFormed place f → IsDeviceFormed place g →
    device_frame_bytes f ++ x ≡ device_frame_bytes g ++ y → (f ≡ g) × (x ≡ y)
one_frame place (Hello b) (Hello c) x y is is' e = let same = hello_same place b c x y is is' e in (ap (λ h. Hello h) same.0, same.1)
one_frame place (Hello b) (Offer form' demand') x y is is' e =
    absurd (no_offer place form' demand' y 1 is'.1 (λ s. omega (arith, s)) (omega arith) (sym (first_same _ _ e)))
one_frame place (Hello b) (device_frame.Kind a') x y is is' e = absurd (omega (arith, first_same _ _ e))
one_frame place (Hello b) Leave x y is is' e = absurd (omega (arith, first_same _ _ e))
one_frame place (Hello b) (Parent g) x y is is' e = absurd (no_parent g y 1 (λ s. omega (arith, s)) (λ s. omega (arith, s)) (sym (first_same _ _ e)))
one_frame place (Hello b) (Resume s) x y is is' e =
    absurd (omega (arith, newest_kind s.number s.index s.basis s.newest y, newest_most s.number s.index s.basis s.newest y, first_same _ _ e))
one_frame place (Offer form demand) (Hello c) x y is is' e =
    absurd (no_offer place form demand x 1 is.1 (λ s. omega (arith, s)) (omega arith) (first_same _ _ e))
one_frame place (Offer form demand) (Offer form' demand') x y is is' e = offer_same place form form' demand demand' x y is.1 is'.1 e
one_frame place (Offer form demand) (device_frame.Kind a') x y is is' e =
    absurd (no_offer place form demand x 29 is.1 (λ s. omega (arith, s)) (omega arith) (first_same _ _ e))
one_frame place (Offer form demand) Leave x y is is' e =
    absurd (no_offer place form demand x leave_kind is.1 (λ s. omega (arith, s)) (omega arith) (first_same _ _ e))
one_frame place (Offer form demand) (Parent g) x y is is' e = absurd (offer_no_parent place form demand g x y is.1 (first_same _ _ e))
one_frame place (Offer form demand) (Resume s) x y is is' e = absurd (offer_no_resume place form demand s x y is.1 (first_same _ _ e))
one_frame place (device_frame.Kind a) (Hello c) x y is is' e = absurd (omega (arith, first_same _ _ e))
one_frame place (device_frame.Kind a) (Offer form' demand') x y is is' e =
    absurd (no_offer place form' demand' y 29 is'.1 (λ s. omega (arith, s)) (omega arith) (sym (first_same _ _ e)))
one_frame place (device_frame.Kind a) (device_frame.Kind a') x y is is' e =
    let same = kind_same a a' x y is.1 is'.1 e in (ap (λ n. device_frame.Kind n) same.0, same.1)
one_frame place (device_frame.Kind a) Leave x y is is' e = absurd (omega (arith, first_same _ _ e))
one_frame place (device_frame.Kind a) (Parent g) x y is is' e =
    absurd (no_parent g y 29 (λ s. omega (arith, s)) (λ s. omega (arith, s)) (sym (first_same _ _ e)))
one_frame place (device_frame.Kind a) (Resume s) x y is is' e =
    absurd (omega (arith, newest_kind s.number s.index s.basis s.newest y, newest_most s.number s.index s.basis s.newest y, first_same _ _ e))
one_frame place Leave (Hello c) x y is is' e = absurd (omega (arith, first_same _ _ e))
one_frame place Leave (Offer form' demand') x y is is' e =
    absurd (no_offer place form' demand' y leave_kind is'.1 (λ s. omega (arith, s)) (omega arith) (sym (first_same _ _ e)))
one_frame place Leave (device_frame.Kind a') x y is is' e = absurd (omega (arith, first_same _ _ e))
one_frame place Leave Leave x y is is' e = (refl, (parts_same _ _ _ _ e).1)
one_frame place Leave (Parent g) x y is is' e = absurd (no_parent g y leave_kind (λ s. omega (arith, s)) (λ s. omega (arith, s)) (sym (first_same _ _ e)))
one_frame place Leave (Resume s) x y is is' e =
    absurd (omega (arith, newest_kind s.number s.index s.basis s.newest y, newest_most s.number s.index s.basis s.newest y, first_same _ _ e))
one_frame place (Parent f) (Hello c) x y is is' e = absurd (no_parent f x 1 (λ s. omega (arith, s)) (λ s. omega (arith, s)) (first_same _ _ e))
one_frame place (Parent f) (Offer form' demand') x y is is' e = absurd (offer_no_parent place form' demand' f y x is'.1 (sym (first_same _ _ e)))
one_frame place (Parent f) (device_frame.Kind a') x y is is' e =
    absurd (no_parent f x 29 (λ s. omega (arith, s)) (λ s. omega (arith, s)) (first_same _ _ e))
one_frame place (Parent f) Leave x y is is' e = absurd (no_parent f x leave_kind (λ s. omega (arith, s)) (λ s. omega (arith, s)) (first_same _ _ e))
one_frame place (Parent f) (Parent g) x y is is' e = let same = parent_same f g x y is.1 is'.1 e in (ap (λ h. Parent h) same.0, same.1)
one_frame place (Parent f) (Resume s) x y is is' e =
    absurd (omega (arith, parent_most f x, newest_kind s.number s.index s.basis s.newest y, first_same _ _ e))
one_frame place (Resume r) (Hello c) x y is is' e =
    absurd (omega (arith, newest_kind r.number r.index r.basis r.newest x, newest_most r.number r.index r.basis r.newest x, first_same _ _ e))
one_frame place (Resume r) (Offer form' demand') x y is is' e = absurd (offer_no_resume place form' demand' r y x is'.1 (sym (first_same _ _ e)))
one_frame place (Resume r) (device_frame.Kind a') x y is is' e =
    absurd (omega (arith, newest_kind r.number r.index r.basis r.newest x, newest_most r.number r.index r.basis r.newest x, first_same _ _ e))
one_frame place (Resume r) Leave x y is is' e =
    absurd (omega (arith, newest_kind r.number r.index r.basis r.newest x, newest_most r.number r.index r.basis r.newest x, first_same _ _ e))
one_frame place (Resume r) (Parent g) x y is is' e =
    absurd (omega (arith, parent_most g y, newest_kind r.number r.index r.basis r.newest x, first_same _ _ e))
one_frame place (Resume r) (Resume s) x y is is' e =
    let same = newest_same _ r.number r.index s.number s.index r.basis s.basis r.newest s.newest x y is.1.0 is.1.1 is'.1.0 is'.1.1 is.1.2 is'.1.2 is.1.3
    is'.1.3 e in (
      ap (λ n. Resume (record { number = n; index = r.index; basis = r.basis; newest = r.newest })) same.0
          ∙ ap (λ n. Resume (record { number = s.number; index = n; basis = r.basis; newest = r.newest })) same.1
          ∙ ap (λ n. Resume (record { number = s.number; index = s.index; basis = n; newest = r.newest })) same.2
          ∙ ap (λ n. Resume (record { number = s.number; index = s.index; basis = s.basis; newest = n })) same.3,
      same.4,
    )

-- ---- the first byte tells the size

newest_sized : (child : ℕ) (known : BasisValue) (kind : Option Kind) (number index : ℕ) (basis : BasisValue) (newest : Option (List ℤ))
    (more : List ℕ) → IsNewestFormed known.steps newest →
    HasSize device_framing (record { child = child; stage = Opened known; kind = kind }) (newest_bytes number index basis newest ++ more)
    (length (newest_bytes number index basis newest))
newest_sized child known kind number index basis (Some demand) more is =
    let size : 19 + 4 * known.steps ≡ length (newest_bytes number index basis (Some demand)) = omega (arith, length-demand_bytes demand, is.0) in
    ap (λ n. Some n) size
newest_sized child known kind number index basis None more is = refl

array_size : (steps : ℕ) (demand : List ℤ) → length demand ≡ steps → Some (1 + 4 * steps) ≡ Some (length (offer_bytes Array demand))
array_size steps demand many =
    let size : 1 + 4 * steps ≡ length (offer_bytes Array demand) = omega (arith, length-demand_bytes demand, many) in ap (λ n. Some n) size

-- the size by the kind of points, after Hello and directly after it
points_open : (steps count : ℕ) → 1 ≤ count → count ≤ max_points → device_size_open steps (points_kind + count) ≡ Some (1 + 8 * count)
points_open steps count some few = grind (arith, nat_tests)

points_fresh : (steps count : ℕ) → 1 ≤ count → count ≤ max_points →
    device_size_fresh steps (points_kind + count) ≡ device_size_open steps (points_kind + count)
points_fresh steps count some few = grind (arith, nat_tests)

points_count : (points : List Point) → Some (1 + 8 * length points) ≡ Some (length (points_bytes points))
points_count points =
    let size : 1 + 8 * length points ≡ length (points_bytes points) = omega (arith, length-point_list_bytes points) in ap (λ n. Some n) size

offer_sized : (child : ℕ) (stage : Stage) (kind : Option Kind) (form : OfferForm) (demand : List ℤ) (more : List ℕ) →
    IsDeviceFormed (record { child = child; stage = stage; kind = kind }) (Offer form demand) →
    HasSize device_framing (record { child = child; stage = stage; kind = kind }) (offer_bytes form demand ++ more) (length (offer_bytes form demand))
offer_sized child Start kind form demand more is = absurd is.0
offer_sized child (Opened known) kind Array demand more is = array_size known.steps demand is.1.0
offer_sized child (Opened known) kind (Points points) demand more is =
    points_fresh known.steps (length points) is.1.0 is.1.1 ∙ points_open known.steps (length points) is.1.0 is.1.1 ∙ points_count points
offer_sized child (Opened known) kind (State state) demand more is = refl
offer_sized child (Running known) kind Array demand more is = array_size known.steps demand is.1.0
offer_sized child (Running known) kind (Points points) demand more is =
    points_open known.steps (length points) is.1.0 is.1.1 ∙ points_count points
offer_sized child (Running known) kind (State state) demand more is = refl

sized : (child : ℕ) (stage : Stage) (kind : Option Kind) (frame : DeviceFrame) (more : List ℕ) →
    IsDeviceFormed (record { child = child; stage = stage; kind = kind }) frame →
    HasSize device_framing (record { child = child; stage = stage; kind = kind }) (device_frame_bytes frame ++ more) (length (device_frame_bytes frame))
sized child Start kind (Hello basis) more is = refl
sized child Start kind (Offer form demand) more is = absurd is.0
sized child Start kind (device_frame.Kind named) more is = absurd is.0
sized child Start kind Leave more is = absurd is
sized child Start kind (Parent frame) more is = absurd is.0
sized child Start kind (Resume stored) more is = absurd is.0
sized child (Opened known) kind (Hello basis) more is = absurd is
sized child (Opened known) kind (Offer form demand) more is = offer_sized child (Opened known) kind form demand more is
sized child (Opened known) kind (device_frame.Kind named) more is = refl
sized child (Opened known) kind Leave more is = refl
sized child (Opened known) kind (Parent (parents.TheVariants.Price own number index step basis)) more is = refl
sized child (Opened known) kind (Parent (parents.TheVariants.Old own kept)) more is = refl
sized child (Opened known) kind (Resume stored) more is = newest_sized child known kind stored.number stored.index stored.basis stored.newest more is.1.3
sized child (Running known) kind (Hello basis) more is = absurd is
sized child (Running known) kind (Offer form demand) more is = offer_sized child (Running known) kind form demand more is
sized child (Running known) kind (device_frame.Kind named) more is = refl
sized child (Running known) kind Leave more is = refl
sized child (Running known) kind (Parent (parents.TheVariants.Price own number index step basis)) more is = refl
sized child (Running known) kind (Parent (parents.TheVariants.Old own kept)) more is = refl
sized child (Running known) kind (Resume stored) more is = absurd is.0

-- what holds of each size holds of those after Hello
size_open : (P : ℕ → Type 0) (steps kind : ℕ) → P 1 → P 5 → P 7 → P 22 → P 23 → P (1 + 4 * steps) → IfSome (points_size kind) P →
    IfSome (device_size_open steps kind) P
size_open P steps kind one state seven named price offer points =
    let Q : Option ℕ → Type 0 = λ o. IfSome o P in
    either Q (kind == offer_kind) _ _ offer (either Q (kind == leave_kind) _ _ one
    (either Q (kind == price_kind) _ _ price (either Q (kind == old_kind) _ _ seven
    (either Q (kind == kind_kind) _ _ named (either Q (kind == state_kind) _ _ state points)))))

size_of : (P : ℕ → Type 0) (stage : Stage) (kind : ℕ) → P 1 → P 5 → P 7 → P 11 → P 19 → P 22 → P 23 → IfSome (points_size kind) P →
    ((steps : ℕ) → bid_place stage ≡ Some steps → P (1 + 4 * steps) × P (19 + 4 * steps)) →
    IfSome (device_size stage kind) P
size_of P Start kind one state seven hello gone named price points each =
    let Q : Option ℕ → Type 0 = λ o. IfSome o P in either Q (kind == hello_kind) _ _ hello tt
size_of P (Opened known) kind one state seven hello gone named price points each =
    let Q : Option ℕ → Type 0 = λ o. IfSome o P in
    either Q (kind == resume_kind) _ _ (each known.steps refl).1 (either Q (kind == resume_gone_kind) _ _ gone
    (size_open P known.steps kind one state seven named price (each known.steps refl).0 points))
size_of P (Running known) kind one state seven hello gone named price points each =
    size_open P known.steps kind one state seven named price (each known.steps refl).0 points

some_bytes : (place : NodePlace) (kind size : ℕ) → device_size place.stage kind ≡ Some size → 1 ≤ size
some_bytes place kind size is =
    let P : ℕ → Type 0 = λ n. 1 ≤ n in
    let points : IfSome (points_size kind) P = if_some P (points_size kind) (λ n e. omega (arith, (points_sized kind n e).size_is)) in
    of_some P _ size (size_of P place.stage kind (omega arith) (omega arith) (omega arith) (omega arith) (omega arith) (omega arith) (omega arith) points
    (λ steps e. (omega arith, omega arith))) is

few_bytes : (place : NodePlace) (kind size : ℕ) → IsNodePlace place → device_size place.stage kind ≡ Some size → size ≤ device_frame_limit
few_bytes place kind size is_place is =
    let P : ℕ → Type 0 = λ n. n ≤ device_frame_limit in
    let points : IfSome (points_size kind) P =
    if_some P (points_size kind) (λ n e. omega (arith, (points_sized kind n e).size_is, (points_sized kind n e).few)) in
    of_some P _ size (size_of P place.stage kind (omega arith) (omega arith) (omega arith) (omega arith) (omega arith) (omega arith) (omega arith) points
    (λ steps e. let most = (steps_of place.stage steps is_place.0 e).most in (omega (arith, most), omega (arith, most)))) is

-- a kind that is accepted has parameters within their limits
valid_if_some : (kind : Option Kind) → IsValidKind kind → IfSome kind (λ k. IsTrue (is_valid k))
valid_if_some None is = tt
valid_if_some (Some kind) is = is

leads_on : (place : NodePlace) (frame : DeviceFrame) → IsNodePlace place → MayStand device_framing place frame →
    IsNodePlace (device_place_after place frame)
leads_on place (Hello basis) is stands = (
  bid_framing_sound.leads_on (bid_place place.stage) (bids.TheVariants.Hello basis) is.0 (record { formed = stands.formed; accepted = stands.accepted }),
  is.1,
)
leads_on place (Offer form demand) is stands = (behind_is place.stage is.0, is.1)
leads_on place (device_frame.Kind named) is stands = (behind_is place.stage is.0, valid_if_some (kind_of_named named) stands.accepted)
leads_on place Leave is stands = (behind_is place.stage is.0, is.1)
leads_on place (Parent frame) is stands = (behind_is place.stage is.0, is.1)
leads_on place (Resume stored) is stands = (behind_is place.stage is.0, is.1)

-- the frames of the stream to a device's agent are a framing
pub device_framing_sound : IsFraming device_framing
device_framing_sound = record {
  sized = λ place. sized place.child place.stage place.kind;
  some_bytes = some_bytes;
  few_bytes = few_bytes;
  one_frame = one_frame;
  not_empty = omega arith;
  leads_on = leads_on;
}
