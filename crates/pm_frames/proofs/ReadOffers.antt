-- What the readers of a control's frames have read.
use Rattle.std.proofs.Common.{◌≡◌, ◌∙◌, sym, ap, subst, refl, ℕ, ℤ, Bool, true, false, List, [], ◌∷◌}
use Rattle.std.proofs.Common.{length, Option, Some, None, Ok, arith, FitsSigned, ◌+◌, ◌++◌, length-append}
use Rattle.std.proofs.lemmas.List.{append-nil}
use Rattle.std.specs.Prelude.{◌-◌, ◌==◌, nat_lt, if◌then◌else◌, Result, Err}
use Rattle.std.specs.Int.{w32, w64, cast_signed, cast_unsigned}
use Rattle.std.specs.List.{AllByRecursion}
use Rattle.pm_basis.specs.Prices.{BasisValue}
use Rattle.pm_bid.specs.Checks.{checked_bid}
use Rattle.pm_points.specs.Points.{Point, array_of_points, max_points}
use Rattle.pm_points.specs.Checks.{checked_points, first_price_fall, first_rise, first_large_demand, first_outside}
use Rattle.pm_points.specs.declared.fault.PointFault.{PointFault}
use Rattle.pm_strategy.specs.Strategies.{bid_of}
use Rattle.pm_device.specs.Kinds.{state_fits}
use Rattle.pm_device.specs.declared.kind.Kind.{Kind}
use Rattle.pm_device.specs.declared.state.DeviceState.{DeviceState}
use Rattle.pm_wire.specs.Frames.{signed_bytes}
use Rattle.pm_wire.specs.Spelling.{IsRefusedFrame, IsFrameAt}
use Rattle.pm_wire.proofs.OneField.{wide}
use Rattle.pm_frames.specs.Kinds.{offer_kind, state_kind, kind_kind, points_kind}
use Rattle.pm_frames.specs.NamedKinds.{kind_bytes, kind_of_named, IsKindFormed, IsValidKind}
use Rattle.pm_frames.specs.Offers.{IsRefusedOffer, IsOfferOf}
use Rattle.pm_frames.specs.OfferForms.{point_list_bytes, points_bytes, points_demand, state_demand, points_size, PointFits}
use Rattle.pm_frames.specs.OfferForms.{ArePointsOver, IsStateOf, IsPointBidOf}
use Rattle.pm_frames.specs.Places.{basis_at, steps_at, IsOpen}
use Rattle.pm_frames.specs.DeviceFrames.{device_framing}
use Rattle.pm_frames.specs.declared.named_kind.NamedKind.{NamedKind}
use Rattle.pm_frames.specs.declared.place.NodePlace.{NodePlace}
use Rattle.pm_frames.specs.declared.form.OfferForm.TheVariants as forms
use Rattle.pm_frames.specs.declared.device.DeviceFrame.TheVariants as devices
use Rattle.pm_frames.proofs.OneOffer.{points_sized}

-- ---- an array

-- an Offer whose demands are no bid is refused
pub offer_refused : (place : NodePlace) (body : List ℕ) → IsOpen place.stage → IsRefusedOffer (steps_at place.stage) body →
    IsRefusedFrame device_framing place (offer_kind ∷ body)
offer_refused place body is_open at = record {
  frame = devices.Offer forms.Array at.demand;
  formed = (is_open, (at.are.count, at.are.fit));
  refused = λ accepted. at.refused accepted.1;
  spelled = ap (λ l. offer_kind ∷ l) at.are.spelled;
}

-- and another one is read
pub offer_read : (place : NodePlace) (body : List ℕ) (demand : List ℤ) → IsOpen place.stage → IsOfferOf (steps_at place.stage) body demand →
    IsFrameAt device_framing place (offer_kind ∷ body) (devices.Offer forms.Array demand)
offer_read place body demand is_open offer = record {
  stands = record { formed = (is_open, (offer.are.count, offer.are.fit)); accepted = (tt, offer.accepted) };
  spelled = ap (λ l. offer_kind ∷ l) offer.are.spelled;
}

-- ---- points

-- what some bytes say of points
pub record ArePoints (kind : ℕ) (body : List ℕ) (points : List Point) : Type 0 where
  -- the kind is one of points
  pub size : points_size kind ≡ Some (length body + 1)
  -- there are as many as the kind tells
  pub count : length points ≡ kind - points_kind
  -- the bytes are theirs
  pub spelled : body ≡ point_list_bytes points
  -- each number has four of them
  pub fit : AllByRecursion PointFits points

points_spelled : (kind : ℕ) (body : List ℕ) (points : List Point) → ArePoints kind body points → kind ∷ body ≡ points_bytes points
points_spelled kind body points are =
    let count = points_sized kind (length body + 1) are.size in
    let first : kind ≡ points_kind + length points = omega (arith, count.kind_is, are.count) in
    ap (λ n. n ∷ body) first ∙ ap (λ l. (points_kind + length points) ∷ l) are.spelled

-- points that are no point bid are refused
pub points_refused : (place : NodePlace) (kind : ℕ) (body : List ℕ) (points : List Point) (basis : BasisValue) → IsOpen place.stage →
    basis_at place.stage ≡ Some basis → ArePoints kind body points → ¬ (checked_points basis points ≡ Ok points) →
    IsRefusedFrame device_framing place (kind ∷ body)
points_refused place kind body points basis is_open known are refused =
    let count = points_sized kind (length body + 1) are.size in
    record {
      frame = devices.Offer (forms.Points points) (points_demand (basis_at place.stage) points);
      formed = (is_open, (omega (arith, count.some, are.count), omega (arith, count.few, are.count), are.fit, refl));
      refused = λ accepted. refused (subst (λ o. ArePointsOver o points) known accepted.0);
      spelled = points_spelled kind body points are;
    }

-- and others are read
pub points_read : (place : NodePlace) (kind : ℕ) (body : List ℕ) (points : List Point) (basis : BasisValue) (demand : List ℤ) → IsOpen place.stage →
    basis_at place.stage ≡ Some basis → ArePoints kind body points → checked_points basis points ≡ Ok points →
    demand ≡ array_of_points points basis →
    checked_bid (length demand) demand ≡ Ok demand → IsFrameAt device_framing place (kind ∷ body) (devices.Offer (forms.Points points) demand)
points_read place kind body points basis demand is_open known are accepted is bid =
    let count = points_sized kind (length body + 1) are.size in
    record {
      stands = record {
        formed = (
          is_open,
          (
            omega (arith, count.some, are.count),
            omega (arith, count.few, are.count),
            are.fit,
            is ∙ ap (λ o. points_demand o points) (sym known),
          ),
        );
        accepted = (subst (λ o. ArePointsOver o points) (sym known) accepted, bid);
      };
      spelled = points_spelled kind body points are;
    }

passes_on : (test : Bool) (fault : PointFault) (rest : Result (List Point) PointFault) (bid : List Point) →
    (if test then Err fault else rest) ≡ Ok bid → rest ≡ Ok bid
passes_on true fault rest bid h = absurd (cc h)
passes_on false fault rest bid h = h

-- a point bid has the points that it was made of
pub points_kept : (basis : BasisValue) (points bid : List Point) → checked_points basis points ≡ Ok bid → bid ≡ points
points_kept basis points bid h =
    let some = passes_on (length points == 0) _ _ bid h in
    let few = passes_on (nat_lt max_points (length points)) _ _ bid some in
    let runs = passes_on (nat_lt (first_price_fall points) (length points)) _ _ bid few in
    let falls = passes_on (nat_lt (first_rise points) (length points)) _ _ bid runs in
    let small = passes_on (nat_lt (first_large_demand points) (length points)) _ _ bid falls in
    let inside = passes_on (nat_lt (first_outside basis points) (length points)) _ _ bid small in
    cc inside

-- the points are no point bid where none was made
pub no_point_bid : (basis : BasisValue) (points : List Point) (bid : Option (List Point)) → bid ≡ None → IsPointBidOf basis points bid →
    ¬ (checked_points basis points ≡ Ok points)
no_point_bid basis points bid none is = subst (λ o. IsPointBidOf basis points o) none is

-- and they are one where one was made
pub some_point_bid : (basis : BasisValue) (points bid : List Point) (made : Option (List Point)) → made ≡ Some bid → IsPointBidOf basis points made →
    (bid ≡ points) × (checked_points basis points ≡ Ok points)
some_point_bid basis points bid made some is = subst (λ o. IsPointBidOf basis points o) some is

-- points of which a point bid was made are read
pub bid_read : (place : NodePlace) (kind : ℕ) (body : List ℕ) (points bid : List Point) (basis : BasisValue) (made : Option (List Point))
    (demand : List ℤ) → IsOpen place.stage → basis_at place.stage ≡ Some basis → ArePoints kind body points → made ≡ Some bid →
    IsPointBidOf basis points made → demand ≡ array_of_points bid basis → checked_bid (length demand) demand ≡ Ok demand →
    IsFrameAt device_framing place (kind ∷ body) (devices.Offer (forms.Points bid) demand)
bid_read place kind body points bid basis made demand is_open known are some is its bids =
    let both = some_point_bid basis points bid made some is in
    subst (λ l. IsFrameAt device_framing place (kind ∷ body) (devices.Offer (forms.Points l) demand)) (sym both.0)
    (points_read place kind body points basis demand is_open known are both.1 (its ∙ ap (λ l. array_of_points l basis) both.0) bids)

-- ---- a state

-- there is no state where no kind was named
pub no_kind : (kind : Option Kind) (state : DeviceState) → kind ≡ None → ¬ IsStateOf kind state
no_kind kind state none accepted = subst (λ o. IsStateOf o state) none accepted

-- nor is one that does not fit
pub unfit : (kind : Option Kind) (its : Kind) (state : DeviceState) (test : Bool) → kind ≡ Some its → test ≡ state_fits its state.0 →
    test ≡ false → ¬ IsStateOf kind state
unfit kind its state test some is fails accepted =
    let passes : state_fits its state.0 ≡ true = subst (λ o. IsStateOf o state) some accepted in
    cc (passes, is, fails)

-- one that fits is
pub fit_state : (kind : Option Kind) (its : Kind) (state : DeviceState) (test : Bool) → kind ≡ Some its → test ≡ state_fits its state.0 →
    test ≡ true → IsStateOf kind state
fit_state kind its state test some is passes = subst (λ o. IsStateOf o state) (sym some) (sym is ∙ passes)

-- the bid of the kind is the demand of the state
pub bid_of_kind : (kind : Option Kind) (its : Kind) (state : DeviceState) (steps many : ℕ) (demand : List ℤ) → kind ≡ Some its → many ≡ steps →
    demand ≡ bid_of its state.0 [] many → demand ≡ state_demand kind state steps
bid_of_kind kind its state steps many demand some same is =
    is ∙ ap (λ (n : ℕ). bid_of its state.0 [] n) same ∙ ap (λ o. state_demand o state steps) (sym some)

-- nothing is behind the four bytes of a number
whole : (body rest number : List ℕ) → length body ≡ 4 → length number ≡ 4 → body ≡ number ++ rest → body ≡ number
whole body [] number many four spelled = spelled ∙ append-nil number
whole body (n ∷ rest) number many four spelled = absurd (omega (arith, many, four, ap length spelled, length-append number (n ∷ rest)))

-- a state that no device of the kind has, or of no kind, is refused
pub state_refused : (place : NodePlace) (body rest : List ℕ) (state : DeviceState) → IsOpen place.stage → length body ≡ 4 →
    FitsSigned w32 state.0 → body ≡ signed_bytes state.0 ++ rest → ¬ IsStateOf place.kind state →
    IsRefusedFrame device_framing place (state_kind ∷ body)
state_refused place body rest state is_open many fits spelled refused = record {
  frame = devices.Offer (forms.State state) (state_demand place.kind state (steps_at place.stage));
  formed = (is_open, (fits, refl));
  refused = λ accepted. refused accepted.0;
  spelled = ap (λ l. state_kind ∷ l) (whole body rest (signed_bytes state.0) many refl spelled);
}

-- and another one is read
pub state_read : (place : NodePlace) (body rest : List ℕ) (state : DeviceState) (demand : List ℤ) → IsOpen place.stage → length body ≡ 4 →
    FitsSigned w32 state.0 → body ≡ signed_bytes state.0 ++ rest → IsStateOf place.kind state →
    demand ≡ state_demand place.kind state (steps_at place.stage) → checked_bid (length demand) demand ≡ Ok demand →
    IsFrameAt device_framing place (state_kind ∷ body) (devices.Offer (forms.State state) demand)
state_read place body rest state demand is_open many fits spelled accepted is bid = record {
  stands = record { formed = (is_open, (fits, is)); accepted = (accepted, bid) };
  spelled = ap (λ l. state_kind ∷ l) (whole body rest (signed_bytes state.0) many refl spelled);
}

-- the state of a number that was read
abbrev pub state_of_number : ℤ → DeviceState
state_of_number number = record { 0 = cast_signed w64 (cast_unsigned w64 number) }

-- a number that is no state of the kind is refused
pub number_refused : (place : NodePlace) (body rest : List ℕ) (number : ℤ) → IsOpen place.stage → length body ≡ 4 → FitsSigned w32 number →
    body ≡ signed_bytes number ++ rest → ¬ IsStateOf place.kind (state_of_number number) → IsRefusedFrame device_framing place (state_kind ∷ body)
number_refused place body rest number is_open many fits spelled refused =
    state_refused place body rest (state_of_number number) is_open many (subst (λ (z : ℤ). FitsSigned w32 z) (sym (wide number fits)) fits)
    (spelled ∙ ap (λ (z : ℤ). signed_bytes z ++ rest) (sym (wide number fits))) refused

-- and another one is read
pub number_read : (place : NodePlace) (body rest : List ℕ) (number : ℤ) (demand : List ℤ) → IsOpen place.stage → length body ≡ 4 →
    FitsSigned w32 number → body ≡ signed_bytes number ++ rest → IsStateOf place.kind (state_of_number number) →
    demand ≡ state_demand place.kind (state_of_number number) (steps_at place.stage) → checked_bid (length demand) demand ≡ Ok demand →
    IsFrameAt device_framing place (state_kind ∷ body) (devices.Offer (forms.State (state_of_number number)) demand)
number_read place body rest number demand is_open many fits spelled accepted is bid =
    state_read place body rest (state_of_number number) demand is_open many (subst (λ (z : ℤ). FitsSigned w32 z) (sym (wide number fits)) fits)
    (spelled ∙ ap (λ (z : ℤ). signed_bytes z ++ rest) (sym (wide number fits))) accepted is bid

-- ---- a kind

-- a kind whose parameters are beyond their limits, or none, is refused
pub kind_refused : (place : NodePlace) (body : List ℕ) (named : NamedKind) → IsOpen place.stage → IsKindFormed named →
    kind_kind ∷ body ≡ kind_bytes named → ¬ IsValidKind (kind_of_named named) → IsRefusedFrame device_framing place (kind_kind ∷ body)
kind_refused place body named is_open formed spelled refused = record {
  frame = devices.Kind named;
  formed = (is_open, formed);
  refused = refused;
  spelled = spelled;
}
