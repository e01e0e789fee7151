-- What a control offers, and the kind that it names: the bytes determine it, whatever follows.
use Rattle.std.proofs.Common.{◌≡◌, ◌≢◌, ◌∙◌, sym, ap, refl, ℕ, ◌+◌, ◌*◌, ◌<◌, ◌≤◌, ℤ, Bool, true, false}
use Rattle.std.proofs.Common.{List, [], ◌∷◌, ◌++◌, length}
use Rattle.std.proofs.Common.{get_or, Option, Some, None, append_assoc, length-append, arith, FitsSigned}
use Rattle.std.specs.Prelude.{nat_lt, ◌-◌, if◌then◌else◌}
use Rattle.std.specs.Int.{w32, w64, cast_signed, cast_unsigned}
use Rattle.std.specs.List.{AllByRecursion}
use Rattle.std.proofs.lemmas.Grind.{flat_map-append}
use Rattle.std.proofs.lemmas.List.{append-nil}
use Rattle.std.proofs.lemmas.Bool.Decides.{nat_tests}
use Rattle.pm_basis.specs.Prices.{BasisValue}
use Rattle.pm_points.specs.Points.{Point, price_of_point, demand_of_point, max_points}
use Rattle.pm_device.specs.declared.state.DeviceState.{DeviceState}
use Rattle.pm_wire.specs.Frames.{signed_bytes}
use Rattle.pm_wire.proofs.OneField.{signed_same, demands_same, wide}
use Rattle.pm_wire.proofs.OneFrame.{parts_same}
use Rattle.pm_frames.specs.Kinds.{points_kind, kind_kind}
use Rattle.pm_frames.specs.NamedKinds.{kind_bytes, IsKindFormed}
use Rattle.pm_frames.specs.OfferForms.{point_bytes, point_list_bytes, offer_bytes, points_size, PointFits, points_demand, state_demand}
use Rattle.pm_frames.specs.OfferForms.{IsOfferFormed}
use Rattle.pm_frames.specs.Places.{basis_at, steps_at}
use Rattle.pm_frames.specs.Stored.{newest_bytes}
use Rattle.pm_frames.specs.declared.named_kind.NamedKind.{NamedKind}
use Rattle.pm_frames.specs.declared.place.NodePlace.{NodePlace}
use Rattle.pm_frames.specs.declared.form.OfferForm.{OfferForm}
use Rattle.pm_frames.specs.declared.form.OfferForm.TheVariants.{Array, Points, State}
use Rattle.pm_frames.specs.declared.device.DeviceFrame.TheVariants.{Offer}
use Rattle.pm_frames.proofs.FirstBytes.{first_same}

-- ---- points

-- the points of two lists of as many
points_same : (a b : List Point) (x y : List ℕ) → length a ≡ length b → AllByRecursion PointFits a → AllByRecursion PointFits b →
    point_list_bytes a ++ x ≡ point_list_bytes b ++ y → (a ≡ b) × (x ≡ y)
points_same [] [] x y many fit fit' e = (refl, e)
points_same [] (q ∷ b) x y many fit fit' e = absurd (omega (arith, many))
points_same (p ∷ a) [] x y many fit fit' e = absurd (omega (arith, many))
points_same (p ∷ a) (q ∷ b) x y many fit fit' e =
    let plain : (r : Point) (c : List Point) (z : List ℕ) → point_list_bytes (r ∷ c) ++ z
    ≡ signed_bytes (price_of_point r) ++ (signed_bytes (demand_of_point r) ++ (point_list_bytes c ++ z)) = λ r c z. simp append_assoc in
    let prices = signed_same (price_of_point p) (price_of_point q) (signed_bytes (demand_of_point p) ++ (point_list_bytes a ++ x))
    (signed_bytes (demand_of_point q) ++ (point_list_bytes b ++ y)) fit.0.0 fit'.0.0 (sym (plain p a x) ∙ e ∙ plain q b y) in
    let demands = signed_same (demand_of_point p) (demand_of_point q) (point_list_bytes a ++ x) (point_list_bytes b ++ y) fit.0.1 fit'.0.1 prices.1 in
    let others = points_same a b x y (omega (arith, many)) fit.1 fit'.1 demands.1 in (
      ap (λ (z : ℤ). (z, demand_of_point p) ∷ a) prices.0 ∙ ap (λ (z : ℤ). (price_of_point q, z) ∷ a) demands.0
          ∙ ap (λ (l : List Point). q ∷ l) others.0,
      others.1,
    )

-- eight bytes for each point
pub length-point_list_bytes : (points : List Point) → length (point_list_bytes points) ≡ 8 * length points
length-point_list_bytes [] = refl
length-point_list_bytes (p ∷ points) = omega (
  arith,
  length-append (point_bytes p) (point_list_bytes points),
  length-point_list_bytes points,
)

-- one more point
pub points_more : (bytes rest middle after : List ℕ) (points : List Point) (price demand : ℤ) → bytes ≡ point_list_bytes points ++ rest →
    rest ≡ signed_bytes price ++ middle → middle ≡ signed_bytes demand ++ after →
    bytes ≡ point_list_bytes (points ++ (price, demand) ∷ []) ++ after
points_more bytes rest middle after points price demand e e' e'' =
    let last : List ℕ = signed_bytes price ++ signed_bytes demand in
    let one : point_list_bytes (points ++ (price, demand) ∷ []) ≡ point_list_bytes points ++ last =
    flat_map-append point_bytes points ((price, demand) ∷ []) in
    let both : rest ≡ last ++ after =
    e' ∙ ap (λ l. signed_bytes price ++ l) e'' ∙ sym (append_assoc (signed_bytes price) (signed_bytes demand) after) in
    e ∙ ap (λ l. point_list_bytes points ++ l) both ∙ sym (append_assoc (point_list_bytes points) last after) ∙ ap (λ l. l ++ after) (sym one)

-- where the numbers of points have 32 bits and those of one more have, all of them have, with this one at the end
pub fit_more : (points : List Point) (point : Point) → AllByRecursion PointFits points → PointFits point →
    AllByRecursion PointFits (points ++ point ∷ [])
fit_more [] point fit fits = (fits, tt)
fit_more (p ∷ points) point fit fits = (fit.0, fit_more points point fit.1 fits)

-- a point that was pushed has the numbers that were read
pub pushed_wide : (before items : List Point) (price demand : ℤ) → FitsSigned w32 price → FitsSigned w32 demand →
    items ≡ before ++ (cast_signed w64 (cast_unsigned w64 price), cast_signed w64 (cast_unsigned w64 demand)) ∷ [] →
    items ≡ before ++ (price, demand) ∷ []
pushed_wide before items price demand fits fits' is =
    is ∙ ap (λ (z : ℤ). before ++ (z, cast_signed w64 (cast_unsigned w64 demand)) ∷ []) (wide price fits)
    ∙ ap (λ (z : ℤ). before ++ (price, z) ∷ []) (wide demand fits')

-- a kind of points tells how many there are, and how many bytes they have
pub record IsCount (kind size count : ℕ) : Type 0 where
  -- the kind has the count
  pub kind_is : kind ≡ points_kind + count
  -- there is a point
  pub some : 1 ≤ count
  -- and no more than a bid has
  pub few : count ≤ max_points
  -- each point has eight bytes
  pub size_is : size ≡ 1 + 8 * count

counted : (kind size : ℕ) (above past : Bool) → nat_lt points_kind kind ≡ above → nat_lt (points_kind + max_points) kind ≡ past →
    (if above then (if past then None else Some (1 + 8 * (kind - points_kind))) else None) ≡ Some size →
    IsCount kind size (kind - points_kind)
counted kind size true false above within is =
    let low : points_kind < kind = grind (arith, nat_tests) in
    let high : kind ≤ points_kind + max_points = grind (arith, nat_tests) in
    let same : 1 + 8 * (kind - points_kind) ≡ size = cc is in
    record { kind_is = omega (arith, low); some = omega (arith, low); few = omega (arith, high); size_is = sym same }
counted kind size true true above past is = absurd (cc is)
counted kind size false past below within is = absurd (cc is)

-- the count is what the kind is above its first
pub points_sized : (kind size : ℕ) → points_size kind ≡ Some size → IsCount kind size (kind - points_kind)
points_sized kind size is = counted kind size (nat_lt points_kind kind) (nat_lt (points_kind + max_points) kind) refl refl is

-- ---- an offer

state_same : (a b : DeviceState) (x y : List ℕ) → FitsSigned w32 a.0 → FitsSigned w32 b.0 → signed_bytes a.0 ++ x ≡ signed_bytes b.0 ++ y →
    (a ≡ b) × (x ≡ y)
state_same a b x y fits fits' e =
    let same = signed_same a.0 b.0 x y fits fits' e in
    let states : (s t : DeviceState) → s.0 ≡ t.0 → s ≡ t = λ s t is. ap (λ (z : ℤ). record { 0 = z }) is in
    (states a b same.0, same.1)

-- two offers at one place with the same bytes in front are one
pub offer_same : (place : NodePlace) (f g : OfferForm) (c d : List ℤ) (x y : List ℕ) → IsOfferFormed place f c → IsOfferFormed place g d →
    offer_bytes f c ++ x ≡ offer_bytes g d ++ y → (Offer f c ≡ Offer g d) × (x ≡ y)
offer_same place Array Array c d x y is is' e =
    let same = demands_same c d x y (is.0 ∙ sym is'.0) is.1 is'.1 (parts_same _ _ _ _ e).1 in
    (ap (λ l. Offer Array l) same.0, same.1)
offer_same place Array (Points q) c d x y is is' e = absurd (omega (arith, is'.0, first_same _ _ e))
offer_same place Array (State t) c d x y is is' e = absurd (omega (arith, first_same _ _ e))
offer_same place (Points p) Array c d x y is is' e = absurd (omega (arith, is.0, first_same _ _ e))
offer_same place (Points p) (Points q) c d x y is is' e =
    let parts = parts_same _ _ _ _ e in
    let same = points_same p q x y (omega (arith, parts.0)) is.2 is'.2 parts.1 in
    let demands : c ≡ d = is.3 ∙ ap (points_demand (basis_at place.stage)) same.0 ∙ sym is'.3 in
    (ap (λ l. Offer (Points l) c) same.0 ∙ ap (λ l. Offer (Points q) l) demands, same.1)
offer_same place (Points p) (State t) c d x y is is' e = absurd (omega (arith, is.0, is.1, first_same _ _ e))
offer_same place (State s) Array c d x y is is' e = absurd (omega (arith, first_same _ _ e))
offer_same place (State s) (Points q) c d x y is is' e = absurd (omega (arith, is'.0, is'.1, first_same _ _ e))
offer_same place (State s) (State t) c d x y is is' e =
    let same = state_same s t x y is.0 is'.0 (parts_same _ _ _ _ e).1 in
    let demands : c ≡ d = is.1 ∙ ap (λ (z : DeviceState). state_demand place.kind z (steps_at place.stage)) same.0 ∙ sym is'.1 in
    (ap (λ (z : DeviceState). Offer (State z) c) same.0 ∙ ap (λ l. Offer (State t) l) demands, same.1)

-- the kind of an offer is that of Offer, or is above those of all other frames
pub no_offer : (place : NodePlace) (form : OfferForm) (demand : List ℤ) (x : List ℕ) (kind : ℕ) → IsOfferFormed place form demand →
    kind ≢ 13 → kind ≤ 29 → get_or (offer_bytes form demand ++ x) 0 0 ≢ kind
no_offer place Array demand x kind is other low e = other (sym e)
no_offer place (Points points) demand x kind is other low e = omega (arith, is.0, low, e)
no_offer place (State state) demand x kind is other low e = omega (arith, low, e)

-- ---- a kind

-- two kinds with the same bytes in front are one
pub kind_same : (a b : NamedKind) (x y : List ℕ) → IsKindFormed a → IsKindFormed b → kind_bytes a ++ x ≡ kind_bytes b ++ y → (a ≡ b) × (x ≡ y)
kind_same a b x y f g e =
    let plain : (n : NamedKind) (z : List ℕ) → kind_bytes n ++ z
    ≡ 29 ∷ (n.number ∷ (signed_bytes n.first ++ (signed_bytes n.second
    ++ (signed_bytes n.third ++ (signed_bytes n.fourth ++ (signed_bytes n.fifth ++ z)))))) = λ n z. simp append_assoc in
    let behind = (parts_same _ _ _ _ (sym (plain a x) ∙ e ∙ plain b y)).1 in
    let number = parts_same _ _ _ _ behind in
    let first = signed_same a.first b.first (signed_bytes a.second ++ (signed_bytes a.third ++ (signed_bytes a.fourth ++ (signed_bytes a.fifth ++ x))))
    (signed_bytes b.second ++ (signed_bytes b.third ++ (signed_bytes b.fourth ++ (signed_bytes b.fifth ++ y)))) f.1 g.1 number.1 in
    let second = signed_same a.second b.second (signed_bytes a.third ++ (signed_bytes a.fourth ++ (signed_bytes a.fifth ++ x)))
    (signed_bytes b.third ++ (signed_bytes b.fourth ++ (signed_bytes b.fifth ++ y))) f.2 g.2 first.1 in
    let third = signed_same a.third b.third (signed_bytes a.fourth ++ (signed_bytes a.fifth ++ x)) (signed_bytes b.fourth ++ (signed_bytes b.fifth ++ y))
    f.3 g.3 second.1 in
    let fourth = signed_same a.fourth b.fourth (signed_bytes a.fifth ++ x) (signed_bytes b.fifth ++ y) f.4 g.4 third.1 in
    let fifth = signed_same a.fifth b.fifth x y f.5 g.5 fourth.1 in
    let named : ℕ → ℤ → ℤ → ℤ → ℤ → ℤ → NamedKind =
    λ n p q r s t. record { number = n; first = p; second = q; third = r; fourth = s; fifth = t } in (
      ap (λ (v : ℕ). named v a.first a.second a.third a.fourth a.fifth) number.0
          ∙ ap (λ (v : ℤ). named b.number v a.second a.third a.fourth a.fifth) first.0
          ∙ ap (λ (v : ℤ). named b.number b.first v a.third a.fourth a.fifth) second.0
          ∙ ap (λ (v : ℤ). named b.number b.first b.second v a.fourth a.fifth) third.0
          ∙ ap (λ (v : ℤ). named b.number b.first b.second b.third v a.fifth) fourth.0
          ∙ ap (λ (v : ℤ). named b.number b.first b.second b.third b.fourth v) fifth.0,
      fifth.1,
    )

nothing_left : (bytes number rest : List ℕ) → bytes ≡ number ++ rest → length rest ≡ 0 → bytes ≡ number
nothing_left bytes number [] is none = is ∙ append-nil number
nothing_left bytes number (n ∷ rest) is none = absurd (omega (arith, none))

-- the bytes behind the kind, read one number after the other, are those of the kind that they name
pub kind_spelled : (body a b c d e rest : List ℕ) (named : NamedKind) → 22 ≡ length body + 1 → body ≡ named.number ∷ a →
    a ≡ signed_bytes named.first ++ b → b ≡ signed_bytes named.second ++ c → c ≡ signed_bytes named.third ++ d →
    d ≡ signed_bytes named.fourth ++ e → e ≡ signed_bytes named.fifth ++ rest → kind_kind ∷ body ≡ kind_bytes named
kind_spelled body a b c d e rest named many number first second third fourth fifth =
    let none : length rest ≡ 0 = omega (
      arith,
      many,
      ap length number,
      ap length first,
      length-append (signed_bytes named.first) b,
      ap length second,
      length-append (signed_bytes named.second) c,
      ap length third,
      length-append (signed_bytes named.third) d,
      ap length fourth,
      length-append (signed_bytes named.fourth) e,
      ap length fifth,
      length-append (signed_bytes named.fifth) rest,
    ) in
    let last : e ≡ signed_bytes named.fifth = nothing_left e (signed_bytes named.fifth) rest fifth none in
    let four : d ≡ signed_bytes named.fourth ++ signed_bytes named.fifth = fourth ∙ ap (λ l. signed_bytes named.fourth ++ l) last in
    let three : c ≡ signed_bytes named.third ++ (signed_bytes named.fourth ++ signed_bytes named.fifth) =
    third ∙ ap (λ l. signed_bytes named.third ++ l) four in
    let two : b ≡ signed_bytes named.second ++ (signed_bytes named.third ++ (signed_bytes named.fourth ++ signed_bytes named.fifth)) =
    second ∙ ap (λ l. signed_bytes named.second ++ l) three in
    ap (λ l. kind_kind ∷ l) (number ∙ ap (λ l. named.number ∷ l) (first ∙ ap (λ l. signed_bytes named.first ++ l) two))

-- so they are where the numbers that were read are taken into the kind
pub kind_read_spelled : (body a b c d e rest : List ℕ) (number : ℕ) (p q r s t : ℤ) → 22 ≡ length body + 1 → FitsSigned w32 p →
    FitsSigned w32 q → FitsSigned w32 r → FitsSigned w32 s → FitsSigned w32 t → body ≡ number ∷ a →
    a ≡ signed_bytes p ++ b → b ≡ signed_bytes q ++ c →
    c ≡ signed_bytes r ++ d → d ≡ signed_bytes s ++ e → e ≡ signed_bytes t ++ rest →
    kind_kind ∷ body ≡ kind_bytes (record {
      number = number;
      first = cast_signed w64 (cast_unsigned w64 p);
      second = cast_signed w64 (cast_unsigned w64 q);
      third = cast_signed w64 (cast_unsigned w64 r);
      fourth = cast_signed w64 (cast_unsigned w64 s);
      fifth = cast_signed w64 (cast_unsigned w64 t);
    })
kind_read_spelled body a b c d e rest number p q r s t many fp fq fr fs ft first second third fourth fifth sixth =
    let more : (z : ℤ) (l : List ℕ) → FitsSigned w32 z → signed_bytes z ++ l ≡ signed_bytes (cast_signed w64 (cast_unsigned w64 z)) ++ l =
    λ z l fits. ap (λ (n : ℤ). signed_bytes n ++ l) (sym (wide z fits)) in
    let named : NamedKind = record {
      number = number;
      first = cast_signed w64 (cast_unsigned w64 p);
      second = cast_signed w64 (cast_unsigned w64 q);
      third = cast_signed w64 (cast_unsigned w64 r);
      fourth = cast_signed w64 (cast_unsigned w64 s);
      fifth = cast_signed w64 (cast_unsigned w64 t);
    } in
    kind_spelled body a b c d e rest named many first (second ∙ more p b fp) (third ∙ more q c fq) (fourth ∙ more r d fr) (fifth ∙ more s e fs)
    (sixth ∙ more t rest ft)

-- ---- what is kept over a restart

-- its kind is at most that of ResumeGone
pub newest_most : (number index : ℕ) (basis : BasisValue) (newest : Option (List ℤ)) (x : List ℕ) →
    get_or (newest_bytes number index basis newest ++ x) 0 0 ≤ 26
newest_most number index basis (Some demand) x = omega arith
newest_most number index basis None x = omega arith
