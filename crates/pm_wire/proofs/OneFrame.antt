-- The frames of a stream of bids: the first byte of one tells how many it has, and its bytes determine it, whatever follows.
use Rattle.std.proofs.Common.{◌≡◌, ◌∙◌, sym, ap, refl, ℕ, ◌+◌, ◌*◌, ◌≤◌, ℤ, pos, List, ◌∷◌, ◌++◌, length, Option, None}
use Rattle.std.proofs.Common.{Some, Bool, true, false, arith}
use Rattle.std.specs.Prelude.{◌==◌, if◌then◌else◌}
use Rattle.std.specs.Int.{w16, w32, to_be_bytes}
use Rattle.pm_basis.specs.Prices.{BasisValue}
use Rattle.pm_basis.proofs.SoundBases.{checked_is_basis}
use Rattle.pm_wire.specs.declared.frame.Frame.{Frame}
use Rattle.pm_wire.specs.declared.frame.Frame.TheVariants.{Hello, Bid, Gone, Clear}
use Rattle.pm_wire.specs.Framing.{IsFraming, HasSize, MayStand}
use Rattle.pm_wire.specs.Kinds.{hello_kind, bid_kind, gone_kind, clear_kind}
use Rattle.pm_wire.specs.Frames.{bid_framing, frame_bytes}
use Rattle.pm_wire.specs.Frames.{size_at, place_after, IsFormed, IsBidPlace, signed_bytes, demand_bytes}
use Rattle.pm_wire.specs.Memory.{frame_limit}
use Rattle.pm_wire.proofs.OneField.{two_same, four_same, signed_same, demands_same, length-demand_bytes}

-- two lists that are equal have the same first number and the same rests
pub parts_same : (a b : ℕ) (x y : List ℕ) → a ∷ x ≡ b ∷ y → (a ≡ b) × (x ≡ y)
parts_same a b x y e = (cc, cc)

hello_same : (b c : BasisValue) (x y : List ℕ) → IsFormed None (Hello b) → IsFormed None (Hello c) →
    frame_bytes (Hello b) ++ x ≡ frame_bytes (Hello c) ++ y → (Hello b ≡ Hello c) × (x ≡ y)
hello_same b c x y f g e =
    let low = signed_same b.min c.min ((signed_bytes b.max ++ to_be_bytes w16 b.steps) ++ x) ((signed_bytes c.max ++ to_be_bytes w16 c.steps) ++ y) f.0
    g.0 (parts_same _ _ _ _ e).1 in
    let high = signed_same b.max c.max (to_be_bytes w16 b.steps ++ x) (to_be_bytes w16 c.steps ++ y) f.1 g.1 low.1 in
    let many = two_same b.steps c.steps x y f.2 g.2 high.1 in (
      ap (λ n. Hello (record { min = n; max = b.max; steps = b.steps })) low.0
          ∙ ap (λ n. Hello (record { min = c.min; max = n; steps = b.steps })) high.0
          ∙ ap (λ n. Hello (record { min = c.min; max = c.max; steps = n })) many.0,
      many.1,
    )

bid_same : (steps child number child' number' : ℕ) (demand demand' : List ℤ) (x y : List ℕ) → IsFormed (Some steps) (Bid child number demand) →
    IsFormed (Some steps) (Bid child' number' demand') → frame_bytes (Bid child number demand) ++ x ≡ frame_bytes (Bid child' number' demand') ++ y →
    (Bid child number demand ≡ Bid child' number' demand') × (x ≡ y)
bid_same steps child number child' number' demand demand' x y f g e =
    let senders = two_same child child' (to_be_bytes w32 number ++ (demand_bytes demand ++ x)) (to_be_bytes w32 number' ++ (demand_bytes demand' ++ y))
    f.0 g.0 (parts_same _ _ _ _ e).1 in
    let numbers = four_same number number' (demand_bytes demand ++ x) (demand_bytes demand' ++ y) f.1 g.1 senders.1 in
    let demands = demands_same demand demand' x y (f.2 ∙ sym g.2) f.3 g.3 numbers.1 in
    (cc (senders.0, numbers.0, demands.0), demands.1)

gone_same : (steps child number child' number' : ℕ) (x y : List ℕ) → IsFormed (Some steps) (Gone child number) →
    IsFormed (Some steps) (Gone child' number') →
    frame_bytes (Gone child number) ++ x ≡ frame_bytes (Gone child' number') ++ y → (Gone child number ≡ Gone child' number') × (x ≡ y)
gone_same steps child number child' number' x y f g e =
    let senders = two_same child child' (to_be_bytes w32 number ++ x) (to_be_bytes w32 number' ++ y) f.0 g.0 (parts_same _ _ _ _ e).1 in
    let numbers = four_same number number' x y f.1 g.1 senders.1 in
    (cc (senders.0, numbers.0), numbers.1)

-- no frame that is formed begins another one, nor has another one's bytes
pub one_frame : (place : Option ℕ) (f g : Frame) (x y : List ℕ) → IsFormed place f → IsFormed place g → frame_bytes f ++ x ≡ frame_bytes g ++ y →
    (f ≡ g) × (x ≡ y)
one_frame None (Hello b) (Hello c) x y f g e = hello_same b c x y f g e
one_frame None (Hello b) (Bid child number demand) x y f g e = absurd g
one_frame None (Hello b) (Gone child number) x y f g e = absurd g
one_frame None (Hello b) Clear x y f g e = absurd g
one_frame None (Bid child number demand) other x y f g e = absurd f
one_frame None (Gone child number) other x y f g e = absurd f
one_frame None Clear other x y f g e = absurd f
one_frame (Some steps) (Hello b) other x y f g e = absurd f
one_frame (Some steps) (Bid child number demand) (Hello c) x y f g e = absurd g
one_frame (Some steps) (Bid child number demand) (Bid child' number' demand') x y f g e = bid_same steps child number child' number' demand demand' x y f g e
one_frame (Some steps) (Bid child number demand) (Gone child' number') x y f g e = absurd (omega (arith, (parts_same _ _ _ _ e).0))
one_frame (Some steps) (Bid child number demand) Clear x y f g e = absurd (omega (arith, (parts_same _ _ _ _ e).0))
one_frame (Some steps) (Gone child number) (Hello c) x y f g e = absurd g
one_frame (Some steps) (Gone child number) (Bid child' number' demand') x y f g e = absurd (omega (arith, (parts_same _ _ _ _ e).0))
one_frame (Some steps) (Gone child number) (Gone child' number') x y f g e = gone_same steps child number child' number' x y f g e
one_frame (Some steps) (Gone child number) Clear x y f g e = absurd (omega (arith, (parts_same _ _ _ _ e).0))
one_frame (Some steps) Clear (Hello c) x y f g e = absurd g
one_frame (Some steps) Clear (Bid child' number' demand') x y f g e = absurd (omega (arith, (parts_same _ _ _ _ e).0))
one_frame (Some steps) Clear (Gone child' number') x y f g e = absurd (omega (arith, (parts_same _ _ _ _ e).0))
one_frame (Some steps) Clear Clear x y f g e = (refl, (parts_same _ _ _ _ e).1)

formed_size : (place : Option ℕ) (f : Frame) (more : List ℕ) → IsFormed place f →
    HasSize bid_framing place (frame_bytes f ++ more) (length (frame_bytes f))
formed_size None (Hello b) more f = refl
formed_size None (Bid child number demand) more f = absurd f
formed_size None (Gone child number) more f = absurd f
formed_size None Clear more f = absurd f
formed_size (Some steps) (Hello b) more f = absurd f
formed_size (Some steps) (Bid child number demand) more f =
    let size : 7 + 4 * steps ≡ length (frame_bytes (Bid child number demand)) = omega (arith, length-demand_bytes demand, f.2) in
    ap (λ n. Some n) size
formed_size (Some steps) (Gone child number) more f = refl
formed_size (Some steps) Clear more f = refl

some_same : (m n : ℕ) → Some m ≡ Some n → m ≡ n
some_same m n e = cc

picked : (A : Type 0) (test : Bool) (m n : Option ℕ) (size : ℕ) → (m ≡ Some size → A) → (n ≡ Some size → A) →
    (if test then m else n) ≡ Some size → A
picked A true m n size first second is = first is
picked A false m n size first second is = second is

-- how many bytes a frame has: one at least, and no more than the limit
sizes : (place : Option ℕ) (kind size : ℕ) → size_at place kind ≡ Some size → 1 ≤ size
sizes None kind size is =
    picked (1 ≤ size) (kind == hello_kind) (Some 11) None size (λ e. omega (arith, some_same 11 size e)) (λ e. absurd (cc e)) is
sizes (Some steps) kind size is =
    picked (1 ≤ size) (kind == bid_kind) (Some (7 + 4 * steps)) _ size (λ e. omega (arith, some_same (7 + 4 * steps) size e))
    (λ e. picked (1 ≤ size) (kind == gone_kind) (Some 7) _ size (λ d. omega (arith, some_same 7 size d))
    (λ d. picked (1 ≤ size) (kind == clear_kind) (Some 1) None size (λ c. omega (arith, some_same 1 size c)) (λ c. absurd (cc c)) d) e) is

few : (place : Option ℕ) (kind size : ℕ) → IsBidPlace place → size_at place kind ≡ Some size → size ≤ frame_limit
few None kind size is_place is =
    picked (size ≤ frame_limit) (kind == hello_kind) (Some 11) None size (λ e. omega (arith, some_same 11 size e)) (λ e. absurd (cc e)) is
few (Some steps) kind size is_place is =
    picked (size ≤ frame_limit) (kind == bid_kind) (Some (7 + 4 * steps)) _ size (λ e. omega (arith, some_same (7 + 4 * steps) size e, is_place))
    (λ e. picked (size ≤ frame_limit) (kind == gone_kind) (Some 7) _ size (λ d. omega (arith, some_same 7 size d))
    (λ d. picked (size ≤ frame_limit) (kind == clear_kind) (Some 1) None size (λ c. omega (arith, some_same 1 size c)) (λ c. absurd (cc c)) d) e) is

goes_on : (place : Option ℕ) (frame : Frame) → IsBidPlace place → MayStand bid_framing place frame → IsBidPlace (place_after place frame)
goes_on place (Hello basis) is stands = (checked_is_basis basis.min basis.max (pos basis.steps) basis stands.accepted).steps
goes_on place (Bid child number demand) is stands = is
goes_on place (Gone child number) is stands = is
goes_on place Clear is stands = is

-- the frames of a stream of bids are a framing
pub bid_framing_sound : IsFraming bid_framing
bid_framing_sound = record {
  sized = formed_size;
  some_bytes = sizes;
  few_bytes = few;
  one_frame = one_frame;
  not_empty = omega arith;
  leads_on = goes_on;
}
