-- The frames of a parent: their bytes determine them, whatever follows.
use Rattle.std.proofs.Common.{◌≡◌, ◌≢◌, ◌∙◌, sym, ℕ, ◌≤◌, List, ◌∷◌, ◌++◌, get_or, append_assoc, arith}
use Rattle.pm_basis.specs.Prices.{BasisValue}
use Rattle.std.specs.Int.{w16, w32, to_be_bytes}
use Rattle.pm_wire.proofs.OneField.{two_same, four_same}
use Rattle.pm_wire.proofs.OneFrame.{parts_same}
use Rattle.pm_frames.specs.Kinds.{price_kind}
use Rattle.pm_frames.specs.NamedBases.{basis_bytes}
use Rattle.pm_frames.specs.ParentFrames.{parent_bytes, price_bytes, IsParentFormed}
use Rattle.pm_frames.proofs.OneStored.{basis_same}
use Rattle.pm_frames.specs.declared.parent.ParentFrame.{ParentFrame}
use Rattle.pm_frames.specs.declared.parent.ParentFrame.TheVariants.{Price, Old}

-- two frames of a parent with the same bytes in front are one
pub parent_same : (f g : ParentFrame) (x y : List ℕ) → IsParentFormed f → IsParentFormed g → parent_bytes f ++ x ≡ parent_bytes g ++ y →
    (f ≡ g) × (x ≡ y)
parent_same (Price child number index step basis) (Price child' number' index' step' basis') x y f g e =
    let plain : (c n k s : ℕ) (b : BasisValue) (z : List ℕ) → price_bytes c n k s b ++ z
    ≡ price_kind ∷ (to_be_bytes w16 c ++ (to_be_bytes w32 n ++ (to_be_bytes w32 k ++ (to_be_bytes w16 s ++ (basis_bytes b ++ z))))) =
    λ c n k s b z. simp append_assoc in
    let same = sym (plain child number index step basis x) ∙ e ∙ plain child' number' index' step' basis' y in
    let children = two_same child child' (to_be_bytes w32 number ++ (to_be_bytes w32 index ++ (to_be_bytes w16 step ++ (basis_bytes basis ++ x))))
    (to_be_bytes w32 number' ++ (to_be_bytes w32 index' ++ (to_be_bytes w16 step' ++ (basis_bytes basis' ++ y)))) f.0 g.0 (parts_same _ _ _ _ same).1 in
    let numbers = four_same number number' (to_be_bytes w32 index ++ (to_be_bytes w16 step ++ (basis_bytes basis ++ x)))
    (to_be_bytes w32 index' ++ (to_be_bytes w16 step' ++ (basis_bytes basis' ++ y))) f.1 g.1 children.1 in
    let indices = four_same index index' (to_be_bytes w16 step ++ (basis_bytes basis ++ x)) (to_be_bytes w16 step' ++ (basis_bytes basis' ++ y))
    f.2 g.2 numbers.1 in
    let steps = two_same step step' (basis_bytes basis ++ x) (basis_bytes basis' ++ y) f.3 g.3 indices.1 in
    let bases = basis_same basis basis' x y f.4 g.4 steps.1 in
    (cc (children.0, numbers.0, indices.0, steps.0, bases.0), bases.1)
parent_same (Price child number index step basis) (Old child' kept) x y f g e = absurd (omega (arith, (parts_same _ _ _ _ e).0))
parent_same (Old child kept) (Price child' number index step basis) x y f g e = absurd (omega (arith, (parts_same _ _ _ _ e).0))
parent_same (Old child kept) (Old child' kept') x y f g e =
    let children = two_same child child' (to_be_bytes w32 kept ++ x) (to_be_bytes w32 kept' ++ y) f.0 g.0 (parts_same _ _ _ _ e).1 in
    let numbers = four_same kept kept' x y f.1 g.1 children.1 in
    (cc (children.0, numbers.0), numbers.1)

-- the kind of a frame of a parent is at least that of Old
pub parent_least : (frame : ParentFrame) (x : List ℕ) → 7 ≤ get_or (parent_bytes frame ++ x) 0 0
parent_least (Price child number index step basis) x = omega arith
parent_least (Old child kept) x = omega arith

-- it is at most that of Price
pub parent_most : (frame : ParentFrame) (x : List ℕ) → get_or (parent_bytes frame ++ x) 0 0 ≤ 23
parent_most (Price child number index step basis) x = omega arith
parent_most (Old child kept) x = omega arith

-- it is that of Old or of Price
pub no_parent : (frame : ParentFrame) (x : List ℕ) (kind : ℕ) → kind ≢ 7 → kind ≢ 23 → get_or (parent_bytes frame ++ x) 0 0 ≢ kind
no_parent (Price child number index step basis) x kind old price e = price (sym e)
no_parent (Old child kept) x kind old price e = old (sym e)
