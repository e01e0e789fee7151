-- Tests.
use Rattle.std.proofs.Common.{◌≡◌, Bool, true, false, cond, refl}
use Rattle.std.specs.Prelude.{◌||◌}

-- where neither of two tests passes, each fails
pub or_false : (a b : Bool) → (a || b) ≡ false → (a ≡ false) × (b ≡ false)
or_false true b none = absurd (cc)
or_false false b none = (refl, none)

-- what holds of both values holds of the one that a test chooses
pub chosen : {A : Type 0} (P : A → Type 0) (b : Bool) (x y : A) → P x → P y → P (cond b x y)
chosen P true x y at_x at_y = at_x
chosen P false x y at_x at_y = at_y
