-- What holds of each size that a kind of frames may have.
use Rattle.std.proofs.Common.{◌≡◌, subst, refl, Bool, true, false, Option, Some, None}
use Rattle.std.specs.Prelude.{if◌then◌else◌, IfSome}

-- what holds of both values of a choice holds of the one that is chosen
pub either : {A : Type 0} (P : A → Type 0) (test : Bool) (x y : A) → P x → P y → P (if test then x else y)
either P true x y first second = first
either P false x y first second = second

-- what holds of a value where there is one holds of this one
pub of_some : {A : Type 0} (P : A → Type 0) (option : Option A) (value : A) → IfSome option P → option ≡ Some value → P value
of_some P option value holds is = subst (λ o. IfSome o P) is holds

-- what holds of each value that there may be holds where there is one
pub if_some : {A : Type 0} (P : A → Type 0) (option : Option A) → ((value : A) → option ≡ Some value → P value) → IfSome option P
if_some P None each = tt
if_some P (Some value) each = each value refl
