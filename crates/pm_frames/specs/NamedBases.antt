-- A basis in a frame behind Hello: it is named as Hello names it.
use Rattle.std.specs.Prelude.{ℕ, ◌<◌, ◌^◌, pos, List, ◌++◌, IsOk, FitsSigned}
use Rattle.std.specs.Int.{w16, w32, to_be_bytes}
use Rattle.pm_basis.specs.Prices.{BasisValue, checked_basis}
use Rattle.pm_wire.specs.Frames.{signed_bytes}

-- the least price, the greatest price and the number of steps
abbrev pub basis_bytes : BasisValue → List ℕ
basis_bytes basis = signed_bytes basis.min ++ (signed_bytes basis.max ++ to_be_bytes w16 basis.steps)

abbrev pub IsBasisFormed : BasisValue → Type 0
IsBasisFormed basis = FitsSigned w32 basis.min × FitsSigned w32 basis.max × (basis.steps < 2 ^ 16)

-- the numbers are a basis
abbrev pub IsBasisAccepted : BasisValue → Type 0
IsBasisAccepted basis = IsOk (checked_basis basis.min basis.max (pos basis.steps))
