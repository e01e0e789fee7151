-- What a relay knows of itself once there is a basis.
use Rattle.std.specs.Prelude.{ℕ}
use Rattle.pm_basis.specs.Prices.{BasisValue}
use Rattle.pm_frames.specs.declared.terms.RelayTerms.{RelayTerms}

-- its own number at its parent, what the arguments say of it, and the basis of the market
pub record RelaySetup : Type 0 where
  pub child : ℕ
  pub terms : RelayTerms
  pub basis : BasisValue
