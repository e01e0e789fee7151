-- What some bytes say of an offer: four bytes for each demand.
use Rattle.std.specs.Prelude.{◌≡◌, ℕ, ℤ, List, length, Option, Some, None, Ok, FitsSigned}
use Rattle.std.specs.Int.{w32}
use Rattle.std.specs.List.{AllByRecursion}
use Rattle.pm_bid.specs.Checks.{checked_bid}
use Rattle.pm_wire.specs.Frames.{demand_bytes}

-- the demands of so many steps that the bytes are
pub record AreDemands (steps : ℕ) (bytes : List ℕ) (demand : List ℤ) : Type 0 where
  pub spelled : bytes ≡ demand_bytes demand
  pub count : length demand ≡ steps
  pub fit : AllByRecursion (λ z. FitsSigned w32 z) demand

-- the demands are a bid
pub record IsOfferOf (steps : ℕ) (bytes : List ℕ) (demand : List ℤ) : Type 0 where
  pub are : AreDemands steps bytes demand
  pub accepted : checked_bid (length demand) demand ≡ Ok demand

-- the demands are no bid
pub record IsRefusedOffer (steps : ℕ) (bytes : List ℕ) : Type 0 where
  pub demand : List ℤ
  pub are : AreDemands steps bytes demand
  pub refused : ¬ (checked_bid (length demand) demand ≡ Ok demand)

-- the bytes are an offer, or demands that are no bid
abbrev pub IsOffer : ℕ → List ℕ → Option (List ℤ) → Type 0
IsOffer steps bytes (Some demand) = IsOfferOf steps bytes demand
IsOffer steps bytes None = IsRefusedOffer steps bytes
