-- Reading, as the inverse of writing.
use Rattle.std.specs.Prelude.{◌≡◌, ◌≢◌, ℕ, suc, ◌<◌, ◌≤◌, ◌^◌, ℤ, pos, negsuc, Bool, false, nat_lt, List, length, Option, None}
use Rattle.std.specs.Prelude.{IfSome, IsNone}
use Rattle.std.specs.List.{list_all}
use Rattle.pm_basis.specs.Prices.{BasisValue}
use Rattle.pm_plan.specs.Plans.{PlanData, is_leaf}

-- what a reader answers of a text: a value that is written so, and none only if no value is written so
pub record Reads {A B : Type 0} (IsValue : A → Type 0) (text_of : A → B) (text : B) (answer : Option A) : Type 0 where
  pub told : IfSome answer (λ value. IsValue value × (text_of value ≡ text))
  pub none : IsNone answer → (value : A) → IsValue value → text_of value ≢ text

-- whether bytes may be one word: none is a blank or below it
abbrev pub is_word : List ℕ → Bool
is_word bytes = list_all (nat_lt 32) bytes

-- a whole number without its sign
abbrev pub size_of : ℤ → ℕ
size_of (pos n) = n
size_of (negsuc n) = suc n

-- what is held has a step of the basis and a number of 32 bits
pub record IsHolding (basis : BasisValue) (held : Option (ℕ × ℕ)) : Type 0 where
  pub step : IfSome held (λ one. one.0 < basis.steps)
  pub number : IfSome held (λ one. one.1 < 2 ^ 32)

-- an index of 32 bits, and something held only if the node is a device
pub record IsPassed (plan : PlanData) (node : ℕ) (read : ℕ × Option (ℕ × ℕ)) : Type 0 where
  pub index : read.0 < 2 ^ 32
  pub held : IsHolding plan.basis read.1
  pub holder : is_leaf plan node ≡ false → read.1 ≡ None

-- a node that is not the auctioneer, an index of 32 bits, and something held if the node is a device
pub record IsPassing (plan : PlanData) (read : ℕ × ℕ × Option (ℕ × ℕ)) : Type 0 where
  pub first : 1 ≤ read.0
  pub last : read.0 ≤ length plan.nodes
  pub index : read.1 < 2 ^ 32
  pub held : IsHolding plan.basis read.2
  pub holder : is_leaf plan read.0 ≡ false → read.2 ≡ None
