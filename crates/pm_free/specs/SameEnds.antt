-- Ends that stand in their places already.
use Rattle.std.specs.Prelude.{◌≡◌, ℕ, ◌+◌, List, Option, Some, IfSome, slice_get}
use Rattle.pm_plan.specs.Auction.{EndData}
use Rattle.pm_plan.specs.Ends.{EndValue}
use Rattle.pm_free.specs.declared.phase.FreePhase.{FreePhase}

-- an end, if there is one, is that in a place
abbrev pub IsSameEnd : ℕ → Option EndValue → List EndData → Type 0
IsSameEnd place end ends = IfSome end (λ e. slice_get ends place ≡ Some e.end)

-- those of phases are, from this place on
abbrev pub AreSameEnds : ℕ → List FreePhase → List EndData → Type 0
AreSameEnds place phases ends = (k : ℕ) (phase : FreePhase) → slice_get phases k ≡ Some phase → IsSameEnd (place + k) phase.end ends
