-- The changes of a phase, by the numbers of the nodes, and how many changes each node has made.
use Rattle.std.specs.Prelude.{◌≡◌, ℕ, ◌+◌, List, Vec, Some, slice_get}
use Rattle.std.specs.declared.alloc.Global.{Global}
use Rattle.pm_base.specs.Cuts.{cut_of}
use Rattle.pm_device.specs.declared.state.Next.{Next}
use Rattle.pm_plan.specs.Plans.{PlanData, phase_changes}
use Rattle.pm_phase.specs.SettledParts.{changes_count}
use Rattle.pm_phase.specs.Telling.{IsPlannedNext, listed_changes}

-- each change is what the plan makes of its device by the change with that number
abbrev pub AreTold : PlanData → List (Vec Next Global) → Type 0
AreTold plan changes = (d k : ℕ) (next : Next) → slice_get (listed_changes (slice_get changes d)) k ≡ Some next →
    IsPlannedNext plan d next.number next

-- the changes have the numbers that follow this one
abbrev pub Follow : ℕ → List Next → Type 0
Follow made list = (k : ℕ) (next : Next) → slice_get list k ≡ Some next → next.number ≡ made + k + 1

-- the changes of node d follow those that it made before, and are as many as the plan has for it in the phase; with them it has made
-- so many
pub record IsCounted (plan : PlanData) (phase : ℕ) (made : List ℕ) (changes : List (Vec Next Global)) (d count : ℕ) : Type 0 where
  pub counted : count ≡ cut_of made d + changes_count (slice_get changes d)
  pub all : changes_count (slice_get changes d) ≡ phase_changes plan phase d
  pub follow : Follow (cut_of made d) (listed_changes (slice_get changes d))

-- those of each node are, and these are the counts
abbrev pub AreCounted : PlanData → ℕ → List ℕ → List (Vec Next Global) → List ℕ → Type 0
AreCounted plan phase made changes counts = (d : ℕ) → IsCounted plan phase made changes d (cut_of counts d)

-- no node has a change
abbrev pub HaveNone : List (Vec Next Global) → Type 0
HaveNone changes = (d : ℕ) → changes_count (slice_get changes d) ≡ 0
