-- Which targets each step of a total has, among all whole numbers.
use Rattle.std.specs.Prelude.{◌≡◌, ℕ, ◌<◌, ℤ, ◌≤ℤ◌, ◌<ℤ◌, List, Option, Some, None, IfSome, All}
use Rattle.std.specs.List.{AllPairs, Any}
use Rattle.pm_ask.specs.Asked.{asked_step}
use Rattle.pm_ask.specs.declared.breaks.Break.{Break}

-- a target of a step: a whole number of which it is the step
abbrev pub IsTargetOf : List ℤ → ℕ → ℤ → Type 0
IsTargetOf total step target = asked_step target total ≡ step

-- the step has targets
abbrev pub HasTargets : List ℤ → ℕ → Type 0
HasTargets total step = (target : ℤ) × IsTargetOf total step target

-- the least target of a step; there is none if below each of its targets it has another
abbrev pub IsLeastTarget : List ℤ → ℕ → Option ℤ → Type 0
IsLeastTarget total step (Some least) =
    IsTargetOf total step least × ((target : ℤ) → IsTargetOf total step target → least ≤ℤ target)
IsLeastTarget total step None =
    (target : ℤ) → IsTargetOf total step target → (lower : ℤ) × (IsTargetOf total step lower × (lower <ℤ target))

-- the greatest target of a step; there is none if above each of its targets it has another
abbrev pub IsGreatestTarget : List ℤ → ℕ → Option ℤ → Type 0
IsGreatestTarget total step (Some greatest) =
    IsTargetOf total step greatest × ((target : ℤ) → IsTargetOf total step target → target ≤ℤ greatest)
IsGreatestTarget total step None =
    (target : ℤ) → IsTargetOf total step target → (higher : ℤ) × (IsTargetOf total step higher × (target <ℤ higher))

-- a break has the least and the greatest target of its step
pub record HasEnds (total : List ℤ) (break : Break) : Type 0 where
  pub least : IsLeastTarget total break.step break.from
  pub greatest : IsGreatestTarget total break.step break.to

-- a target lies in a break: it is neither below the break's least target nor above its greatest
pub record LiesIn (target : ℤ) (break : Break) : Type 0 where
  pub from : IfSome break.from (λ least. least ≤ℤ target)
  pub to : IfSome break.to (λ greatest. target ≤ℤ greatest)

-- the break of a target: that of its step, and the target lies in it
pub record IsBreakOf (total : List ℤ) (target : ℤ) (break : Break) : Type 0 where
  pub step : IsTargetOf total break.step target
  pub inside : LiesIn target break

-- the breaks of a total, by rising steps: each has targets, and their least and greatest; each target lies in the break
-- of its step, and in no other
pub record AreBreaks (total : List ℤ) (breaks : List Break) : Type 0 where
  pub rise : AllPairs (λ earlier later. earlier.step < later.step) breaks
  pub some : All (λ break. HasTargets total break.step) breaks
  pub ends : All (HasEnds total) breaks
  pub each : (target : ℤ) → Any (IsBreakOf total target) breaks
  pub only : All (λ break. (target : ℤ) → LiesIn target break → IsTargetOf total break.step target) breaks
