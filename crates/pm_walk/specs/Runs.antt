-- A run over the phases.
use Rattle.std.specs.Prelude.{◌≡◌, ℕ, List, length, map}
use Rattle.std.specs.List.{range_with_len}
use Rattle.pm_plan.specs.Ends.{EndValue}
use Rattle.pm_plan.specs.Plans.{PlanData, end_cut}
use Rattle.pm_plan.specs.States.{end_of}
use Rattle.pm_walk.specs.Standing.{IsStanding, cut_made}
use Rattle.pm_walk.specs.Clearing.{IsClearing}
use Rattle.pm_walk.specs.declared.run.Run.{Run}

-- what a run keeps is that of the plan: how far it has come, and the plain auction there
pub record IsRun (plan : PlanData) (run : Run) : Type 0 where
  pub stands : IsStanding plan run.standing
  pub clearing : IsClearing plan (cut_made run.standing.progress) run.clearing
  pub spare : length run.spare ≡ plan.basis.steps

-- a run at the end of phase p
pub record IsAtEnd (plan : PlanData) (p : ℕ) (run : Run) : Type 0 where
  pub sound : IsRun plan run
  pub cut : cut_made run.standing.progress ≡ end_cut plan p

-- the ends of the first p phases
abbrev pub AreEnds : PlanData → ℕ → List EndValue → Type 0
AreEnds plan p ends = map (λ end. end.end) ends ≡ map (λ q. end_of plan (end_cut plan q)) (range_with_len 1 p)
