-- When the end of a phase came over its links.
use Rattle.std.specs.Prelude.{◌≡◌, ◌⊎◌, ℕ, ◌+◌, ◌-◌, List, [], Vec, Some, IfSome, map, slice_get}
use Rattle.std.specs.declared.alloc.Global.{Global}
use Rattle.pm_base.specs.Cuts.{cut_of}
use Rattle.pm_device.specs.declared.state.Next.{Next}
use Rattle.pm_plan.specs.Auction.{EndData}
use Rattle.pm_plan.specs.Plans.{PlanData, end_cut}
use Rattle.pm_plan.specs.States.{end_of}
use Rattle.pm_phase.specs.Nodes.{AreNewParts, held_by_node}
use Rattle.pm_phase.specs.PartsEnd.{parts_end}
use Rattle.pm_phase.specs.Running.{HasRun}
use Rattle.pm_phase.specs.SettledParts.{AreSettled}
use Rattle.pm_phase.specs.Standing.{PartsStand}
use Rattle.pm_phase.specs.Telling.{AreChanges}
use Rattle.pm_phase.specs.declared.node.NodePart.{NodePart}
use Rattle.pm_phase.specs.declared.phase.PhaseRun.{PhaseRun}
use Rattle.pm_free.specs.Counting.{HaveNone}
use Rattle.pm_free.specs.declared.phase.FreePhase.{FreePhase}

-- a phase with changes: its run over the links made them, and is settled; the parts that it left, and the logs, are those of the run
pub record RanOver (plan : PlanData) (made : List ℕ) (changes : List (Vec Next Global)) (parts left : List NodePart) (phase : FreePhase) : Type 0 where
  pub run : PhaseRun
  pub ran : HasRun plan changes parts run
  pub settled : AreSettled plan run.parts.items made changes run.links.items
  pub parts_left : left ≡ run.parts.items
  pub logs : phase.links.items ≡ run.links.items

-- a phase without changes has no links, and leaves the parts as they were
pub record HadNoChange (changes : List (Vec Next Global)) (parts left : List NodePart) (phase : FreePhase) : Type 0 where
  pub none : HaveNone changes
  pub parts_left : left ≡ parts
  pub logs : phase.links.items ≡ []

-- The end of a phase, which counts from 1, came over its links. The parts stood before it, and its changes are those of the plan
-- that follow. It ran over the links or had no change. The end is read of the parts that it left, and it is that of the plain
-- auction over the changes of the phases up to it.
pub record CameOverLinks (plan : PlanData) (p : ℕ) (parts left : List NodePart) (phase : FreePhase) (end : EndData) : Type 0 where
  pub made : List ℕ
  pub changes : List (Vec Next Global)
  pub before : cut_of made ≡ end_cut plan (p - 1)
  pub stood : PartsStand plan parts (cut_of made)
  pub next : AreChanges plan (cut_of made) changes
  pub ran : RanOver plan made changes parts left phase ⊎ HadNoChange changes parts left phase
  pub held : phase.held.items ≡ map held_by_node left
  pub read : end ≡ parts_end plan left
  pub plain : end ≡ end_of plan (end_cut plan p)

-- the parts before the first phase are new, and each phase begins with those that the one before it left; each end that is told came
-- over the links of its phase
pub record AreOverLinks (plan : PlanData) (phases : List FreePhase) : Type 0 where
  pub parts : ℕ → List NodePart
  pub new : AreNewParts plan (parts 0)
  pub over : (p : ℕ) (phase : FreePhase) → slice_get phases p ≡ Some phase →
      IfSome phase.end (λ end. CameOverLinks plan (p + 1) (parts p) (parts (p + 1)) phase end.end)
