-- How the nodes stand between two phases.
use Rattle.std.specs.Prelude.{◌≡◌, ℕ, List, Vec, Option, Some, None, IfSome, map, option_map}
use Rattle.std.specs.declared.alloc.Global.{Global}
use Rattle.pm_base.specs.Cuts.{cut_of}
use Rattle.pm_device.specs.declared.state.Next.{Next}
use Rattle.pm_plan.specs.Plans.{PlanData, end_cut}
use Rattle.pm_cells.specs.declared.link.LinkLog.{LinkLog}
use Rattle.pm_phase.specs.Nodes.{held_by_node}
use Rattle.pm_phase.specs.PartsEnd.{parts_end, EndsPlainly}
use Rattle.pm_phase.specs.SettledParts.{AreSettled}
use Rattle.pm_phase.specs.declared.node.NodePart.{NodePart}
use Rattle.pm_phase.specs.declared.phase.PhaseRun.{PhaseRun}
use Rattle.pm_free.specs.Counting.{AreCounted}
use Rattle.pm_free.specs.declared.phase.FreePhase.{FreePhase}
use Rattle.pm_free.specs.declared.phase.Nodes.{Nodes}
use Rattle.pm_free.specs.declared.phase.Carried.{Carried}

-- the nodes made the changes of the first phases, and hold the end of the last of them
pub record AreAfter (plan : PlanData) (phases : ℕ) (parts : List NodePart) (made : List ℕ) : Type 0 where
  pub counts : cut_of made ≡ end_cut plan phases
  pub ends : EndsPlainly plan parts (end_cut plan phases)

-- they do, if each phase came over the links so far
abbrev pub StandAfter : PlanData → ℕ → Nodes → Type 0
StandAfter plan phases nodes = IfSome nodes.made (λ made. AreAfter plan phases nodes.parts.items made.items)

-- the changes are counted, and the end is read of these parts
pub record IsCarriedBy (plan : PlanData) (phase : ℕ) (made : List ℕ) (changes : List (Vec Next Global)) (parts : List NodePart)
    (carried : Carried) : Type 0 where
  pub counted : AreCounted plan phase made changes carried.made.items
  pub read : carried.end.end ≡ parts_end plan parts

-- the nodes stood before the phase, and their end was read after it
abbrev pub IsReadAfter : PlanData → ℕ → Option (Vec ℕ Global) → List (Vec Next Global) → List NodePart → Carried → Type 0
IsReadAfter plan phase None changes parts carried = ⊥
IsReadAfter plan phase (Some made) changes parts carried = IsCarriedBy plan phase made.items changes parts carried

-- and the phase is settled
abbrev pub IsSettledBy : PlanData → Option (Vec ℕ Global) → List (Vec Next Global) → PhaseRun → Type 0
IsSettledBy plan None changes run = ⊥
IsSettledBy plan (Some made) changes run = AreSettled plan run.parts.items made.items changes run.links.items

-- the nodes that a phase left, and what it came to: these parts, these logs of its links, and what came over them
pub record IsOutcome (parts : Vec NodePart Global) (links : Vec (Option LinkLog) Global) (carried : Option Carried) (nodes : Nodes)
    (phase : FreePhase) : Type 0 where
  pub same_parts : nodes.parts ≡ parts
  pub counts : nodes.made ≡ option_map (λ (c : Carried). c.made) carried
  pub ends : phase.end ≡ option_map (λ (c : Carried). c.end) carried
  pub same_links : phase.links ≡ links
  pub held : phase.held.items ≡ map held_by_node parts.items
