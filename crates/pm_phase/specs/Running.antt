-- What a phase came to: turns of nodes, from ends that were handed out to ends that came back.
use Rattle.std.specs.Prelude.{◌≡◌, List, Vec, All}
use Rattle.std.specs.declared.alloc.Global.{Global}
use Rattle.pm_device.specs.declared.state.Next.{Next}
use Rattle.pm_plan.specs.Plans.{PlanData}
use Rattle.pm_phase.specs.Beginning.{IsOpenedNode}
use Rattle.pm_phase.specs.Closing.{AreClosed, parts_of_nodes}
use Rattle.pm_phase.specs.Nodes.{numbers_of_parts, numbers_of_nodes}
use Rattle.pm_phase.specs.Telling.{AllStepOn}
use Rattle.pm_phase.specs.declared.node.FreeNode.{FreeNode}
use Rattle.pm_phase.specs.declared.node.NodePart.{NodePart}
use Rattle.pm_phase.specs.declared.phase.PhaseRun.{PhaseRun}

-- the nodes with the ends that they were handed, and with those that they gave back: what each kept at first it kept to the end;
-- its part is the one that came back; and each log is that of a link whose two ends the nodes gave back
pub record HasRun (plan : PlanData) (changes : List (Vec Next Global)) (parts : List NodePart) (run : PhaseRun) : Type 0 where
  pub opened : List FreeNode
  pub ended : List FreeNode
  pub numbers : numbers_of_nodes opened ≡ numbers_of_parts parts
  pub handed : All (IsOpenedNode plan parts) opened
  pub steps : AllStepOn plan changes opened ended
  pub back : run.parts.items ≡ parts_of_nodes ended
  pub closed : AreClosed ended run.links.items
