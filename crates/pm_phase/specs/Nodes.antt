-- What a node starts from, and what is seen of it from outside its turns.
use Rattle.std.specs.Prelude.{◌≡◌, ℕ, ◌+◌, true, List, map, length, slice_get, Option, Some, None}
use Rattle.pm_nodes.specs.DeviceAgents.{IsAgentOf}
use Rattle.pm_plan.specs.Plans.{PlanData, is_leaf}
use Rattle.pm_session.specs.Ports.{held_by}
use Rattle.pm_session.specs.declared.price.Held.{Held}
use Rattle.pm_phase.specs.Devices.{new_device}
use Rattle.pm_phase.specs.Parents.{IsNewParent}
use Rattle.pm_phase.specs.declared.node.Duty.{Duty}
use Rattle.pm_phase.specs.declared.node.Duty.TheVariants.{Device, Parent}
use Rattle.pm_phase.specs.declared.node.NodePart.{NodePart}
use Rattle.pm_phase.specs.declared.node.FreeNode.{FreeNode}

-- what a node does before the first phase: a device made no change, and has the agent of the plan's device; any other node is
-- one with children to which nobody sent anything
abbrev pub IsNewDuty : PlanData → ℕ → Duty → Type 0
IsNewDuty plan node (Device device) = IsAgentOf plan node device.agent × (device ≡ new_device device.agent)
IsNewDuty plan node (Parent parent) = (is_leaf plan node ≡ true → ⊥) × IsNewParent plan node parent

-- the parts are those of all nodes of the plan, by their numbers, before the first phase
pub record AreNewParts (plan : PlanData) (parts : List NodePart) : Type 0 where
  pub many : length parts ≡ length plan.entries + 1
  pub numbers : (x : ℕ) (part : NodePart) → slice_get parts x ≡ Some part → part.number ≡ x
  pub duties : (x : ℕ) (part : NodePart) → slice_get parts x ≡ Some part → IsNewDuty plan x part.duty

-- the price that a device holds; none of another node
abbrev pub held_by_duty : Duty → Option Held
held_by_duty (Device device) = held_by device.port
held_by_duty (Parent parent) = None

abbrev pub held_by_node : NodePart → Option Held
held_by_node part = held_by_duty part.duty

-- the numbers of nodes, in their order
abbrev pub numbers_of_parts : List NodePart → List ℕ
numbers_of_parts = map (λ part. part.number)

abbrev pub numbers_of_nodes : List FreeNode → List ℕ
numbers_of_nodes = map (λ node. node.part.number)
