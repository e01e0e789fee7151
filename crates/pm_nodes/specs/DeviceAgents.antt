-- The agents of the devices of a plan.
use Rattle.std.specs.Prelude.{◌≡◌, ℕ, List, Option, Some, slice_get}
use Rattle.pm_market.specs.Lists.{IsLeaf}
use Rattle.pm_agent.specs.Agents.{Agent}
use Rattle.pm_plan.specs.Plans.{PlanData, node, kind_of}
use Rattle.pm_plan.specs.Market.{plan_lists}

-- the agent is that of a device of the plan
pub record IsAgentOf (plan : PlanData) (d : ℕ) (agent : Agent) : Type 0 where
  pub kind : kind_of (node plan d) ≡ Some agent.kind
  pub device : agent.device ≡ d
  pub steps : agent.steps ≡ plan.basis.steps

-- at the place of a device stands its agent
pub record HasAgent (plan : PlanData) (agents : List (Option Agent)) (d : ℕ) : Type 0 where
  pub agent : Agent
  pub here : slice_get agents d ≡ Some (Some agent)
  pub its : IsAgentOf plan d agent

-- each device has its agent
abbrev pub AreAgents : PlanData → List (Option Agent) → Type 0
AreAgents plan agents = (d : ℕ) → IsLeaf (plan_lists plan) d → HasAgent plan agents d

-- whatever stands at a place is the agent of the device of that number
abbrev pub AreOnlyAgents : PlanData → List (Option Agent) → Type 0
AreOnlyAgents plan agents = (d : ℕ) (agent : Agent) → slice_get agents d ≡ Some (Some agent) → IsAgentOf plan d agent
