-- What contracts see of a cluster.
use Rattle.pm_plan.specs.Plans.{PlanData}
use Rattle.pm_stands.specs.Core.{Core}

-- the plan, and what is kept of the market
pub record ClusterValue : Type 0 where
  pub plan : PlanData
  pub core : Core
