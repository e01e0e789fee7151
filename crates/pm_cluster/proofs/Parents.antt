-- The tree of a plan is that of its lists: the equations as the search uses them.
use Rattle.std.proofs.Common.{◌≡◌, sym, ℕ, ◌≤◌}
use Rattle.pm_market.specs.Lists.{nodes, parent, IsLeaf}
use Rattle.pm_market.proofs.Tree.{leaf_node}
use Rattle.pm_plan.specs.Kept.{IsPlan}
use Rattle.pm_plan.specs.Plans.{PlanData}
use Rattle.pm_plan.specs.Plans as plans
use Rattle.pm_plan.specs.Market.{plan_lists}
use Rattle.pm_plan.proofs.MarketLists.{lawful, parent-is}
pub use Rattle.pm_plan.proofs.MarketLists.{nodes_are}
pub use Rattle.pm_plan.proofs.LeafTests.{leaf_is}

-- the parent of a node is the same by the plan and by the plan's lists
pub parent_is : (plan : PlanData) (x : ℕ) → plans.parent plan x ≡ parent (plan_lists plan) x
parent_is plan x = sym (parent-is plan x)

-- a device is one of the nodes
pub leaf_inside : (plan : PlanData) → IsPlan plan → (d : ℕ) → IsLeaf (plan_lists plan) d → (1 ≤ d) × (d ≤ nodes (plan_lists plan))
leaf_inside plan is_plan d leaf = leaf_node (plan_lists plan) (lawful plan is_plan) d leaf
