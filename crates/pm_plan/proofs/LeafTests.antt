-- Which numbers are those of the devices of a plan.
use Rattle.std.proofs.Common.{◌≡◌, sym, ℕ, ◌<◌, false, length, arith}
use Rattle.pm_market.specs.Lists.{is_leaf}
use Rattle.pm_market.proofs.Tree.{leaf_past}
use Rattle.pm_plan.specs.Kept.{IsPlan}
use Rattle.pm_plan.specs.Plans.{PlanData}
use Rattle.pm_plan.specs.Plans as plans
use Rattle.pm_plan.specs.Market.{plan_lists}
use Rattle.pm_plan.proofs.MarketLists.{lawful, is_leaf-is, nodes_are}

-- whether a node is a leaf is the same by the plan and by the plan's lists
pub leaf_is : (plan : PlanData) (x : ℕ) → plans.is_leaf plan x ≡ is_leaf (plan_lists plan) x
leaf_is plan x = sym (is_leaf-is plan x)

-- a number behind the last node is no device
pub far_leaf : (plan : PlanData) → IsPlan plan → (x : ℕ) → length plan.entries < x → is_leaf (plan_lists plan) x ≡ false
far_leaf plan is_plan x far = leaf_past (plan_lists plan) x (omega (arith, (lawful plan is_plan).leaves, nodes_are plan))
