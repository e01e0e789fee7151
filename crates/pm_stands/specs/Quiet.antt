-- A cluster in which nothing is pending.
use Rattle.std.specs.Prelude.{◌≡◌, ℕ, false}
use Rattle.pm_market.specs.Lists.{IsNode, IsConcentrator}
use Rattle.pm_plan.specs.Plans.{PlanData}
use Rattle.pm_plan.specs.Market.{plan_lists}
use Rattle.pm_stands.specs.Core.{Core, uplink_of, concentrator_of}
use Rattle.pm_stands.specs.Rows.{CannotPublish}

-- every bid and price was taken, no concentrator can publish, and the auctioneer learnt nothing since its last clearing
pub record IsQuiet (plan : PlanData) (c : Core) : Type 0 where
  pub bids : (x : ℕ) → IsNode (plan_lists plan) x → (uplink_of plan c x).up.offered ≡ (uplink_of plan c x).up.taken
  pub prices : (x : ℕ) → IsNode (plan_lists plan) x → (uplink_of plan c x).down.offered ≡ (uplink_of plan c x).down.taken
  pub concentrators : (y : ℕ) → IsConcentrator (plan_lists plan) y → CannotPublish (concentrator_of c y)
  pub changed : c.auctioneer.changed ≡ false
