-- What a node that has nothing to do lacks.
use Rattle.std.specs.Prelude.{◌≡◌, ℕ, ◌<◌, length, false}
use Rattle.pm_tree.specs.Entries.{children_of}
use Rattle.pm_market.specs.Lists.{IsNode, IsConcentrator}
use Rattle.pm_plan.specs.Plans.{PlanData}
use Rattle.pm_plan.specs.Market.{plan_lists}
use Rattle.pm_session.specs.Links.{IsTaken}
use Rattle.pm_stands.specs.Core.{Core, link_at, uplink_of, concentrator_of}
use Rattle.pm_stands.specs.Rows.{CannotPublish}

-- no bid of a child waits to be learnt
abbrev pub NoBids : PlanData → Core → ℕ → Type 0
NoBids plan c x = (k : ℕ) → k < length (children_of plan.entries x) → (link_at c.links x k).up.offered ≡ (link_at c.links x k).up.taken

-- a concentrator can publish nothing, and the auctioneer learnt nothing since its last clearing
pub record NothingToSend (plan : PlanData) (c : Core) (x : ℕ) : Type 0 where
  pub concentrator : IsConcentrator (plan_lists plan) x → CannotPublish (concentrator_of c x)
  pub auctioneer : x ≡ 0 → c.auctioneer.changed ≡ false

-- no price waits to be taken
abbrev pub NoPrice : PlanData → Core → ℕ → Type 0
NoPrice plan c x = IsNode (plan_lists plan) x → (uplink_of plan c x).down.offered ≡ (uplink_of plan c x).down.taken

-- nothing waits on the links of a node to its children
abbrev pub NothingBelow : PlanData → Core → ℕ → Type 0
NothingBelow plan c x = (k : ℕ) → k < length (children_of plan.entries x) → IsTaken (link_at c.links x k)

-- a node waits for none of its children, none of them waits for it, and it can neither publish nor clear
pub record IsAtRest (plan : PlanData) (c : Core) (x : ℕ) : Type 0 where
  pub below : NothingBelow plan c x
  pub sends : NothingToSend plan c x
