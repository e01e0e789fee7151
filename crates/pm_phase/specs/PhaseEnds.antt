-- What a phase leaves of each node, with the two ends of the link above it.
use Rattle.std.specs.Prelude.{◌≡◌, ℕ, ◌+◌, All}
use Rattle.pm_cache.specs.Cache.{Cache, child_head, child_demand}
use Rattle.pm_cells.specs.Ends.{LinkEnd}
use Rattle.pm_market.specs.Lists.{parent, IsNode, IsLeaf, IsConcentrator}
use Rattle.pm_offer.specs.Offers.{device_demand}
use Rattle.pm_plan.specs.Plans.{PlanData}
use Rattle.pm_plan.specs.Market.{plan_lists}
use Rattle.pm_tree.specs.Entries.{place_of}
use Rattle.pm_carried.specs.Carried.{Carried, cache_at}
use Rattle.pm_carried.specs.Kept.{HasPlanShape, TellsAuction}
use Rattle.pm_phase.specs.Closing.{TookThose}
use Rattle.pm_phase.specs.KeepingParents.{TellsBidMessage}
use Rattle.pm_phase.specs.Messages.{prices_among}
use Rattle.pm_phase.specs.Telling.{KeepsDevice}
use Rattle.pm_phase.specs.TellingParents.{bids_among, EntryCame, KeepsRecord, TellsSum, FollowsAbove, FollowsClearing}
use Rattle.pm_phase.specs.declared.device.DevicePart.{DevicePart}
use Rattle.pm_phase.specs.declared.matcher.Matcher.TheVariants.{Concentrator}

-- a device with its end of the link, and what its parent's cache had of it before the phase
pub record DeviceLeft (plan : PlanData) (was : Cache) (c : Carried) (d : ℕ) (end : LinkEnd) : Type 0 where
  pub before : ℕ
  pub device : DevicePart
  pub keeps : KeepsDevice plan d before device end
  pub seat : c.seats d ≡ device.port
  pub made : c.made d ≡ before + device.made
  pub entry : child_demand was (place_of plan.entries d) ≡ device_demand plan d (child_head was (place_of plan.entries d)).number

-- a concentrator with its end of the link, and what its parent's cache had of it before the phase
pub record ConcentratorLeft (plan : PlanData) (was : Cache) (c : Carried) (y : ℕ) (end : LinkEnd) : Type 0 where
  pub keeps : KeepsRecord (c.concentrators y)
  pub sent : All (TellsBidMessage (Concentrator (c.concentrators y))) end.known.up.sent
  pub entry : TellsSum (c.concentrators y) (child_head was (place_of plan.entries y)).number (child_demand was (place_of plan.entries y))

-- a node and the link above it: what was taken from the link was put on it; the entry of the node in its parent's cache came over
-- the link, or is as before the phase; and each price that the parent put tells what it is to
pub record NodeLeft (plan : PlanData) (c : Carried) (x : ℕ) : Type 0 where
  pub child_end : LinkEnd
  pub parent_end : LinkEnd
  pub was : Cache
  pub took : TookThose child_end parent_end
  pub entry : EntryCame was (cache_at c (parent (plan_lists plan) x)) (place_of plan.entries x) (bids_among parent_end.known.up.received)
  pub came : c.came x ≡ prices_among child_end.known.down.received
  pub device : IsLeaf (plan_lists plan) x → DeviceLeft plan was c x child_end
  pub concentrator : IsConcentrator (plan_lists plan) x → ConcentratorLeft plan was c x child_end
  pub root_prices : parent (plan_lists plan) x ≡ 0 →
      All (FollowsClearing c.auctioneer (place_of plan.entries x)) (prices_among parent_end.known.down.sent)
  pub prices : IsConcentrator (plan_lists plan) (parent (plan_lists plan) x) →
      All (FollowsAbove (c.concentrators (parent (plan_lists plan) x)) (c.came (parent (plan_lists plan) x)) (place_of plan.entries x))
      (prices_among parent_end.known.down.sent)

-- all nodes, with the auctioneer
pub record AreNodesLeft (plan : PlanData) (c : Carried) : Type 0 where
  pub shaped : HasPlanShape plan c
  pub auction : TellsAuction c.auctioneer
  pub nodes : (x : ℕ) → IsNode (plan_lists plan) x → NodeLeft plan c x
