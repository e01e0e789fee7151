-- What the turns of a phase keep true of the nodes, whatever their order: each message that came says what its number says.
use Rattle.std.specs.Prelude.{◌≡◌, ℕ, ◌<◌, ◌≤◌, true, false, length, Some, None, Contains}
use Rattle.pm_bid.specs.Clearing.{clearing_step}
use Rattle.pm_bid.specs.Limited.{within_limits}
use Rattle.pm_tree.specs.Entries.{children_of, place_of}
use Rattle.pm_market.specs.Lists.{nodes, parent, IsNode, IsLeaf, IsInner, IsConcentrator}
use Rattle.pm_cache.specs.Cache.{aggregate_of}
use Rattle.pm_session.specs.Windows.{newest_record}
use Rattle.pm_session.specs.Prices.{head_at}
use Rattle.pm_session.specs.declared.price.PriceUpdate.{PriceUpdate}
use Rattle.pm_concentrator.specs.Concentrators.{Gathered, published_heads}
use Rattle.pm_concentrator.specs.Limited.{sum_kept, local_step_of_record}
use Rattle.pm_auctioneer.specs.Auctions.{Auction}
use Rattle.pm_plan.specs.Plans.{PlanData, node, limits_of, is_member}
use Rattle.pm_plan.specs.Market.{plan_lists}
use Rattle.pm_offer.specs.Offers.{device_demand}
use Rattle.pm_carried.specs.Carried.{Carried, cache_at, entry_head, entry_demand, last_price}

-- each cache has an entry for each child over the steps of the plan, and each concentrator the plan's limits
pub record HasPlanShape (plan : PlanData) (c : Carried) : Type 0 where
  pub steps : (y : ℕ) → y ≤ nodes (plan_lists plan) → IsInner (plan_lists plan) y → (cache_at c y).steps ≡ plan.basis.steps
  pub demands : (y : ℕ) → y ≤ nodes (plan_lists plan) → IsInner (plan_lists plan) y →
      length (cache_at c y).demands ≡ length (children_of plan.entries y)
  pub limits : (y : ℕ) → IsConcentrator (plan_lists plan) y → (c.concentrators y).limits ≡ limits_of (node plan y)

-- the entry of a device is what its change of that number says
pub record TellsDevice (plan : PlanData) (c : Carried) (d : ℕ) : Type 0 where
  pub demand : entry_demand plan c d ≡ device_demand plan d (entry_head plan c d).number

-- a concentrator that has nothing to send: its newest record has the sum of its children, and if its parent has its newest
-- number, the parent's entry is the bid of this sum. Number 0 is the opening, which has no sum.
pub record TellsConcentrator (plan : PlanData) (c : Carried) (y : ℕ) : Type 0 where
  pub sum : (c.concentrators y).cache.heads ≡ published_heads (c.concentrators y) → 1 ≤ (c.concentrators y).window.last →
      (newest_record (c.concentrators y).window).sum ≡ sum_kept (c.concentrators y).limits (aggregate_of (c.concentrators y).cache)
  pub demand : (c.concentrators y).cache.heads ≡ published_heads (c.concentrators y) →
      (entry_head plan c y).number ≡ (c.concentrators y).window.last →
      entry_demand plan c y ≡ within_limits (c.concentrators y).limits (aggregate_of (c.concentrators y).cache)

-- the auctioneer has the step at which its children's sum clears, if it learnt nothing since
abbrev pub TellsAuction : Auction → Type 0
TellsAuction a = a.changed ≡ false → a.step ≡ clearing_step (aggregate_of a.cache)

-- a price of the auctioneer: one with the index of the last clearing has its step, and names the bid that the auctioneer has
pub record IsOfAuction (plan : PlanData) (c : Carried) (x : ℕ) (price : PriceUpdate) : Type 0 where
  pub step : price.index ≡ c.auctioneer.index → c.auctioneer.changed ≡ false → price.step ≡ c.auctioneer.step
  pub number : price.index ≡ c.auctioneer.index → c.auctioneer.changed ≡ false → price.number ≡ (entry_head plan c x).number

-- a price of a concentrator to the child in a place: a price with the same index came from above, and named a bid; if it names
-- the newest bid, this one names the child's bid that went into that, and has the local step
pub record IsPassedDown (g : Gathered) (place : ℕ) (above price : PriceUpdate) : Type 0 where
  pub index : above.index ≡ price.index
  pub named : 1 ≤ above.number
  pub number : above.number ≡ g.window.last → price.number ≡ (head_at (published_heads g) place).number
  pub step : above.number ≡ g.window.last →
      price.step ≡ local_step_of_record g.limits above.step (newest_record g.window).sum

pub record IsOfConcentrator (plan : PlanData) (c : Carried) (x : ℕ) (price : PriceUpdate) : Type 0 where
  pub above : PriceUpdate
  pub came : Contains (c.came (parent (plan_lists plan) x)) above
  pub passed : IsPassedDown (c.concentrators (parent (plan_lists plan) x)) (place_of plan.entries x) above price

-- a device's port: it is joined exactly if the device is a member after the changes made, by one of these changes; and it was
-- given the price that came last
pub record IsSeated (plan : PlanData) (c : Carried) (d : ℕ) : Type 0 where
  pub joined : is_member plan d (c.made d) ≡ true → (join : ℕ) × ((c.seats d).joined ≡ Some join) × (join ≤ c.made d)
  pub left : is_member plan d (c.made d) ≡ false → (c.seats d).joined ≡ None
  pub given : (price : PriceUpdate) → last_price (c.came d) ≡ Some price → price.step < plan.basis.steps →
      (c.seats d).given ≡ Some price

pub record TellsByNumber (plan : PlanData) (c : Carried) : Type 0 where
  pub shaped : HasPlanShape plan c
  pub auction : TellsAuction c.auctioneer
  pub devices : (d : ℕ) → IsLeaf (plan_lists plan) d → TellsDevice plan c d
  pub concentrators : (y : ℕ) → IsConcentrator (plan_lists plan) y → TellsConcentrator plan c y
  pub seats : (d : ℕ) → IsLeaf (plan_lists plan) d → IsSeated plan c d
  pub root_prices : (x : ℕ) (price : PriceUpdate) → IsNode (plan_lists plan) x → parent (plan_lists plan) x ≡ 0 →
      Contains (c.came x) price → IsOfAuction plan c x price
  pub prices : (x : ℕ) (price : PriceUpdate) → IsNode (plan_lists plan) x → IsConcentrator (plan_lists plan) (parent (plan_lists plan) x) →
      Contains (c.came x) price → IsOfConcentrator plan c x price
