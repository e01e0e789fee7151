-- When a phase is settled: a test on numbers alone.
use Rattle.std.specs.Prelude.{◌≡◌, ℕ, true, false, Some}
use Rattle.pm_base.specs.Cuts.{Cut}
use Rattle.pm_market.specs.Lists.{IsLeaf, IsConcentrator}
use Rattle.pm_session.specs.declared.price.PriceUpdate.{PriceUpdate}
use Rattle.pm_concentrator.specs.Concentrators.{published_heads}
use Rattle.pm_plan.specs.Plans.{PlanData, is_member}
use Rattle.pm_plan.specs.Market.{plan_lists}
use Rattle.pm_carried.specs.Carried.{Carried, entry_head, last_price}

-- the price that came last in the phase has this index
pub record CameLast (c : Carried) (x at : ℕ) : Type 0 where
  pub price : PriceUpdate
  pub last : last_price (c.came x) ≡ Some price
  pub index : price.index ≡ at

-- each device made its changes, and its parent has the bid of the last; each concentrator has nothing to send, and its parent
-- has its newest number; the auctioneer learnt nothing since its last clearing, and the price that came to each member last is
-- of that clearing
pub record IsSettledOver (plan : PlanData) (cut : Cut) (c : Carried) : Type 0 where
  pub made : (d : ℕ) → IsLeaf (plan_lists plan) d → c.made d ≡ cut d
  pub learnt : (d : ℕ) → IsLeaf (plan_lists plan) d → (entry_head plan c d).number ≡ cut d
  pub sent : (y : ℕ) → IsConcentrator (plan_lists plan) y → (c.concentrators y).cache.heads ≡ published_heads (c.concentrators y)
  pub taken : (y : ℕ) → IsConcentrator (plan_lists plan) y → (entry_head plan c y).number ≡ (c.concentrators y).window.last
  pub cleared : c.auctioneer.changed ≡ false
  pub prices : (d : ℕ) → IsLeaf (plan_lists plan) d → is_member plan d (cut d) ≡ true → CameLast c d c.auctioneer.index
