-- The price that a device holds, and that everyone holds the newest one if nothing is pending.
use Rattle.std.specs.Prelude.{◌≡◌, ℕ, ℤ, pos, true, if◌then◌else◌, List, Option, Some, None}
use Rattle.pm_bid.specs.Bids.{demand_at}
use Rattle.pm_bid.specs.Limited.{local_step}
use Rattle.pm_cache.specs.Cache.{aggregate_of}
use Rattle.pm_session.specs.Windows.{unanswered_count}
use Rattle.pm_session.specs.declared.price.Held.{Held}
use Rattle.pm_market.specs.Lists.{is_member, IsLeaf, IsConcentrator}
use Rattle.pm_market.specs.State.{State, last_index, clearings, cleared_cut}
use Rattle.pm_market.specs.Held.{holds_price}
use Rattle.pm_plan.specs.Plans.{PlanData}
use Rattle.pm_plan.specs.Auction.{total, plain_step}
use Rattle.pm_plan.specs.States.{state}
use Rattle.pm_plan.specs.Market.{plan_lists}
use Rattle.pm_offer.specs.Offers.{local_step_at}
use Rattle.pm_plan.specs.declared.end.LimitedLine.{LimitedLine}
use Rattle.pm_session.specs.Ports.{held_by}
use Rattle.pm_stands.specs.Core.{Core, limits_at, concentrator_of, seat_of, demand_of_child}

-- the price that a device holds: that of the clearing passed to it last, unless it is of a former membership
abbrev pub held_price : PlanData → State → ℕ → Option Held
held_price plan s d =
    if holds_price (plan_lists plan) s d
    then Some (record { step = local_step_at plan (cleared_cut s (last_index s d)) d; number = cleared_cut s (last_index s d) d; index = last_index s d })
    else None

-- everything is over all current bids: the last clearing is of all changes made; each member holds its local step over
-- them; the auctioneer's sum is the total, and its step that of the plain auction; and nothing of a concentrator is
-- unanswered
pub record IsCurrent (plan : PlanData) (c : Core) (s : State) : Type 0 where
  pub cleared : (d : ℕ) → IsLeaf (plan_lists plan) d → cleared_cut s (clearings s) d ≡ s.counts d
  pub held : (d : ℕ) → IsLeaf (plan_lists plan) d → is_member (plan_lists plan) d (s.counts d) ≡ true →
      held_price plan s d ≡ Some (record { step = local_step_at plan s.counts d; number = s.counts d; index = clearings s })
  pub aggregate : aggregate_of c.auctioneer.cache ≡ total plan (state plan) s.counts
  pub step : c.auctioneer.step ≡ plain_step plan (state plan) s.counts
  pub windows : (y : ℕ) → IsConcentrator (plan_lists plan) y → unanswered_count (concentrator_of c y).window ≡ 0

-- what a device takes by its held price and its parent's entry of it
abbrev pub power_by : Option Held → List ℤ → ℤ
power_by None demand = pos 0
power_by (Some price) demand = demand_at demand price.step

abbrev pub kept_power : PlanData → Core → ℕ → ℤ
kept_power plan c d = power_by (held_by (seat_of c d)) (demand_of_child plan c d)

-- the line of a limited concentrator by the auctioneer's step and the sum of its children's bids
abbrev pub kept_step : PlanData → Core → ℕ → ℕ
kept_step plan c g = local_step (limits_at plan g) c.auctioneer.step (aggregate_of (concentrator_of c g).cache)

abbrev pub kept_line : PlanData → Core → ℕ → LimitedLine
kept_line plan c g = record { node = g; step = kept_step plan c g; total = demand_at (aggregate_of (concentrator_of c g).cache) (kept_step plan c g) }
