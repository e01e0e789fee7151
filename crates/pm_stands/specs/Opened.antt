-- A cluster that was just opened.
use Rattle.std.specs.Prelude.{◌≡◌, ℕ, pos, false, slice_index_or, None}
use Rattle.pm_bid.specs.Bids.{zeros}
use Rattle.pm_bid.specs.Heads.{nothing_sent}
use Rattle.pm_tree.specs.Entries.{place_of}
use Rattle.pm_market.specs.Lists.{parent, IsNode, IsLeaf, IsConcentrator}
use Rattle.pm_session.specs.Links.{new_session}
use Rattle.pm_session.specs.Prices.{head_at}
use Rattle.pm_concentrator.specs.Concentrators.{published_heads}
use Rattle.pm_plan.specs.Plans.{PlanData}
use Rattle.pm_plan.specs.States.{state}
use Rattle.pm_plan.specs.Market.{plan_lists}
use Rattle.pm_stands.specs.Core.{Core, IsShaped, uplink_of, concentrator_of, head_of_child, demand_of_child, seat_of}

-- nothing was changed, sent, cleared or passed, and each device is in its start
pub record IsOpened (plan : PlanData) (c : Core) : Type 0 where
  pub shaped : IsShaped plan c
  pub counts : (d : ℕ) → IsLeaf (plan_lists plan) d → slice_index_or c.counts d 0 ≡ 0
  pub states : (d : ℕ) → IsLeaf (plan_lists plan) d → slice_index_or c.states d (pos 0) ≡ state plan d 0
  pub closed : c.closed ≡ 0
  pub heads : (x : ℕ) → IsNode (plan_lists plan) x → head_of_child plan c x ≡ nothing_sent
  pub demands : (x : ℕ) → IsNode (plan_lists plan) x → demand_of_child plan c x ≡ zeros plan.basis.steps
  pub sessions : (x : ℕ) → IsNode (plan_lists plan) x → uplink_of plan c x ≡ new_session plan.basis.steps
  pub answered : (y : ℕ) → IsConcentrator (plan_lists plan) y → (concentrator_of c y).window.answered ≡ 0
  pub sent : (y : ℕ) → IsConcentrator (plan_lists plan) y → (concentrator_of c y).window.last ≡ 0
  pub newest_heads : (x : ℕ) → IsNode (plan_lists plan) x → IsConcentrator (plan_lists plan) (parent (plan_lists plan) x) →
      head_at (published_heads (concentrator_of c (parent (plan_lists plan) x))) (place_of plan.entries x) ≡ nothing_sent
  pub index : c.auctioneer.index ≡ 0
  pub auction_step : c.auctioneer.step ≡ 0
  pub changed : c.auctioneer.changed ≡ false
  pub seats : (d : ℕ) → IsLeaf (plan_lists plan) d → seat_of c d ≡ record { joined = None; given = None }
