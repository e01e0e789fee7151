-- The relation by which a cluster stands for a state of the market: one clause for each part that is kept.
--
-- A cluster keeps numbers, running sums and at most the records of a window; a state of the market keeps whole cuts for
-- good, and no sums. The state cannot be computed from what is kept, so this is a relation.
use Rattle.std.specs.Prelude.{◌≡◌, ℕ, ◌<◌, ◌≤◌, true, pos, if◌then◌else◌, not, ◌==◌, length, slice_index_or, Some, None}
use Rattle.pm_bid.specs.declared.head.BidHead.{BidHead}
use Rattle.pm_bid.specs.Clearing.{clearing_step}
use Rattle.pm_tree.specs.Entries.{place_of}
use Rattle.pm_market.specs.Lists.{Lists, parent, is_member, IsNode, IsLeaf, IsConcentrator}
use Rattle.pm_market.specs.State.{State, is_same_on, cut_at, newest_number_of, part, knowledge, number, last_index, clearings, cleared_cut}
use Rattle.pm_market.specs.Held.{last_join}
use Rattle.pm_market.specs.Moves.{Legal, step}
use Rattle.pm_market.specs.Sound.{Sound}
use Rattle.pm_market.specs.declared.moves.Move.{Move}
use Rattle.pm_laws.specs.Due.{is_due, IsNewestDue}
use Rattle.pm_laws.specs.Gone.{is_gone}
use Rattle.pm_session.specs.Links.{UpBid}
use Rattle.pm_session.specs.Ways.{Waits}
use Rattle.pm_session.specs.Windows.{Keeps, record_of}
use Rattle.pm_session.specs.Prices.{head_at}
use Rattle.pm_session.specs.declared.price.PriceUpdate.{PriceUpdate}
use Rattle.pm_concentrator.specs.Limited.{sum_kept}
use Rattle.pm_concentrator.specs.Concentrators.{published_heads}
use Rattle.pm_plan.specs.Plans.{PlanData, end_cut}
use Rattle.pm_plan.specs.Auction.{power}
use Rattle.pm_plan.specs.States.{state}
use Rattle.pm_plan.specs.Market.{plan_lists}
use Rattle.pm_offer.specs.Offers.{offer, children_sum, local_step_at}
use Rattle.pm_stands.specs.Core.{Core, IsShaped, limits_at, uplink_of, concentrator_of, head_of_child, demand_of_child, seat_of}

-- the head of bid n of a node
abbrev pub head_for : Lists → ℕ → ℕ → BidHead
head_for lists x n = record { number = n; gone = is_gone lists x n }

-- a bid that waits on its way up: newer than the one learnt last, and what the node offers over its number's part
pub record BidAgrees (plan : PlanData) (s : State) (x : ℕ) (bid : UpBid) : Type 0 where
  pub above : s.learnt x < bid.number
  pub within : bid.number ≤ newest_number_of (plan_lists plan) s x
  pub demand : bid.demand ≡ offer plan x (part (plan_lists plan) s x bid.number)
  pub gone : bid.gone ≡ is_gone (plan_lists plan) x bid.number

-- a price that waits on its way down: newer than the one passed last, to be passed to the node, and with the node's
-- local step and number in the cut of its clearing
pub record PriceAgrees (plan : PlanData) (s : State) (x : ℕ) (price : PriceUpdate) : Type 0 where
  pub above : last_index s x < price.index
  pub due : is_due (plan_lists plan) s x price.index ≡ true
  pub step : price.step ≡ local_step_at plan (cleared_cut s price.index) x
  pub number : price.number ≡ number (plan_lists plan) s x (cleared_cut s price.index)

-- a cluster stands for a state
pub record StandsFor (plan : PlanData) (c : Core) (s : State) : Type 0 where
  pub sound : Sound (plan_lists plan) s
  pub shaped : IsShaped plan c
  -- the devices: changes made, states, and the powers at the end of the phase closed last
  pub counts : (d : ℕ) → IsLeaf (plan_lists plan) d → slice_index_or c.counts d 0 ≡ s.counts d
  pub closed : c.closed ≡ s.closed
  pub states : (d : ℕ) → IsLeaf (plan_lists plan) d → slice_index_or c.states d (pos 0) ≡ state plan d (s.counts d)
  pub powers : (d : ℕ) → IsLeaf (plan_lists plan) d → 0 < s.closed →
      slice_index_or c.powers d (pos 0) ≡ power plan (state plan) (end_cut plan s.closed) d
  -- at each parent the entry of the child: the number learnt last, and what the child offers over that number's part
  pub heads : (x : ℕ) → IsNode (plan_lists plan) x → head_of_child plan c x ≡ head_for (plan_lists plan) x (s.learnt x)
  pub demands : (x : ℕ) → IsNode (plan_lists plan) x → demand_of_child plan c x ≡ offer plan x (part (plan_lists plan) s x (s.learnt x))
  -- on the way up
  pub bid_offered : (x : ℕ) → IsNode (plan_lists plan) x → (uplink_of plan c x).up.offered ≡ newest_number_of (plan_lists plan) s x
  pub bid_taken : (x : ℕ) → IsNode (plan_lists plan) x → (uplink_of plan c x).up.taken ≡ s.learnt x
  pub bids : (x : ℕ) → IsNode (plan_lists plan) x → (bid : UpBid) → Waits (uplink_of plan c x).up bid → BidAgrees plan s x bid
  -- on the way down
  pub price_offered : (x : ℕ) → IsNode (plan_lists plan) x → IsNewestDue (plan_lists plan) s x (uplink_of plan c x).down.offered
  pub price_taken : (x : ℕ) → IsNode (plan_lists plan) x → (uplink_of plan c x).down.taken ≡ last_index s x
  pub prices : (x : ℕ) → IsNode (plan_lists plan) x → (price : PriceUpdate) → Waits (uplink_of plan c x).down price → PriceAgrees plan s x price
  -- the window of a concentrator: the numbers from the one answered last to the newest; of each record the children's
  -- numbers, and the sum if there are limits; and the newest record's numbers, at first those of the opening
  pub window_last : (y : ℕ) → IsConcentrator (plan_lists plan) y → (concentrator_of c y).window.last ≡ newest_number_of (plan_lists plan) s y
  pub window_answered : (y : ℕ) → IsConcentrator (plan_lists plan) y →
      (concentrator_of c y).window.answered ≡ number (plan_lists plan) s y (cleared_cut s (last_index s y))
  pub records : (x n : ℕ) → IsNode (plan_lists plan) x → IsConcentrator (plan_lists plan) (parent (plan_lists plan) x) →
      Keeps (concentrator_of c (parent (plan_lists plan) x)).window n →
      head_at (record_of (concentrator_of c (parent (plan_lists plan) x)).window n).heads (place_of plan.entries x)
      ≡ head_for (plan_lists plan) x (number (plan_lists plan) s x (cut_at (s.published (parent (plan_lists plan) x)) n))
  pub sums : (y n : ℕ) → IsConcentrator (plan_lists plan) y → Keeps (concentrator_of c y).window n →
      (record_of (concentrator_of c y).window n).sum ≡ sum_kept (limits_at plan y) (children_sum plan y (cut_at (s.published y) n))
  pub newest_heads : (x : ℕ) → IsNode (plan_lists plan) x → IsConcentrator (plan_lists plan) (parent (plan_lists plan) x) →
      head_at (published_heads (concentrator_of c (parent (plan_lists plan) x))) (place_of plan.entries x)
      ≡ head_for (plan_lists plan) x (number (plan_lists plan) s x
      (cut_at (s.published (parent (plan_lists plan) x)) (length (s.published (parent (plan_lists plan) x)))))
  -- the auctioneer: the index and the step of the last clearing, and whether something was learnt since
  pub index : c.auctioneer.index ≡ clearings s
  pub auction_step : c.auctioneer.step ≡ (if clearings s == 0
      then 0
      else clearing_step (children_sum plan 0 (cleared_cut s (clearings s))))
  pub changed : c.auctioneer.changed ≡ not (is_same_on (plan_lists plan) 0 (knowledge (plan_lists plan) s 0) (cleared_cut s (clearings s)))
  -- the ports: the last join while the device is a member, and the price passed to it last
  pub joined : (d : ℕ) → IsLeaf (plan_lists plan) d → (seat_of c d).joined
      ≡ (if is_member (plan_lists plan) d (s.counts d)
      then Some (last_join (plan_lists plan) d (s.counts d))
      else None)
  pub given_none : (d : ℕ) → IsLeaf (plan_lists plan) d → last_index s d ≡ 0 → (seat_of c d).given ≡ None
  pub given : (d : ℕ) → IsLeaf (plan_lists plan) d → 0 < last_index s d → (seat_of c d).given
      ≡ Some (record { step = local_step_at plan (cleared_cut s (last_index s d)) d; number = cleared_cut s (last_index s d) d; index = last_index s d })

-- a cluster stands for some state
pub record Stands (plan : PlanData) (c : Core) : Type 0 where
  pub state : State
  pub is : StandsFor plan c state

-- a move was made that was legal, and the cluster stands for the state after it
pub record MakesMove (plan : PlanData) (new : Core) (s : State) (m : Move) : Type 0 where
  pub legal : Legal (plan_lists plan) s m
  pub stands : StandsFor plan new (step (plan_lists plan) s m)
