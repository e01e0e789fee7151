-- The lines that a node adds to a phase's end, and when a phase may be closed.
use Rattle.std.specs.Prelude.{◌≡◌, ℕ, ℤ, ◌+◌, ◌<◌, true, if◌then◌else◌, List}
use Rattle.std.specs.Prelude.{[], ◌∷◌, length, slice_index_or, Option, Some, None, is_some}
use Rattle.pm_tree.specs.Entries.{place_of}
use Rattle.pm_cache.specs.Cache.{child_demand}
use Rattle.pm_session.specs.Ports.{Seat, held_by}
use Rattle.pm_session.specs.declared.price.Held.{Held}
use Rattle.pm_concentrator.specs.Concentrators.{Gathered}
use Rattle.pm_auctioneer.specs.Auctions.{Auction}
use Rattle.pm_market.specs.Lists.{parent, IsNode}
use Rattle.pm_stands.specs.Core.{cache_in, seat_at}
use Rattle.pm_stands.specs.Current.{power_by}
use Rattle.pm_base.specs.Cuts.{Cut}
use Rattle.pm_market.specs.Lists.{IsLeaf}
use Rattle.pm_plan.specs.Plans.{PlanData, phases, end_cut, is_member, is_limited}
use Rattle.pm_plan.specs.Auction.{member_line, limited_line}
use Rattle.pm_plan.specs.States.{state}
use Rattle.pm_plan.specs.declared.end.MemberLine.{MemberLine}
use Rattle.pm_plan.specs.declared.end.LimitedLine.{LimitedLine}
use Rattle.pm_plan.specs.Market.{plan_lists}
use Rattle.pm_stands.specs.Core.{Core}
use Rattle.pm_stands.specs.Quiet.{IsQuiet}
use Rattle.pm_cluster.specs.Next.{count_of}

-- the line of a node that is a member, and of one that is a limited concentrator
abbrev pub member_at : PlanData → Cut → ℕ → List MemberLine
member_at plan cut x = if is_member plan x (cut x) then (member_line plan (state plan) cut x ∷ []) else []

abbrev pub limited_at : PlanData → Cut → ℕ → List LimitedLine
limited_at plan cut x = if is_limited plan x then (limited_line plan (state plan) cut x ∷ []) else []

-- the changes made are those of the phases up to p
abbrev pub AreMade : PlanData → Cut → ℕ → Type 0
AreMade plan counts p = (d : ℕ) → IsLeaf (plan_lists plan) d → counts d ≡ end_cut plan p d

-- a phase is open, each device made all its changes of the phase, and nothing is pending
pub record MayClose (plan : PlanData) (c : Core) : Type 0 where
  pub open_phase : c.closed < phases plan
  pub made : AreMade plan (count_of c) (c.closed + 1)
  pub quiet : IsQuiet plan c

-- a device has its port, and its place in the entries of its parent; the step that it holds is one of these entries
pub record EntryTold (plan : PlanData) (auctioneer : Auction) (concentrators : List (Option Gathered)) (ports : List Seat) (d : ℕ) : Type 0 where
  pub here : IsNode (plan_lists plan) d
  pub port : d < length ports
  pub above : parent (plan_lists plan) d < length concentrators
  pub place : place_of plan.entries d < length (cache_in auctioneer concentrators (parent (plan_lists plan) d)).heads
  pub steps : (cache_in auctioneer concentrators (parent (plan_lists plan) d)).steps ≡ plan.basis.steps
  pub there : (parent (plan_lists plan) d ≡ 0 → ⊥) → is_some (slice_index_or concentrators (parent (plan_lists plan) d) None) ≡ true
  pub step : (price : Held) → held_by (seat_at ports d) ≡ Some price → price.step < plan.basis.steps

-- the power of a device in watts, by the price that it holds and the entry that its parent has of it
abbrev pub power_by_entry : PlanData → Auction → List (Option Gathered) → List Seat → ℕ → ℤ
power_by_entry plan auctioneer concentrators ports d =
    power_by (held_by (seat_at ports d)) (child_demand (cache_in auctioneer concentrators (parent (plan_lists plan) d)) (place_of plan.entries d))
