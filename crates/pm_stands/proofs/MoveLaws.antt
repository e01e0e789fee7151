-- What a Learn, a Publish and a Clear need and make, in the order of the clauses.
use Rattle.std.proofs.Common.{◌≡◌, ℕ, ◌↔◌, false, List, Option}
use Rattle.pm_tree.specs.Entries.{place_of}
use Rattle.pm_cache.specs.Learning.{bid_demand}
use Rattle.pm_session.specs.Links.{Session, UpBid, BidTaken, NothingWaited}
use Rattle.pm_concentrator.specs.Concentrators.{Gathered}
use Rattle.pm_auctioneer.specs.Auctions.{Auction}
use Rattle.pm_market.specs.Lists.{parent, IsNode, IsConcentrator}
use Rattle.pm_market.specs.State.{State}
use Rattle.pm_market.specs.Moves.{Legal, Idle}
use Rattle.pm_market.specs.declared.moves.Move.TheVariants.{Learn, Publish, Clear}
use Rattle.pm_plan.specs.Kept.{IsPlan}
use Rattle.pm_plan.specs.Plans.{PlanData}
use Rattle.pm_plan.specs.Market.{plan_lists}
use Rattle.pm_stands.specs.Core.{Core, row_at, uplink_of, concentrator_of, node_cache}
use Rattle.pm_stands.specs.Rows.{CannotPublish}
use Rattle.pm_stands.specs.Made.{DidLearn, learnt_core, DidPublish, published_core, DidClear, cleared_core}
use Rattle.pm_stands.specs.Needs.{MayLearn, MayPublish, MayClear}
use Rattle.pm_stands.specs.Quiet.{IsQuiet}
use Rattle.pm_stands.specs.Stands.{StandsFor, Stands, MakesMove}
use Rattle.pm_stands.proofs.Made.{learn_did, may_learn_at, cannot_learn, publish_did, cannot_publish, clear_did}
use Rattle.pm_stands.proofs.MayPublish.{may_publish}
use Rattle.pm_stands.proofs.MayClear.{may_clear, cannot_clear}
use Rattle.pm_stands.proofs.Idle.{idle_is}
use Rattle.std.proofs.Common.{refl}

-- ---- a parent learns

-- What was taken and learnt made the Learn of that child and number.
pub learning_made : (plan : PlanData) (c : Core) (s : State) (x : ℕ) (links : List (List Session)) (auctioneer : Auction)
    (concentrators : List (Option Gathered)) (bid : UpBid) → IsPlan plan → StandsFor plan c s → IsNode (plan_lists plan) x →
    DidLearn c links auctioneer concentrators bid (parent (plan_lists plan) x) (place_of plan.entries x) →
    MakesMove plan (learnt_core c links auctioneer concentrators) s (Learn x bid.number)
learning_made plan c s x links auctioneer concentrators bid is_plan stands node did =
    learn_did plan is_plan c s stands x (parent (plan_lists plan) x) (place_of plan.entries x) node refl refl links auctioneer concentrators bid did

-- A bid that was taken may be learnt, and is newer.
pub learning_condition : (plan : PlanData) (c : Core) (x : ℕ) (bid : UpBid) (new : Session) → IsPlan plan → ∥ Stands plan c ∥₁ →
    IsNode (plan_lists plan) x → BidTaken (uplink_of plan c x) new bid →
    MayLearn (node_cache c (parent (plan_lists plan) x)) (place_of plan.entries x) bid.number (bid_demand bid.gone bid.demand)
learning_condition plan c x bid new is_plan stands node taken =
    may_learn_at plan is_plan c stands x (parent (plan_lists plan) x) (place_of plan.entries x) node refl refl bid new taken

-- Where nothing waited no Learn of the child is legal.
pub learning_nothing : (plan : PlanData) (c : Core) (s : State) (x n : ℕ) (new : Session) → StandsFor plan c s →
    NothingWaited (uplink_of plan c x).up (uplink_of plan c x) new → Legal (plan_lists plan) s (Learn x n) → ⊥
learning_nothing plan c s x n new stands nothing legal =
    cannot_learn plan c s stands x (parent (plan_lists plan) x) (place_of plan.entries x) refl refl new nothing n legal

-- ---- a concentrator publishes

-- What was published made the Publish under the next number.
pub publishing_made : (plan : PlanData) (c : Core) (s : State) (x : ℕ) (links : List (List Session)) (concentrators : List (Option Gathered)) (n : ℕ) →
    IsPlan plan → StandsFor plan c s → IsConcentrator (plan_lists plan) x →
    DidPublish c x links concentrators n (parent (plan_lists plan) x) (place_of plan.entries x) →
    MakesMove plan (published_core c links concentrators) s (Publish x n)
publishing_made plan c s x links concentrators n is_plan stands conc did =
    publish_did plan is_plan c s stands x (parent (plan_lists plan) x) (place_of plan.entries x) conc refl refl links concentrators n did

-- What the code needs in order to publish holds.
pub publishing_condition : (plan : PlanData) (c : Core) (x : ℕ) → IsPlan plan → ∥ Stands plan c ∥₁ →
    IsConcentrator (plan_lists plan) x → MayPublish (concentrator_of c x) (uplink_of plan c x)
publishing_condition plan c x is_plan stands conc = may_publish plan is_plan c stands x conc

-- Where there is nothing to publish, or the window is full, no Publish of the concentrator is legal.
pub publishing_nothing : (plan : PlanData) (c : Core) (s : State) (x n : ℕ) → IsPlan plan → StandsFor plan c s → CannotPublish (concentrator_of c x) →
    Legal (plan_lists plan) s (Publish x n) → ⊥
publishing_nothing plan c s x n is_plan stands cannot legal = cannot_publish plan is_plan c s stands x legal.0 cannot n legal

-- ---- the auctioneer clears

-- A clearing made the Clear under the next index.
pub clearing_made : (plan : PlanData) (c : Core) (s : State) (links : List (List Session)) (auctioneer : Auction) (index step : ℕ) →
    IsPlan plan → StandsFor plan c s → DidClear c links auctioneer index step → MakesMove plan (cleared_core c links auctioneer) s (Clear index)
clearing_made plan c s links auctioneer index step is_plan stands did = clear_did plan is_plan c s stands links auctioneer index step did

-- What the code needs in order to clear holds.
pub clearing_condition : (plan : PlanData) (c : Core) → IsPlan plan → ∥ Stands plan c ∥₁ → MayClear c.auctioneer (row_at c.links 0)
clearing_condition plan c is_plan stands = may_clear plan is_plan c stands

-- Where nothing was learnt since the last clearing no Clear is legal.
pub clearing_nothing : (plan : PlanData) (c : Core) (s : State) (index : ℕ) → StandsFor plan c s → c.auctioneer.changed ≡ false →
    Legal (plan_lists plan) s (Clear index) → ⊥
clearing_nothing plan c s index stands none legal = cannot_clear plan c s stands none index legal

-- ---- nothing is pending

-- Nothing is pending exactly where no node move is legal.
pub quiet_is_idle : (plan : PlanData) (c : Core) (s : State) → IsPlan plan → StandsFor plan c s → IsQuiet plan c ↔ Idle (plan_lists plan) s
quiet_is_idle plan c s is_plan stands = idle_is plan is_plan c s stands
