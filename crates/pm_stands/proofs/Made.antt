-- Moves as the code makes them, by the parent's number and the place that it read.
use Rattle.std.proofs.Common.{◌≡◌, ◌∙◌, ap, ℕ, ◌<◌, List, length, Option, arith, inl, inr}
use Rattle.std.proofs.Math.Logic.{∥∥₁_elim}
use Rattle.std.proofs.Props.{props}
use Rattle.std.proofs.lemmas.Bool.{both_ways}
use Rattle.pm_base.specs.Cuts.{Cut}
use Rattle.pm_tree.specs.Entries.{place_of}
use Rattle.pm_market.specs.Lists.{Lists, parent, IsNode, IsConcentrator}
use Rattle.pm_market.specs.State.{State, is_same_on, cut_at, newest_number_of, part, knowledge}
use Rattle.pm_market.specs.Moves.{Legal, step}
use Rattle.pm_market.specs.declared.moves.Move.TheVariants.{Learn, Publish, Clear}
use Rattle.pm_market.proofs.Cuts.{part_inner, newest_inner}
use Rattle.pm_cache.specs.Cache.{Cache, kept_number}
use Rattle.pm_cache.specs.Learning.{CanLearn, bid_demand}
use Rattle.pm_session.specs.Links.{Session, UpBid, BidTaken, NothingWaited}
use Rattle.pm_concentrator.specs.Faults.{NotPublished}
use Rattle.pm_concentrator.specs.declared.fault.PublishFault.{PublishFault}
use Rattle.pm_concentrator.specs.declared.fault.PublishFault.TheVariants.{NotChanged, WindowFull, NoMemory}
use Rattle.pm_concentrator.specs.Concentrators.{Gathered}
use Rattle.pm_auctioneer.specs.Auctions.{Auction}
use Rattle.pm_plan.specs.Kept.{IsPlan}
use Rattle.pm_plan.specs.Plans.{PlanData}
use Rattle.pm_plan.specs.Market.{plan_lists}
use Rattle.pm_stands.specs.Core.{Core, link_at, uplink_of, concentrator_of, node_cache}
use Rattle.pm_stands.specs.Rows.{CannotPublish}
use Rattle.pm_stands.specs.Stands.{StandsFor, Stands, MakesMove}
use Rattle.pm_stands.specs.Made.{DidLearn, learnt_core, DidPublish, published_core, DidClear, cleared_core}
use Rattle.pm_stands.specs.Needs.{MayLearn, MayPublish}
use Rattle.pm_stands.proofs.Places.{at_node, from_node}
use Rattle.pm_stands.proofs.Caches.{cache_inner}
use Rattle.pm_stands.proofs.MayPublish.{may_publish}
use Rattle.pm_stands.proofs.Learning.{learn_makes}
use Rattle.pm_stands.proofs.Publishing.{publish_makes, known_from_same}
use Rattle.pm_stands.proofs.Clearing.{clear_makes}
use Rattle.pm_stands.proofs.Demands.{can_learn, can_learn_prop}

-- A parent that took a bid from its child's link, and learnt it, made a Learn.
pub learn_did : (plan : PlanData) → IsPlan plan → (c : Core) (s : State) → StandsFor plan c s → (x y k : ℕ) → IsNode (plan_lists plan) x →
    y ≡ parent (plan_lists plan) x → k ≡ place_of plan.entries x →
    (links : List (List Session)) (auctioneer : Auction) (concentrators : List (Option Gathered)) (bid : UpBid) →
    DidLearn c links auctioneer concentrators bid y k → MakesMove plan (learnt_core c links auctioneer concentrators) s (Learn x bid.number)
learn_did plan is_plan c s stands x y k node e f links auctioneer concentrators bid did =
    let at = at_node plan x y k (DidLearn c links auctioneer concentrators bid) e f did in
    learn_makes plan is_plan c s stands x node links auctioneer concentrators bid at.taken at.one at.learnt

-- A bid that was taken from a child's link may be learnt, and is newer than the one learnt last.
pub may_learn_at : (plan : PlanData) → IsPlan plan → (c : Core) → ∥ Stands plan c ∥₁ → (x y k : ℕ) → IsNode (plan_lists plan) x →
    y ≡ parent (plan_lists plan) x → k ≡ place_of plan.entries x →
    (bid : UpBid) (new : Session) → BidTaken (link_at c.links y k) new bid → MayLearn (node_cache c y) k bid.number (bid_demand bid.gone bid.demand)
may_learn_at plan is_plan c stands x y k node e f bid new taken =
    let was = at_node plan x y k (λ (i j : ℕ). BidTaken (link_at c.links i j) new bid) e f taken in
    record {
      can = ∥∥₁_elim stands (can_learn_prop (node_cache c y) k (bid_demand bid.gone bid.demand)) (λ st.
          from_node plan x y k (λ (i j : ℕ). CanLearn (node_cache c i) j (bid_demand bid.gone bid.demand)) e f
          (can_learn plan is_plan c st.state st.is x node bid (st.is.bids x node bid was.up.waited)));
      newer = ∥∥₁_elim stands (Prim.hlevel props) (λ st.
          from_node plan x y k (λ (i j : ℕ). kept_number (node_cache c i) j < bid.number) e f
          (omega (arith, ap (λ h. h.number) (st.is.heads x node), was.up.above, st.is.bid_taken x node)));
    }

-- Where the bid that was offered last was taken, no Learn of the child is legal.
pub nothing_to_learn : (plan : PlanData) (c : Core) (s : State) → StandsFor plan c s → (x n : ℕ) →
    (uplink_of plan c x).up.offered ≡ (uplink_of plan c x).up.taken → Legal (plan_lists plan) s (Learn x n) → ⊥
nothing_to_learn plan c s stands x n none legal =
    omega (arith, legal.1, legal.2, stands.bid_offered x legal.0, stands.bid_taken x legal.0, none)

-- Where nothing waited on the child's link, no Learn of the child is legal.
pub cannot_learn : (plan : PlanData) (c : Core) (s : State) → StandsFor plan c s → (x y k : ℕ) →
    y ≡ parent (plan_lists plan) x → k ≡ place_of plan.entries x →
    (new : Session) → NothingWaited (link_at c.links y k).up (link_at c.links y k) new → (n : ℕ) → Legal (plan_lists plan) s (Learn x n) → ⊥
cannot_learn plan c s stands x y k e f new nothing n legal =
    let none = at_node plan x y k (λ (i j : ℕ). (link_at c.links i j).up.offered ≡ (link_at c.links i j).up.taken) e f nothing.offered in
    nothing_to_learn plan c s stands x n none legal

-- A concentrator that published made a Publish.
pub publish_did : (plan : PlanData) → IsPlan plan → (c : Core) (s : State) → StandsFor plan c s → (x y k : ℕ) →
    IsConcentrator (plan_lists plan) x →
    y ≡ parent (plan_lists plan) x → k ≡ place_of plan.entries x →
    (links : List (List Session)) (concentrators : List (Option Gathered)) (n : ℕ) →
    DidPublish c x links concentrators n y k → MakesMove plan (published_core c links concentrators) s (Publish x n)
publish_did plan is_plan c s stands x y k conc e f links concentrators n did =
    let at = at_node plan x y k (DidPublish c x links concentrators n) e f did in
    publish_makes plan is_plan c s stands x conc links concentrators n at.made at.one at.alone

-- Where a concentrator has nothing to publish, or a full window, no Publish of it is legal.
pub cannot_publish : (plan : PlanData) → IsPlan plan → (c : Core) (s : State) → StandsFor plan c s → (x : ℕ) →
    IsConcentrator (plan_lists plan) x →
    CannotPublish (concentrator_of c x) → (n : ℕ) → Legal (plan_lists plan) s (Publish x n) → ⊥
cannot_publish plan is_plan c s stands x conc cannot n legal =
    let lists : Lists = plan_lists plan in
    let newest_is = newest_inner lists s.counts s.published x conc.2 in
    let last_is : part lists s x (newest_number_of lists s x) ≡ cut_at (s.published x) (length (s.published x)) =
    part_inner lists s.published x (newest_number_of lists s x) conc.2 ∙ ap (cut_at (s.published x)) newest_is in
    let the_cache = cache_inner c.auctioneer c.concentrators x (λ z. omega (arith, conc.0)) in
    elim cannot [
      | inl same ↦
          let e = known_from_same plan is_plan c s stands x conc (ap (λ (q : Cache). q.heads) the_cache ∙ same) in
          both_ways (is_same_on lists x (knowledge lists s x) (part lists s x (newest_number_of lists s x))) legal.1
          (ap (λ (a : Cut). is_same_on lists x (knowledge lists s x) a) last_is ∙ e)
      | inr full ↦ omega (arith, legal.2, full, stands.window_last x conc, stands.window_answered x conc)
    ]

-- A publishing that was refused found nothing to publish, or a full window.
pub refused_cannot : (g : Gathered) (fault : PublishFault) → NotPublished g fault → CannotPublish g
refused_cannot g NotChanged refused = inl refused
refused_cannot g (WindowFull count) refused = inr refused.1
refused_cannot g NoMemory refused = absurd refused

-- What publishing on the link of x needs.
pub may_publish_at : (plan : PlanData) → IsPlan plan → (c : Core) → ∥ Stands plan c ∥₁ → (x y k : ℕ) → IsConcentrator (plan_lists plan) x →
    y ≡ parent (plan_lists plan) x → k ≡ place_of plan.entries x → MayPublish (concentrator_of c x) (link_at c.links y k)
may_publish_at plan is_plan c stands x y k conc e f =
    from_node plan x y k (λ (i j : ℕ). MayPublish (concentrator_of c x) (link_at c.links i j)) e f (may_publish plan is_plan c stands x conc)

-- A clearing of the auctioneer made a Clear.
pub clear_did : (plan : PlanData) → IsPlan plan → (c : Core) (s : State) → StandsFor plan c s →
    (links : List (List Session)) (auctioneer : Auction) (index step : ℕ) →
    DidClear c links auctioneer index step → MakesMove plan (cleared_core c links auctioneer) s (Clear index)
clear_did plan is_plan c s stands links auctioneer index step did = clear_makes plan is_plan c s stands links auctioneer index step did.made did.row
