-- Whether something waits on a link, by the numbers offered and taken, and whether a node has nothing to do.
use Rattle.std.proofs.Common.{◌≡◌, sym, subst, ℕ, ◌<◌, ◌≤◌, Bool, false, ◌↔◌, List, length, None, refl, arith}
use Rattle.pm_tree.specs.Entries.{children_of, place_of}
use Rattle.pm_session.specs.Links.{Session, IsSession, IsTaken}
use Rattle.pm_session.specs.Prices.{session_at}
use Rattle.pm_concentrator.specs.Concentrators.{Gathered}
use Rattle.pm_market.specs.Lists.{nodes, parent, IsNode, IsConcentrator}
use Rattle.pm_plan.specs.Kept.{IsPlan}
use Rattle.pm_plan.proofs.MarketLists.{lawful}
use Rattle.pm_plan.specs.Plans.{PlanData}
use Rattle.pm_plan.specs.Market.{plan_lists}
use Rattle.pm_stands.specs.Core.{Core, child_at, row_at, link_at, uplink_of, concentrator_of}
use Rattle.pm_stands.specs.Quiet.{IsQuiet}
use Rattle.pm_stands.specs.Rows.{CannotPublish}
use Rattle.pm_plan.proofs.MarketLists.{child_node}
use Rattle.pm_stands.proofs.Places.{placed, at_node, from_node}
use Rattle.pm_cluster.specs.Waiting.{NoBids, NothingToSend, NoPrice, NothingBelow, IsAtRest}

-- no bid waits exactly where the bid that was offered last was taken
pub bid_waits_is : (z : Session) (waits : Bool) → IsSession z → (waits ≡ false) ↔ (z.up.waiting ≡ None) → (waits ≡ false)
    ↔ (z.up.offered ≡ z.up.taken)
bid_waits_is z waits sound is = (λ e. sound.up.none.0 (is.0 e), λ e. is.1 (sound.up.none.1 e))

-- the same of prices
pub price_waits_is : (z : Session) (waits : Bool) → IsSession z → (waits ≡ false) ↔ (z.down.waiting ≡ None) → (waits ≡ false)
    ↔ (z.down.offered ≡ z.down.taken)
price_waits_is z waits sound is = (λ e. sound.down.none.0 (is.0 e), λ e. is.1 (sound.down.none.1 e))

-- no bid waits in the row of a node exactly where no bid of a child does
pub no_bids_is : (plan : PlanData) (c : Core) (x : ℕ) (row : List Session) (waits : Bool) →
    row_at c.links x ≡ row → length row ≡ length (children_of plan.entries x) →
    (waits ≡ false) ↔ ((k : ℕ) → k < length row → (session_at row k).up.offered ≡ (session_at row k).up.taken) → (waits ≡ false)
    ↔ NoBids plan c x
unfolding link_at
no_bids_is plan c x row waits is same iff = (
  λ e k lt. subst (λ (r : List Session). (session_at r k).up.offered ≡ (session_at r k).up.taken) (sym is) (iff.0 e k (omega arith)),
  λ none. iff.1 (λ k lt. subst (λ (r : List Session). (session_at r k).up.offered ≡ (session_at r k).up.taken) is (none k (omega arith))),
)

-- nothing waits on the links of a node to its children exactly where nothing does in its row
pub nothing_below_is : (plan : PlanData) (c : Core) (x : ℕ) (row : List Session) (waits : Bool) →
    row_at c.links x ≡ row → length row ≡ length (children_of plan.entries x) →
    (waits ≡ false) ↔ ((k : ℕ) → k < length row → IsTaken (session_at row k)) → (waits ≡ false) ↔ NothingBelow plan c x
unfolding link_at
nothing_below_is plan c x row waits is same iff = (
  λ e k lt. subst (λ (r : List Session). IsTaken (session_at r k)) (sym is) (iff.0 e k (omega arith)),
  λ none. iff.1 (λ k lt. subst (λ (r : List Session). IsTaken (session_at r k)) is (none k (omega arith))),
)

-- all nodes are at rest exactly where nothing is pending
pub all_rest_is : (plan : PlanData) (c : Core) → IsPlan plan → ((x : ℕ) → x ≤ nodes (plan_lists plan) → IsAtRest plan c x) ↔ IsQuiet plan c
all_rest_is plan c is_plan = (
  λ rest. record {
    bids = λ x node. (above rest x node).bid;
    prices = λ x node. (above rest x node).price;
    concentrators = λ y conc. (rest y conc.1).sends.concentrator conc;
    changed = (rest 0 (omega arith)).sends.auctioneer refl;
  },
  λ quiet x inside. record {
    below = λ k lt.
        let at = child_node plan x k lt in
        let z : ℕ = child_at plan x k in
        from_node plan z x k (λ (i j : ℕ). IsTaken (link_at c.links i j)) (sym at.1) (sym at.2)
        (record { bid = quiet.bids z at.0; price = quiet.prices z at.0 });
    sends = record { concentrator = quiet.concentrators x; auctioneer = λ e. quiet.changed };
  },
)
  where
    above : ((x : ℕ) → x ≤ nodes (plan_lists plan) → IsAtRest plan c x) → (x : ℕ) → IsNode (plan_lists plan) x → IsTaken (uplink_of plan c x)
    above rest x node =
        let inside : parent (plan_lists plan) x ≤ nodes (plan_lists plan) = omega (arith, node.1, (lawful plan is_plan).earlier x node) in
        (rest (parent (plan_lists plan) x) inside).below (place_of plan.entries x) (placed plan is_plan x node)

-- no price waits on the link that was read
pub no_price_is : (plan : PlanData) (c : Core) (x y k : ℕ) (z : Session) (waits : Bool) → IsNode (plan_lists plan) x →
    y ≡ parent (plan_lists plan) x → k ≡ place_of plan.entries x → link_at c.links y k ≡ z →
    (waits ≡ false) ↔ (z.down.offered ≡ z.down.taken) → (waits ≡ false) ↔ NoPrice plan c x
no_price_is plan c x y k z waits node e f read iff =
    let Taken : ℕ → ℕ → Type 0 = λ (i j : ℕ). (link_at c.links i j).down.offered ≡ (link_at c.links i j).down.taken in
    let Of : Session → Type 0 = λ (q : Session). q.down.offered ≡ q.down.taken in (
      λ none at. at_node plan x y k Taken e f (subst Of (sym read) (iff.0 none)),
      λ taken. iff.1 (subst Of read (from_node plan x y k Taken e f (taken node))),
    )

-- a concentrator that was read can publish nothing
pub nothing_is : (plan : PlanData) (c : Core) (x : ℕ) (g : Gathered) (can : Bool) → (x ≡ 0 → ⊥) → IsConcentrator (plan_lists plan) x →
    concentrator_of c x ≡ g →
    (can ≡ false) ↔ CannotPublish g → (can ≡ false) ↔ NothingToSend plan c x
nothing_is plan c x g can some conc read iff = (
  λ e. record { concentrator = λ at. subst CannotPublish (sym read) (iff.0 e); auctioneer = λ z. absurd (some z) },
  λ nothing. iff.1 (subst CannotPublish read (nothing.concentrator conc)),
)
