-- A node is still exactly where no node move of it is legal, and all nodes are still exactly where nothing is pending.
use Rattle.std.proofs.Common.{◌≡◌, sym, subst, ℕ, ◌<◌, ◌≤◌, ◌↔◌, length, refl, arith}
use Rattle.pm_tree.specs.Entries.{children_of, place_of}
use Rattle.pm_market.specs.Lists.{nodes, parent, IsNode, IsConcentrator}
use Rattle.pm_market.specs.State.{State}
use Rattle.pm_market.specs.declared.moves.Move.TheVariants.{Change, Learn, Publish, Clear, Pass, Close}
use Rattle.pm_plan.specs.Kept.{IsPlan}
use Rattle.pm_plan.specs.Plans.{PlanData}
use Rattle.pm_plan.specs.Market.{plan_lists}
use Rattle.pm_stands.specs.Core.{Core, child_at, link_at, uplink_of, concentrator_of}
use Rattle.pm_stands.specs.Rows.{CannotPublish}
use Rattle.pm_stands.specs.Stands.{StandsFor}
use Rattle.pm_stands.specs.Actors.{NoMoveOf}
use Rattle.pm_stands.specs.Quiet.{IsQuiet}
use Rattle.pm_stands.specs.Still.{IsStill}
use Rattle.pm_plan.proofs.MarketLists.{lawful}
use Rattle.pm_plan.proofs.MarketLists.{child_node}
use Rattle.pm_stands.proofs.Places.{placed, from_node}
use Rattle.pm_stands.proofs.Made.{nothing_to_learn, cannot_publish}
use Rattle.pm_stands.proofs.MayClear.{cannot_clear}
use Rattle.pm_stands.proofs.Idle.{no_bid, no_pass, no_price, no_publish, no_news}

-- every bid on the link was taken
abbrev Taken : Core → ℕ → ℕ → Type 0
Taken c y k = (link_at c.links y k).up.offered ≡ (link_at c.links y k).up.taken

no_move_from : (plan : PlanData) (c : Core) (s : State) (x : ℕ) → IsPlan plan → StandsFor plan c s → IsStill plan c x → NoMoveOf (plan_lists plan) s x
no_move_from plan c s x is_plan stands still (Learn z n) mine legal =
    let inside = placed plan is_plan z legal.0 in
    let inside' = subst (λ (y : ℕ). place_of plan.entries z < length (children_of plan.entries y)) mine inside in
    let taken = subst (λ (y : ℕ). Taken c y (place_of plan.entries z)) (sym mine) (still.bids (place_of plan.entries z) inside') in
    nothing_to_learn plan c s stands z n taken legal
no_move_from plan c s x is_plan stands still (Publish y n) mine legal =
    let conc : IsConcentrator (plan_lists plan) x = subst (IsConcentrator (plan_lists plan)) mine legal.0 in
    let cannot = subst (λ (z : ℕ). CannotPublish (concentrator_of c z)) (sym mine) (still.concentrator conc) in
    cannot_publish plan is_plan c s stands y legal.0 cannot n legal
no_move_from plan c s x is_plan stands still (Clear j) mine legal = cannot_clear plan c s stands (still.auctioneer mine) j legal
no_move_from plan c s x is_plan stands still (Pass y j) mine legal =
    let node : IsNode (plan_lists plan) x = subst (IsNode (plan_lists plan)) mine legal.0 in
    let taken = subst (λ (z : ℕ). (uplink_of plan c z).down.offered ≡ (uplink_of plan c z).down.taken) (sym mine) (still.prices node) in
    no_pass plan is_plan c s stands y legal.0 taken j legal
no_move_from plan c s x is_plan stands still (Change d n) mine legal = mine
no_move_from plan c s x is_plan stands still (Close k) mine legal = mine

-- what holds of the links of all nodes holds of the links of one to its children
of_children : (plan : PlanData) (c : Core) (x k : ℕ) → IsPlan plan → k < length (children_of plan.entries x) →
    ((z : ℕ) → IsNode (plan_lists plan) z → parent (plan_lists plan) z ≡ x →
    Taken c (parent (plan_lists plan) z) (place_of plan.entries z)) → Taken c x k
of_children plan c x k is_plan lt each =
    let at = child_node plan x k lt in
    let z : ℕ = child_at plan x k in
    from_node plan z x k (Taken c) (sym at.1) (sym at.2) (each z at.0 at.1)

still_from : (plan : PlanData) (c : Core) (s : State) (x : ℕ) → IsPlan plan → StandsFor plan c s → NoMoveOf (plan_lists plan) s x → IsStill plan c x
still_from plan c s x is_plan stands none = record {
  bids = λ k lt. of_children plan c x k is_plan lt (λ z node e. no_bid plan is_plan c s stands z node (λ n. none (Learn z n) e));
  prices = λ node. no_price plan is_plan c s stands x node (λ j. none (Pass x j) refl);
  concentrator = λ conc. no_publish plan is_plan c s stands x conc (λ n. none (Publish x n) refl);
  auctioneer = λ e. no_news plan is_plan c s stands (λ j. none (Clear j) e);
}

-- A node is still exactly where no node move of it is legal.
pub still_is : (plan : PlanData) (c : Core) (s : State) (x : ℕ) → IsPlan plan → StandsFor plan c s → x ≤ nodes (plan_lists plan) →
    IsStill plan c x ↔ NoMoveOf (plan_lists plan) s x
still_is plan c s x is_plan stands inside = (no_move_from plan c s x is_plan stands, still_from plan c s x is_plan stands)

-- All nodes are still exactly where nothing is pending.
pub all_still_is : (plan : PlanData) (c : Core) → IsPlan plan → ((x : ℕ) → x ≤ nodes (plan_lists plan) → IsStill plan c x) ↔ IsQuiet plan c
all_still_is plan c is_plan = (
  λ still. record {
    bids = λ x node.
        let above : parent (plan_lists plan) x ≤ nodes (plan_lists plan) = omega (arith, node.1, (lawful plan is_plan).earlier x node) in
        (still (parent (plan_lists plan) x) above).bids (place_of plan.entries x) (placed plan is_plan x node);
    prices = λ x node. (still x node.1).prices node;
    concentrators = λ y conc. (still y conc.1).concentrator conc;
    changed = (still 0 (omega arith)).auctioneer refl;
  },
  λ quiet x inside. record {
    bids = λ k lt. of_children plan c x k is_plan lt (λ z node e. quiet.bids z node);
    prices = quiet.prices x;
    concentrator = quiet.concentrators x;
    auctioneer = λ e. quiet.changed;
  },
)
