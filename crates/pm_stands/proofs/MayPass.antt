-- A price is passed on: what the code needs for it, what it then did, and when there is nothing to pass.
use Rattle.std.proofs.Common.{◌≡◌, ◌∙◌, sym, ap, subst, ℕ, ◌<◌, ◌≤◌, List, length, Option, arith, inl, inr}
use Rattle.std.proofs.Math.Logic.{∥∥₁_elim}
use Rattle.std.proofs.Props.{props}
use Rattle.std.proofs.lemmas.Bool.{cases_eq}
use Rattle.pm_tree.specs.Entries.{children_of, place_of}
use Rattle.pm_market.specs.Lists.{parent, IsNode, IsConcentrator}
use Rattle.pm_market.specs.State.{State, last_index, cleared_cut}
use Rattle.pm_market.specs.Moves.{Legal, Reached}
use Rattle.pm_market.specs.declared.moves.Move.TheVariants.{Pass}
use Rattle.pm_market.proofs.Cuts.{number_inner}
use Rattle.pm_laws.proofs.Facts.{number_rises}
use Rattle.pm_laws.proofs.Numbers.{cleared_is_part, addressed_number}
use Rattle.pm_laws.proofs.Published.{due_within}
use Rattle.pm_cache.specs.Cache.{Cache}
use Rattle.pm_session.specs.Links.{Session, PriceTaken, NothingWaited}
use Rattle.pm_session.specs.Prices.{session_at}
use Rattle.pm_session.specs.declared.price.PriceUpdate.{PriceUpdate}
use Rattle.pm_concentrator.specs.Concentrators.{Gathered}
use Rattle.pm_plan.specs.Kept.{IsPlan}
use Rattle.pm_plan.specs.Plans.{PlanData}
use Rattle.pm_plan.specs.Market.{plan_lists}
use Rattle.pm_stands.specs.Core.{Core, child_at, row_at, link_at, uplink_of, concentrator_of, node_cache}
use Rattle.pm_stands.specs.Rows.{OneLink}
use Rattle.pm_stands.specs.Stands.{StandsFor, Stands, MakesMove}
use Rattle.pm_stands.specs.Made.{DidPass, passed_core}
use Rattle.pm_stands.specs.Needs.{MayPass}
use Rattle.pm_plan.proofs.MarketLists.{lawful}
use Rattle.pm_plan.proofs.MarketLists.{child_node}
use Rattle.pm_stands.proofs.Places.{at_node}
use Rattle.pm_stands.proofs.Caches.{cache_inner}
use Rattle.pm_stands.proofs.Offered.{offer_inside}
use Rattle.pm_laws.proofs.MoveLaws.{due_parts, due_from}
use Rattle.pm_laws.proofs.Facts.{came_last}
use Rattle.pm_stands.proofs.Passing.{pass_makes}

-- what the code needs in order to pass on a price that it took
pub pass_condition : (plan : PlanData) (c : Core) (s : State) (x : ℕ) (between : List (List Session)) (price : PriceUpdate) →
    IsPlan plan → StandsFor plan c s
    → IsConcentrator (plan_lists plan) x
    → PriceTaken (uplink_of plan c x) (link_at between (parent (plan_lists plan) x) (place_of plan.entries x)) price
    → OneLink c.links between (parent (plan_lists plan) x) (place_of plan.entries x) → MayPass (concentrator_of c x) (row_at between x) price
unfolding link_at
pass_condition plan c s x between price is_plan stands conc taken one =
    let node : IsNode (plan_lists plan) x = (conc.0, conc.1) in
    let agrees = stands.prices x node price taken.down.waited in
    let within = due_within (plan_lists plan) s stands.sound x price.index agrees.due in
    let due = due_parts (plan_lists plan) s x price.index agrees.due in
    let part = (cleared_is_part (plan_lists plan) (lawful plan is_plan) s stands.sound x price.index node within.1).1 in
    let before : last_index s x ≤ price.index = omega (arith, agrees.above) in
    let rises = number_rises (plan_lists plan) (lawful plan is_plan) s stands.sound x (last_index s x) price.index node conc.2 before within.1 in
    let answered_is = number_inner (plan_lists plan) s.published x (cleared_cut s (last_index s x)) conc.2 in
    let number_is = number_inner (plan_lists plan) s.published x (cleared_cut s price.index) conc.2 in
    let cache_is : node_cache c x ≡ (concentrator_of c x).cache = cache_inner c.auctioneer c.concentrators x (λ e. omega (arith, conc.0)) in
    record {
      keeps = record {
        one = omega (arith, agrees.number, (addressed_number (plan_lists plan) (lawful plan is_plan) s stands.sound x price.index conc within.1).0 due.1);
        from = omega (arith, agrees.number, stands.window_answered x conc, rises, answered_is, number_is);
        to = omega (arith, agrees.number, part, stands.sound.learnt_within x node, stands.window_last x conc);
      };
      row_length = one.rows x ∙ stands.shaped.rows x conc.1 ∙ sym (stands.shaped.cache_heads x conc.1 conc.2)
          ∙ ap (λ (q : Cache). length q.heads) cache_is;
      index = λ k lt.
          let lt' : k < length (children_of plan.entries x) = omega (arith, lt, one.rows x, stands.shaped.rows x conc.1) in
          let at = child_node plan x k lt' in
          let z : ℕ = child_at plan x k in
          let is : session_at (row_at between x) k ≡ uplink_of plan c z =
          one.others x k (λ e f. omega (arith, e, (lawful plan is_plan).earlier x node)) ∙ ap (λ (i : ℕ). link_at c.links x i) (sym at.2)
          ∙ ap (λ (i : ℕ). link_at c.links i (place_of plan.entries z)) (sym at.1) in
          let newest_due = stands.price_offered z at.0 in
          elim (cases_eq (uplink_of plan c z).down.offered 0) [
            | inl none ↦ omega (arith, none, ap (λ (q : Session). q.down.offered) is, within.0)
            | inr some ↦
                let came = subst (λ (i : ℕ). Reached s i (uplink_of plan c z).down.offered) at.1 (
                due_parts (plan_lists plan) s z (uplink_of plan c z).down.offered (newest_due.due (omega arith))).0 in
                let below = came_last (plan_lists plan) s stands.sound x (uplink_of plan c z).down.offered conc.0 came in
                omega (arith, ap (λ (q : Session). q.down.offered) is, below, agrees.above)
          ];
      step = omega (
        arith,
        agrees.step,
        offer_inside plan is_plan x (cleared_cut s price.index),
        stands.shaped.cache_steps x conc.1 conc.2,
        ap (λ (q : Cache). q.steps) cache_is,
      );
    }

-- a concentrator that took a price and passed it to its children made a legal pass
pub pass_made : (plan : PlanData) (c : Core) (s : State) (x : ℕ)
    (between links : List (List Session)) (concentrators : List (Option Gathered)) (price : PriceUpdate)
    → IsPlan plan → StandsFor plan c s → IsConcentrator (plan_lists plan) x
    → DidPass c x between links concentrators price (parent (plan_lists plan) x) (place_of plan.entries x)
    → MakesMove plan (passed_core c links concentrators) s (Pass x price.index)
pass_made plan c s x between links concentrators price is_plan stands conc did =
    pass_makes plan is_plan c s stands x conc between links concentrators price did (
    pass_condition plan c s x between price is_plan stands conc did.taken did.one).keeps

-- where no price waits on its link no pass to a node is legal
pub pass_nothing : (plan : PlanData) (c : Core) (s : State) (x j : ℕ) (new : Session) → StandsFor plan c s → IsNode (plan_lists plan) x
    → NothingWaited (uplink_of plan c x).down (uplink_of plan c x) new → Legal (plan_lists plan) s (Pass x j) → ⊥
pass_nothing plan c s x j new stands node none legal =
    let newest_due = (stands.price_offered x node).most j (due_from (plan_lists plan) s x j legal.1 legal.3) in
    omega (arith, legal.2, newest_due, stands.price_taken x node, none.offered)

-- the same by the numbers that were read of the node's parent and of its place there: what the code needs
pub may_pass : (plan : PlanData) → IsPlan plan → (c : Core) → ∥ Stands plan c ∥₁ → (x y k : ℕ) → IsConcentrator (plan_lists plan) x
    → y ≡ parent (plan_lists plan) x → k ≡ place_of plan.entries x → (between : List (List Session)) (price : PriceUpdate)
    → PriceTaken (link_at c.links y k) (link_at between y k) price → OneLink c.links between y k → MayPass (concentrator_of c x) (row_at between x) price
may_pass plan is_plan c stands x y k conc e f between price taken one =
    let taken' = at_node plan x y k (λ (i j : ℕ). PriceTaken (link_at c.links i j) (link_at between i j) price) e f taken in
    let one' = at_node plan x y k (OneLink c.links between) e f one in
    ∥∥₁_elim stands (Prim.hlevel props) (λ st. pass_condition plan c st.state x between price is_plan st.is conc taken' one')

-- what it then did
pub pass_did : (plan : PlanData) → IsPlan plan → (c : Core) (s : State) → StandsFor plan c s → (x y k : ℕ) → IsConcentrator (plan_lists plan) x
    → y ≡ parent (plan_lists plan) x → k ≡ place_of plan.entries x
    → (between links : List (List Session)) (concentrators : List (Option Gathered)) (price : PriceUpdate) →
    DidPass c x between links concentrators price y k
    → MakesMove plan (passed_core c links concentrators) s (Pass x price.index)
pass_did plan is_plan c s stands x y k conc e f between links concentrators price did =
    pass_made plan c s x between links concentrators price is_plan stands conc (
    at_node plan x y k (DidPass c x between links concentrators price) e f did)

-- when there is nothing to pass
pub cannot_pass : (plan : PlanData) (c : Core) (s : State) → StandsFor plan c s → (x y k : ℕ) → IsNode (plan_lists plan) x
    → y ≡ parent (plan_lists plan) x → k ≡ place_of plan.entries x
    → (new : Session) → NothingWaited (link_at c.links y k).down (link_at c.links y k) new → (j : ℕ) → Legal (plan_lists plan) s (Pass x j) → ⊥
cannot_pass plan c s stands x y k node e f new none j legal =
    let none' = at_node plan x y k (λ (a b : ℕ). NothingWaited (link_at c.links a b).down (link_at c.links a b) new) e f none in
    pass_nothing plan c s x j new stands node none' legal
