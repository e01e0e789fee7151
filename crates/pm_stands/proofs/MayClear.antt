-- What the code needs in order to clear.
use Rattle.std.proofs.Common.{◌≡◌, ◌∙◌, sym, ap, ℕ, false, not, length, refl, arith, inl, inr}
use Rattle.std.proofs.Math.Logic.{∥∥₁_elim}
use Rattle.std.proofs.Props.{props}
use Rattle.std.proofs.lemmas.Bool.{cases_eq, both_ways}
use Rattle.pm_tree.specs.Entries.{place_of}
use Rattle.pm_market.specs.Lists.{Lists}
use Rattle.pm_market.specs.State.{State, is_same_on, knowledge, clearings, cleared_cut}
use Rattle.pm_market.specs.Moves.{Legal}
use Rattle.pm_market.specs.declared.moves.Move.TheVariants.{Clear}
use Rattle.pm_market.proofs.Tree.{leaf_zero}
use Rattle.pm_laws.proofs.Published.{due_within}
use Rattle.pm_laws.proofs.Bound.{list_weight, weight_small}
use Rattle.pm_cache.specs.Cache.{Cache}
use Rattle.pm_session.specs.Links.{Session}
use Rattle.pm_session.specs.Prices.{session_at}
use Rattle.pm_plan.specs.Kept.{IsPlan}
use Rattle.pm_plan.specs.Plans.{PlanData}
use Rattle.pm_plan.specs.Market.{plan_lists}
use Rattle.pm_stands.specs.Core.{Core, child_at, row_at, link_at, uplink_of}
use Rattle.pm_stands.specs.Stands.{StandsFor, Stands}
use Rattle.pm_stands.specs.Needs.{MayClear}
use Rattle.pm_plan.proofs.MarketLists.{lawful}
use Rattle.pm_plan.proofs.MarketLists.{child_node}
use Rattle.pm_stands.proofs.Places.{few_changes}
use Rattle.pm_stands.proofs.Caches.{cache_root}

may_clear_in : (plan : PlanData) → IsPlan plan → (c : Core) (s : State) → StandsFor plan c s → MayClear c.auctioneer (row_at c.links 0)
unfolding link_at
may_clear_in plan is_plan c s stands =
    let lists : Lists = plan_lists plan in
    let root = leaf_zero lists in
    let few = list_weight lists (lawful plan is_plan) s stands.sound 0 root in
    record {
      row_length = stands.shaped.rows 0 (omega arith) ∙ sym (stands.shaped.cache_heads 0 (omega arith) root)
          ∙ ap (λ (q : Cache). length q.heads) (cache_root c.auctioneer c.concentrators 0 refl);
      fits = omega (arith, stands.index, few, weight_small lists 0, few_changes plan is_plan);
      index = λ k lt.
          let at = child_node plan 0 k (omega (arith, lt, stands.shaped.rows 0 (omega arith))) in
          let z : ℕ = child_at plan 0 k in
          let j : ℕ = (uplink_of plan c z).down.offered in
          let is : session_at (row_at c.links 0) k ≡ uplink_of plan c z =
          ap (λ (i : ℕ). link_at c.links 0 i) (sym at.2) ∙ ap (λ (i : ℕ). link_at c.links i (place_of plan.entries z)) (sym at.1) in
          let is' = ap (λ (q : Session). q.down.offered) is in
          elim (cases_eq j 0) [
            | inl none ↦ omega (arith, none, is')
            | inr some ↦ omega (arith, is', stands.index, (due_within lists s stands.sound z j ((stands.price_offered z at.0).due (omega arith))).1)
          ];
    }

-- The auctioneer may always clear, as far as the code is concerned.
pub may_clear : (plan : PlanData) → IsPlan plan → (c : Core) → ∥ Stands plan c ∥₁ → MayClear c.auctioneer (row_at c.links 0)
may_clear plan is_plan c stands = ∥∥₁_elim stands (Prim.hlevel props) (λ st. may_clear_in plan is_plan c st.state st.is)

-- Where the auctioneer learnt nothing since its last clearing, no Clear is legal.
pub cannot_clear : (plan : PlanData) (c : Core) (s : State) → StandsFor plan c s → c.auctioneer.changed ≡ false → (j : ℕ) →
    Legal (plan_lists plan) s (Clear j) → ⊥
cannot_clear plan c s stands none j legal =
    both_ways (not (is_same_on (plan_lists plan) 0 (knowledge (plan_lists plan) s 0) (cleared_cut s (clearings s)))) (sym stands.changed ∙ none)
    (ap not legal.0)
