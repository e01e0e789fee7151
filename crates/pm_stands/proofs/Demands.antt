-- The entries of a cache are the offers of what its node knows.
use Rattle.std.proofs.Common.{◌≡◌, ◌∙◌, sym, ap, subst, ℕ, ◌<◌, ◌≤◌, ℤ, Bool, true, false}
use Rattle.std.proofs.Common.{List, [], length, get_or, Option, refl, arith, inl, inr, get_or-set_same, get_or-set_other}
use Rattle.std.proofs.Math.ListN.{set, length-set}
use Rattle.std.proofs.Props.{props}
use Rattle.std.proofs.lemmas.Bool.{cases_eq}
use Rattle.std.proofs.lemmas.List.{ext_get_or, get_or-map, length-map}
use Rattle.pm_base.specs.Limits.{sum_limit}
use Rattle.pm_bid.specs.Bids.{zeros, sum_of, AllWithinLimit}
use Rattle.pm_tree.specs.Entries.{children_of, place_of}
use Rattle.pm_market.specs.Lists.{nodes, parent, IsNode, IsInner}
use Rattle.pm_market.specs.State.{State, update, part, knowledge}
use Rattle.pm_market.specs.Moves.{step}
use Rattle.pm_market.specs.declared.moves.Move.TheVariants.{Learn}
use Rattle.pm_market.proofs.Cuts.{updated_same, updated_other, known_at}
use Rattle.pm_cache.specs.Cache.{Cache}
use Rattle.pm_cache.specs.Learning.{CanLearn, demand_of_offer, bid_demand}
use Rattle.pm_session.specs.Links.{UpBid}
use Rattle.pm_plan.specs.Kept.{IsPlan}
use Rattle.pm_plan.specs.Plans.{PlanData}
use Rattle.pm_plan.specs.Market.{plan_lists}
use Rattle.pm_offer.specs.Offers.{offer, offers_of}
use Rattle.pm_stands.specs.Core.{Core, child_at, node_cache}
use Rattle.pm_stands.specs.Stands.{BidAgrees, StandsFor}
use Rattle.pm_plan.proofs.MarketLists.{lawful}
use Rattle.pm_plan.proofs.MarketLists.{child_node}
use Rattle.pm_stands.proofs.Places.{placed, one_place}
use Rattle.pm_offer.proofs.Steps.{offer_length}
use Rattle.pm_stands.proofs.Offered.{offer_alike, offer_within}
use Rattle.pm_stands.proofs.Learning.{gone_zeros}

-- Any two proofs that a bid may be learnt are equal.
pub can_learn_prop : (cache : Cache) (k : ℕ) (demand : Option (List ℤ)) → IsProp (CanLearn cache k demand)
can_learn_prop cache k demand = Prim.hlevel props

-- Demands that are the offers of the children over the parts that y learnt are the offers over what y knows.
pub demands_from : (plan : PlanData) → IsPlan plan → (s : State) (y : ℕ) (ds : List (List ℤ)) → length ds ≡ length (children_of plan.entries y)
    → ((z : ℕ) → IsNode (plan_lists plan) z → parent (plan_lists plan) z ≡ y →
    get_or ds (place_of plan.entries z) [] ≡ offer plan z (part (plan_lists plan) s z (s.learnt z)))
    → ds ≡ offers_of plan y (knowledge (plan_lists plan) s y)
demands_from plan is_plan s y ds count each =
    ext_get_or [] ds (offers_of plan y (knowledge (plan_lists plan) s y)) (count
    ∙ sym (length-map (children_of plan.entries y) (λ z. offer plan z (knowledge (plan_lists plan) s y)))) (λ k lt.
    let lt' : k < length (children_of plan.entries y) = omega arith in
    let z : ℕ = child_at plan y k in
    let at = child_node plan y k lt' in
    let alike = offer_alike plan is_plan z (knowledge (plan_lists plan) s y) (part (plan_lists plan) s z (s.learnt z)) (λ d leaf.
    ap (λ (c : ℕ). knowledge (plan_lists plan) s c d) (sym at.1) ∙ known_at (plan_lists plan) (lawful plan is_plan) s.published s.learnt z d at.0.0 leaf)
    in
    ap (λ (i : ℕ). get_or ds i []) (sym at.2) ∙ each z at.0 at.1 ∙ sym alike
    ∙ sym (get_or-map (λ c. offer plan c (knowledge (plan_lists plan) s y)) (children_of plan.entries y) k 0 [] lt'))

-- The demands of a cache are the offers of its children over what its node knows.
pub demands_are : (plan : PlanData) → IsPlan plan → (c : Core) (s : State) → StandsFor plan c s → (y : ℕ) → y ≤ nodes (plan_lists plan) →
    IsInner (plan_lists plan) y → (node_cache c y).demands ≡ offers_of plan y (knowledge (plan_lists plan) s y)
demands_are plan is_plan c s stands y le inner =
    demands_from plan is_plan s y (node_cache c y).demands (stands.shaped.cache_demands y le inner) (λ z node e.
    ap (λ (i : ℕ). get_or (node_cache c i).demands (place_of plan.entries z) []) (sym e) ∙ stands.demands z node)

-- A bid that agrees may be learnt: with it the sum of the entries is still that of offers.
pub can_learn : (plan : PlanData) → IsPlan plan → (c : Core) (s : State) → StandsFor plan c s → (x : ℕ) → IsNode (plan_lists plan) x →
    (bid : UpBid) →
    BidAgrees plan s x bid
    → CanLearn (node_cache c (parent (plan_lists plan) x)) (place_of plan.entries x) (bid_demand bid.gone bid.demand)
can_learn plan is_plan c s stands x node bid agrees =
    let y : ℕ = parent (plan_lists plan) x in
    let inner = (lawful plan is_plan).inner x node in
    let le : y ≤ nodes (plan_lists plan) = omega (arith, (lawful plan is_plan).earlier x node, node.1) in
    let cache : Cache = node_cache c y in
    let steps : cache.steps ≡ plan.basis.steps = stands.shaped.cache_steps y le inner in
    let count : length cache.demands ≡ length (children_of plan.entries y) = stands.shaped.cache_demands y le inner in
    let is_offered : demand_of_offer cache (bid_demand bid.gone bid.demand) ≡ bid.demand =
    offered_is cache bid.gone bid.demand (λ e. agrees.demand
    ∙ gone_zeros plan is_plan s stands.sound x bid.number node (omega (arith, agrees.above)) agrees.within (sym agrees.gone ∙ e)
    ∙ ap zeros (sym steps)) in
    let s' : State = step (plan_lists plan) s (Learn x bid.number) in
    let after : set cache.demands (place_of plan.entries x) bid.demand ≡ offers_of plan y (knowledge (plan_lists plan) s' y) =
    demands_from plan is_plan s' y (set cache.demands (place_of plan.entries x) bid.demand) (length-set cache.demands (place_of plan.entries x) bid.demand
    ∙ count) (λ z z_node e.
    elim (cases_eq z x) [
      | inl same ↦
          ap (λ (i : ℕ). get_or (set cache.demands (place_of plan.entries x) bid.demand) (place_of plan.entries i) []) same
          ∙ get_or-set_same cache.demands (place_of plan.entries x) bid.demand [] (omega (arith, count, placed plan is_plan x node))
          ∙ agrees.demand ∙ ap (λ (k : ℕ). offer plan x (part (plan_lists plan) s x k)) (sym (updated_same s.learnt x bid.number))
          ∙ ap (λ (i : ℕ). offer plan i (part (plan_lists plan) s i (update s.learnt x bid.number i))) (sym same)
      | inr ne ↦
          get_or-set_other cache.demands (place_of plan.entries x) (place_of plan.entries z) bid.demand []
          (λ f. ne (one_place plan is_plan z x z_node node e f))
          ∙ ap (λ (i : ℕ). get_or (node_cache c i).demands (place_of plan.entries z) []) (sym e) ∙ stands.demands z z_node
          ∙ ap (λ (k : ℕ). offer plan z (part (plan_lists plan) s z k)) (sym (updated_other s.learnt x bid.number z ne))
    ]) in
    let P : List ℤ → Type 0 = λ d. AllWithinLimit sum_limit (sum_of cache.steps (set cache.demands (place_of plan.entries x) d)) in
    let Q : List (List ℤ) → Type 0 = λ ds. AllWithinLimit sum_limit (sum_of cache.steps ds) in
    let R : ℕ → Type 0 = λ n. AllWithinLimit sum_limit (sum_of n (offers_of plan y (knowledge (plan_lists plan) s' y))) in
    record {
      is_child = omega (arith, stands.shaped.cache_heads y le inner, placed plan is_plan x node);
      equal_lengths = ap length is_offered ∙ ap length agrees.demand ∙ offer_length plan is_plan x (part (plan_lists plan) s x bid.number) ∙ sym steps;
      within = subst P (sym is_offered) (subst Q (sym after) (subst R (sym steps) (offer_within plan is_plan y (knowledge (plan_lists plan) s' y) inner)));
    }
  where
    offered_is : (cache : Cache) (gone : Bool) (demand : List ℤ) → (gone ≡ true → demand ≡ zeros cache.steps) →
        demand_of_offer cache (bid_demand gone demand) ≡ demand
    offered_is cache true demand zeros_if = sym (zeros_if refl)
    offered_is cache false demand zeros_if = refl
