-- In a settled phase each entry of a cache is what its child offers over the changes made.
use Rattle.std.proofs.Common.{◌≡◌, ◌∙◌, sym, ap, ℕ, zero, suc, ◌+◌, ◌<◌, ◌≤◌, [], length, get_or, eqb, refl, arith, inl, inr}
use Rattle.std.proofs.lemmas.Bool.{cases_Bool, cond-false, ne_eqb}
use Rattle.std.proofs.lemmas.List.{ext_get_or, get_or-map, length-map}
use Rattle.pm_base.specs.Cuts.{Cut}
use Rattle.pm_bid.specs.Bids.{sum_of}
use Rattle.pm_bid.specs.Clearing.{clearing_step}
use Rattle.pm_bid.specs.Limited.{within_limits}
use Rattle.pm_tree.specs.Entries.{children_of, place_of}
use Rattle.pm_market.specs.Lists.{Lists, nodes, is_leaf, IsNode, IsInner, IsConcentrator}
use Rattle.pm_market.proofs.Tree.{leaf_zero}
use Rattle.pm_cache.specs.Cache.{aggregate_of}
use Rattle.pm_plan.specs.Kept.{IsPlan}
use Rattle.pm_plan.specs.Plans.{PlanData, limits_of}
use Rattle.pm_plan.specs.Plans as plans
use Rattle.pm_plan.specs.Auction.{total, plain_step}
use Rattle.pm_plan.specs.States.{state}
use Rattle.pm_plan.specs.Market.{plan_lists}
use Rattle.pm_plan.proofs.MarketLists.{lawful, child_node}
use Rattle.pm_offer.specs.Offers.{offer, offers_of, children_sum, device_demand}
use Rattle.pm_offer.proofs.Laws as laws
use Rattle.pm_carried.specs.Carried.{Carried, cache_at, entry_demand}
use Rattle.pm_carried.specs.Kept.{TellsByNumber}
use Rattle.pm_carried.specs.Settled.{IsSettledOver}

-- the cache of node 0 is the auctioneer's, any other that of the concentrator
pub cache_root : (c : Carried) → cache_at c 0 ≡ c.auctioneer.cache
unfolding cache_at
cache_root c = refl

-- of any other node that of its concentrator
pub cache_inner : (c : Carried) (y : ℕ) → 1 ≤ y → cache_at c y ≡ (c.concentrators y).cache
unfolding cache_at
cache_inner c y low = cond-false (eqb y 0) c.auctioneer.cache (c.concentrators y).cache (ne_eqb y 0 (λ e. omega (arith, low, e)))

-- in place k of the cache of y stands the entry of the child in that place
entry : (plan : PlanData) (c : Carried) (y k : ℕ) → k < length (children_of plan.entries y) →
    get_or (cache_at c y).demands k [] ≡ entry_demand plan c (get_or (children_of plan.entries y) k 0)
unfolding entry_demand
entry plan c y k lt =
    let at = child_node plan y k lt in
    let child : ℕ = get_or (children_of plan.entries y) k 0 in
    sym (ap (λ (i : ℕ). get_or (cache_at c i).demands (place_of plan.entries child) []) at.1 ∙ ap (λ (i : ℕ). get_or (cache_at c y).demands i []) at.2)

module _ (plan : PlanData) (is_plan : IsPlan plan) (cut : Cut) (c : Carried) (kept : TellsByNumber plan c) (settled : IsSettledOver plan cut c) where
  abbrev lists : Lists
  lists = plan_lists plan

  -- the sum of a cache is that of the children's offers, where each entry is the child's offer
  sum_from : (y : ℕ) → y ≤ nodes lists → IsInner lists y → ((k : ℕ) → k < length (children_of plan.entries y) →
      entry_demand plan c (get_or (children_of plan.entries y) k 0) ≡ offer plan (get_or (children_of plan.entries y) k 0) cut) →
      aggregate_of (cache_at c y) ≡ children_sum plan y cut
  sum_from y le inner each =
      ap (λ (n : ℕ). sum_of n (cache_at c y).demands) (kept.shaped.steps y le inner)
      ∙ ap (sum_of plan.basis.steps) (ext_get_or [] (cache_at c y).demands (offers_of plan y cut) (kept.shaped.demands y le inner
      ∙ sym (length-map (children_of plan.entries y) (λ z. offer plan z cut))) (λ k lt.
      let lt' : k < length (children_of plan.entries y) = omega (arith, lt, kept.shaped.demands y le inner) in
      entry plan c y k lt' ∙ each k lt' ∙ sym (get_or-map (λ z. offer plan z cut) (children_of plan.entries y) k 0 [] lt')))

  offer_from : (x : ℕ) → IsNode lists x → ((k : ℕ) → k < length (children_of plan.entries x) →
      entry_demand plan c (get_or (children_of plan.entries x) k 0) ≡ offer plan (get_or (children_of plan.entries x) k 0) cut) →
      entry_demand plan c x ≡ offer plan x cut
  offer_from x node each = elim (cases_Bool (is_leaf lists x)) [
    | inl leaf ↦ (kept.devices x leaf).demand ∙ ap (device_demand plan x) (settled.learnt x leaf) ∙ sym (laws.offer_device plan x cut is_plan leaf)
    | inr inner ↦
        let conc : IsConcentrator lists x = (node.0, node.1, inner) in
        (kept.concentrators x conc).demand (settled.sent x conc) (settled.taken x conc)
        ∙ ap (λ l. within_limits l (aggregate_of (c.concentrators x).cache)) (kept.shaped.limits x conc)
        ∙ ap (within_limits (limits_of (plans.node plan x))) (ap aggregate_of (sym (cache_inner c x node.0)) ∙ sum_from x node.1 inner each)
        ∙ sym (laws.offer_inner plan x cut is_plan conc)
  ]

  -- the entry of a node is what it offers over the changes made
  pub offers_came : (far x : ℕ) → nodes lists ≤ x + far → IsNode lists x → entry_demand plan c x ≡ offer plan x cut
  offers_came zero x enough node = offer_from x node (λ k lt.
      let at = child_node plan x k lt in
      absurd (omega (arith, enough, at.0.1, at.1, (lawful plan is_plan).earlier (get_or (children_of plan.entries x) k 0) at.0)))
  offers_came (suc far) x enough node = offer_from x node (λ k lt.
      let at = child_node plan x k lt in
      offers_came far (get_or (children_of plan.entries x) k 0) (omega (
        arith,
        enough,
        at.1,
        (lawful plan is_plan).earlier (get_or (children_of plan.entries x) k 0) at.0,
      )) at.0)

  -- each node, in whatever depth
  pub offer_came : (x : ℕ) → IsNode lists x → entry_demand plan c x ≡ offer plan x cut
  offer_came x node = offers_came (nodes lists) x (omega arith) node

  -- the sum of a node's entries is that of its children's offers
  pub sum_came : (y : ℕ) → y ≤ nodes lists → IsInner lists y → aggregate_of (cache_at c y) ≡ children_sum plan y cut
  sum_came y le inner = sum_from y le inner (λ k lt. offer_came (get_or (children_of plan.entries y) k 0) (child_node plan y k lt).0)

  -- the auctioneer's sum is the total
  pub total_came : aggregate_of c.auctioneer.cache ≡ total plan (state plan) cut
  total_came = ap aggregate_of (sym (cache_root c)) ∙ sum_came 0 (omega arith) (leaf_zero lists) ∙ sym (laws.offer_total plan cut is_plan)

  -- and its step that of the plain auction
  pub step_came : c.auctioneer.step ≡ plain_step plan (state plan) cut
  unfolding plain_step
  step_came = kept.auction settled.cleared ∙ ap clearing_step total_came
