-- In a settled phase each price of the last clearing has the local step of the node that it came to, and names the node's bid.
use Rattle.std.proofs.Common.{◌≡◌, ◌∙◌, sym, ap, ℕ, ℤ, zero, suc, ◌<◌, ◌≤◌, List, Option, Some, None, Contains, refl, arith, inl, inr}
use Rattle.std.proofs.lemmas.Bool.{cases_eq}
use Rattle.pm_base.specs.Cuts.{Cut}
use Rattle.pm_base.specs.declared.limits.Limits.{Limits}
use Rattle.pm_bid.specs.Clearing.{clearing_step}
use Rattle.pm_bid.specs.Limited.{local_step}
use Rattle.pm_bid.specs.declared.head.BidHead.{BidHead}
use Rattle.pm_tree.specs.Entries.{place_of}
use Rattle.pm_market.specs.Lists.{Lists, parent, IsNode, IsConcentrator}
use Rattle.pm_market.proofs.Tree.{leaf_zero}
use Rattle.pm_cache.specs.Cache.{Cache, aggregate_of}
use Rattle.pm_session.specs.Prices.{head_at}
use Rattle.pm_session.specs.declared.price.PriceUpdate.{PriceUpdate}
use Rattle.pm_concentrator.specs.Limited.{sum_kept, local_step_of_record}
use Rattle.pm_plan.specs.Kept.{IsPlan}
use Rattle.pm_plan.specs.Plans.{PlanData, limits_of}
use Rattle.pm_plan.specs.Plans as plans
use Rattle.pm_plan.specs.Market.{plan_lists}
use Rattle.pm_plan.proofs.MarketLists.{lawful}
use Rattle.pm_offer.specs.Offers.{children_sum, local_step_at}
use Rattle.pm_offer.proofs.Laws as laws
use Rattle.pm_carried.specs.Carried.{Carried, entry_head}
use Rattle.pm_carried.specs.Kept.{TellsByNumber, IsPassedDown}
use Rattle.pm_carried.specs.Settled.{IsSettledOver}
use Rattle.pm_carried.proofs.Bids.{cache_root, cache_inner, sum_came}

-- the price has the local step of the node, and names the bid that its parent has of it
pub record IsLocalPrice (plan : PlanData) (cut : Cut) (c : Carried) (x : ℕ) (price : PriceUpdate) : Type 0 where
  -- the local step, and the bid that it names
  pub step : price.step ≡ local_step_at plan cut x
  pub number : price.number ≡ (entry_head plan c x).number

-- the head of a node is the one in its place in the cache of the concentrator above it
head_below : (plan : PlanData) (c : Carried) (x : ℕ) → 1 ≤ parent (plan_lists plan) x →
    entry_head plan c x ≡ head_at (c.concentrators (parent (plan_lists plan) x)).cache.heads (place_of plan.entries x)
unfolding entry_head
head_below plan c x low = ap (λ (q : Cache). head_at q.heads (place_of plan.entries x)) (cache_inner c (parent (plan_lists plan) x) low)

module _ (plan : PlanData) (is_plan : IsPlan plan) (cut : Cut) (c : Carried) (kept : TellsByNumber plan c) (settled : IsSettledOver plan cut c) where
  abbrev lists : Lists
  lists = plan_lists plan

  at_root : (x : ℕ) (price : PriceUpdate) → IsNode lists x → parent lists x ≡ 0 → Contains (c.came x) price →
      price.index ≡ c.auctioneer.index → IsLocalPrice plan cut c x price
  at_root x price node up came newest =
      let is = kept.root_prices x price node up came in
      record {
        step = is.step newest settled.cleared ∙ kept.auction settled.cleared
            ∙ ap clearing_step (ap aggregate_of (sym (cache_root c)) ∙ sum_came plan is_plan cut c kept settled 0 (omega arith) (leaf_zero lists))
            ∙ sym (laws.local_root plan x cut is_plan node up);
        number = is.number newest settled.cleared;
      }

  -- below a concentrator to which a local price came
  at_child : (x : ℕ) (price above : PriceUpdate) → IsNode lists x → IsConcentrator lists (parent lists x) →
      IsPassedDown (c.concentrators (parent lists x)) (place_of plan.entries x) above price →
      IsLocalPrice plan cut c (parent lists x) above → IsLocalPrice plan cut c x price
  at_child x price above node conc passed local =
      let y : ℕ = parent lists x in
      let g = c.concentrators y in
      let named : above.number ≡ g.window.last = local.number ∙ settled.taken y conc in
      let sum_is : aggregate_of g.cache ≡ children_sum plan y cut =
      ap aggregate_of (sym (cache_inner c y conc.0)) ∙ sum_came plan is_plan cut c kept settled y conc.1 conc.2 in
      record {
        step = passed.step named
            ∙ ap (local_step_of_record g.limits above.step) ((kept.concentrators y conc).sum (settled.sent y conc) (omega (arith, passed.named, named)))
            ∙ kept_step g.limits above.step (aggregate_of g.cache)
            ∙ ap (λ l. local_step l above.step (aggregate_of g.cache)) (kept.shaped.limits y conc)
            ∙ ap (λ k. local_step (limits_of (plans.node plan y)) k (aggregate_of g.cache)) local.step
            ∙ ap (local_step (limits_of (plans.node plan y)) (local_step_at plan cut y)) sum_is
            ∙ sym (laws.local_below plan x cut is_plan node conc);
        number = passed.number named
            ∙ ap (λ hs. (head_at hs (place_of plan.entries x)).number) (sym (settled.sent y conc))
            ∙ sym (ap (λ (h : BidHead). h.number) (head_below plan c x conc.0));
      }
    where
      -- the step that is passed down for a kept sum
      kept_step : (limits : Option Limits) (k : ℕ) (sum : List ℤ) → local_step_of_record limits k (sum_kept limits sum) ≡ local_step limits k sum
      kept_step None k sum = refl
      kept_step (Some limits) k sum = refl

  -- by the number of the node, since parents come earlier
  local_to : (fuel x : ℕ) (price : PriceUpdate) → x ≤ fuel → IsNode lists x → Contains (c.came x) price →
      price.index ≡ c.auctioneer.index → IsLocalPrice plan cut c x price
  local_to zero x price within node came newest = absurd (omega (arith, within, node.0))
  local_to (suc fuel) x price within node came newest = elim (cases_eq (parent lists x) 0) [
    | inl up ↦ at_root x price node up came newest
    | inr ne ↦
        let law = lawful plan is_plan in
        let earlier : parent lists x < x = law.earlier x node in
        let conc : IsConcentrator lists (parent lists x) = (omega arith, omega (arith, earlier, node.1), law.inner x node) in
        let is = kept.prices x price node conc came in
        at_child x price is.above node conc is.passed
        (local_to fuel (parent lists x) is.above (omega (arith, within, earlier)) (conc.0, conc.1) is.came (is.passed.index ∙ newest))
  ]

  -- a price of the last clearing is a local price of the node to which it came
  pub local_price : (x : ℕ) (price : PriceUpdate) → IsNode lists x → Contains (c.came x) price →
      price.index ≡ c.auctioneer.index → IsLocalPrice plan cut c x price
  local_price x price node came newest = local_to x x price (omega arith) node came newest
