-- Parts to which nobody sent anything stand before the first phase.
use Rattle.std.proofs.Common.{◌≡◌, ◌∙◌, sym, ap, subst, ℕ, zero, suc, ◌<◌, ℤ, true, false, List, []}
use Rattle.std.proofs.Common.{length, get_or, replicate, Option, Some, None, refl, arith, inl, inr}
use Rattle.std.specs.Prelude.{IfSome, slice_get}
use Rattle.std.proofs.lemmas.Bool.{cases_eq}
use Rattle.std.proofs.lemmas.List.{length-replicate, get_or-replicate}
use Rattle.std.proofs.lemmas.Option.{slice_get_within}
use Rattle.pm_auctioneer.specs.Auctions.{Auction, new_auction}
use Rattle.pm_base.specs.Cuts.{Cut}
use Rattle.pm_bid.specs.Bids.{zeros}
use Rattle.pm_bid.specs.Clearing.{clearing_step}
use Rattle.pm_bid.specs.Heads.{nothing_sent}
use Rattle.pm_bid.specs.Limited.{within_limits}
use Rattle.pm_bid.specs.declared.head.BidHead.{BidHead}
use Rattle.pm_bid.proofs.Limited.{within_limits-zeros}
use Rattle.pm_bid.proofs.Sums.{sum_of-replicate_zeros}
use Rattle.pm_cache.specs.Cache.{Cache, empty_cache, aggregate_of, child_head, child_demand}
use Rattle.pm_cells.specs.declared.message.UpMessage.{UpMessage}
use Rattle.pm_market.specs.Lists.{IsNode}
use Rattle.pm_market.specs.Lists as market
use Rattle.pm_offer.proofs.Nothing.{demand_zero}
use Rattle.pm_plan.specs.Kept.{IsPlan}
use Rattle.pm_plan.specs.Plans.{PlanData, limits_of, is_leaf, is_member}
use Rattle.pm_plan.specs.Plans as plans
use Rattle.pm_plan.specs.Market.{plan_lists}
use Rattle.pm_plan.proofs.MarketLists.{lawful, limits_around, is_leaf-is, parent-is, nodes_are}
use Rattle.pm_session.specs.Prices.{head_at}
use Rattle.pm_tree.specs.Entries.{place_of, children_of}
use Rattle.pm_tree.proofs.Places.{child_at_place}
use Rattle.pm_carried.specs.Kept.{TellsAuction}
use Rattle.pm_phase.specs.KeepingParents.{IsKindOf, IsShapedMatcher, TellsOwn, TellsBid, learnt_at}
use Rattle.pm_phase.specs.Matchers.{child_count, IsNewMatcher, cache_of_matcher}
use Rattle.pm_phase.specs.Nodes.{IsNewDuty, AreNewParts}
use Rattle.pm_phase.specs.SettledParts.{cache_of_part, cache_of_duty, kept_in}
use Rattle.pm_phase.specs.Standing.{DeviceStands, DutyStands, learnt_of, TellsEntry, TellsSumEntry, PartsStand}
use Rattle.pm_phase.specs.Telling.{TellsChange}
use Rattle.pm_phase.specs.declared.device.DevicePart.{DevicePart}
use Rattle.pm_phase.specs.declared.matcher.Matcher.{Matcher}
use Rattle.pm_phase.specs.declared.matcher.Matcher.TheVariants.{Concentrator, Auctioneer}
use Rattle.pm_phase.specs.declared.node.Duty.{Duty}
use Rattle.pm_phase.specs.declared.node.Duty.TheVariants.{Device, Parent}
use Rattle.pm_phase.specs.declared.node.NodePart.{NodePart}
use Rattle.pm_phase.proofs.Ended.{at_inside, contained}
use Rattle.pm_phase.proofs.HeldEnd.{agent_leaf}

-- a new auctioneer has the step at which nothing clears
pub new_auction_tells : (children steps : ℕ) (a : Auction) → a ≡ new_auction children steps → TellsAuction a
new_auction_tells children steps a new = λ still.
    ap (λ (b : Auction). b.step) new
    ∙ sym (ap (λ (b : Auction). clearing_step (aggregate_of b.cache)) new ∙ ap clearing_step (sum_of-replicate_zeros steps children) ∙ clears steps)
  where
    clears : (n : ℕ) → clearing_step (zeros n) ≡ 0
    clears zero = refl
    clears (suc n) = omega arith

none_learnt : (n k : ℕ) (bid : UpMessage) → get_or (replicate n None) k None ≡ Some bid → ⊥
none_learnt zero k bid e = cc e
none_learnt (suc n) zero bid e = cc e
none_learnt (suc n) (suc k) bid e = none_learnt n k bid e

none_learnt_of : (plan : PlanData) (x k : ℕ) (duty : Duty) → IsNewDuty plan x duty → (bid : UpMessage) → learnt_at (learnt_of duty) k ≡ Some bid →
    ⊥
none_learnt_of plan x k (Device device) new bid e = cc e
none_learnt_of plan x k (Parent parent) new bid e =
    none_learnt (child_count plan x) k bid (ap (λ (l : List (Option UpMessage)). get_or l k None) (sym new.1.learnt) ∙ e)

-- ---- a node

device_stands : (plan : PlanData) (d : ℕ) (device : DevicePart) → IsNewDuty plan d (Device device) → DeviceStands plan d 0 device
unfolding is_member
device_stands plan d device new =
    let member = ap (λ (p : DevicePart). p.member) new.1 in
    record {
      agent = new.0;
      member = member;
      joined = λ has. absurd (let false_is = sym member ∙ has in cc false_is);
      left = λ lacks. ap (λ (p : DevicePart). p.port.joined) new.1;
      waits = subst (λ w. IfSome w (TellsChange plan d)) (sym (ap (λ (p : DevicePart). p.waiting) new.1)) tt;
    }

-- the cache of a new matcher has nothing of any child
new_cache : (plan : PlanData) (y : ℕ) (matcher : Matcher) → IsNewMatcher plan y matcher →
    cache_of_matcher matcher ≡ empty_cache (child_count plan y) plan.basis.steps
new_cache plan y (Concentrator g) new = new.1.cache
new_cache plan y (Auctioneer a) new = ap (λ (b : Auction). b.cache) new.1

-- the sum of a cache without bids is zeros
pub new_sum : (n steps : ℕ) → aggregate_of (empty_cache n steps) ≡ zeros steps
new_sum n steps = sum_of-replicate_zeros steps n

shaped_new : (plan : PlanData) (y : ℕ) (matcher : Matcher) → (is_leaf plan y ≡ true → ⊥) → IsNewMatcher plan y matcher →
    IsShapedMatcher plan y matcher
shaped_new plan y matcher inner new =
    let is = new_cache plan y matcher new in
    let n : ℕ = child_count plan y in
    let demands : length (cache_of_matcher matcher).demands ≡ n = ap (λ (q : Cache). length q.demands) is ∙ length-replicate n (zeros plan.basis.steps) in
    record {
      inner = inner;
      kind = kind matcher new;
      even = demands ∙ sym (ap (λ (q : Cache). length q.heads) is ∙ length-replicate n nothing_sent);
      steps = ap (λ (q : Cache). q.steps) is;
      demands = demands;
    }
  where
    kind : (m : Matcher) → IsNewMatcher plan y m → IsKindOf plan y m
    kind (Concentrator g) new = (new.0, new.1.limits)
    kind (Auctioneer a) new = new.0

tells_new : (plan : PlanData) (y : ℕ) (matcher : Matcher) → IsNewMatcher plan y matcher → TellsOwn matcher
tells_new plan y (Concentrator g) new = record {
  published = λ child.
      let same = ap (λ (hs : List BidHead). (head_at hs child).number) new.1.window.opening in
      let kept = ap (λ (q : Cache). (child_head q child).number) new.1.cache in
      omega (arith, same, kept);
  sum = λ sent some. absurd (omega (arith, some, new.1.window.last));
}
tells_new plan y (Auctioneer a) new = new_auction_tells (child_count plan y) plan.basis.steps a new.1

duty_stands : (plan : PlanData) (x : ℕ) (duty : Duty) → IsNewDuty plan x duty → DutyStands plan x 0 duty
duty_stands plan x (Device device) new = device_stands plan x device new
duty_stands plan x (Parent parent) new = record {
  shaped = shaped_new plan x parent.matcher new.0 new.1.matcher;
  tells = tells_new plan x parent.matcher new.1.matcher;
  waits = subst (λ w. IfSome w (TellsBid parent.matcher)) (sym new.1.waiting) tt;
}

-- ---- what the node above has of it

entry_new : (plan : PlanData) → IsPlan plan → (x : ℕ) (duty : Duty) → IsNewDuty plan x duty → TellsEntry plan x duty 0 (zeros plan.basis.steps)
entry_new plan is_plan x (Device device) new = sym (demand_zero plan x)
entry_new plan is_plan x (Parent parent) new = by parent.matcher new.1.matcher
  where
    by : (m : Matcher) → IsNewMatcher plan x m → TellsSumEntry m 0 (zeros plan.basis.steps)
    by (Auctioneer a) is = tt
    by (Concentrator g) is = record {
      within = omega arith;
      is = λ sent newest. sym (
          ap (λ l. within_limits l (aggregate_of g.cache)) is.1.limits
          ∙ ap (λ (q : Cache). within_limits (limits_of (plans.node plan x)) (aggregate_of q)) is.1.cache
          ∙ ap (within_limits (limits_of (plans.node plan x))) (new_sum (child_count plan x) plan.basis.steps)
          ∙ within_limits-zeros (limits_of (plans.node plan x)) plan.basis.steps (λ l told. limits_around plan is_plan x l told)
          );
    }

-- the auctioneer is the child of nobody
entry_root : (plan : PlanData) (number : ℕ) (demand : List ℤ) (duty : Duty) → IsPlan plan → IsNewDuty plan 0 duty →
    TellsEntry plan 0 duty number demand
entry_root plan number demand (Device device) is_plan new =
    absurd (let leaf = agent_leaf plan is_plan 0 device.agent new.0 in cc leaf)
entry_root plan number demand (Parent parent) is_plan new = by parent.matcher new.1.matcher
  where
    by : (m : Matcher) → IsNewMatcher plan 0 m → TellsSumEntry m number demand
    by (Auctioneer a) is = tt
    by (Concentrator g) is = absurd (is.0 refl)

module _ (plan : PlanData) (is_plan : IsPlan plan) (parts : List NodePart) (new : AreNewParts plan parts) where
  abbrev none_made : Cut
  none_made d = 0

  -- the cache above a node
  cache_above : (x : ℕ) → IsNode (plan_lists plan) x →
      cache_of_part (slice_get parts (plans.parent plan x)) ≡ empty_cache (child_count plan (plans.parent plan x)) plan.basis.steps
  cache_above x node =
      let law = lawful plan is_plan in
      let y : ℕ = plans.parent plan x in
      let low : y < x = omega (arith, law.earlier x node, parent-is plan x) in
      let inner : is_leaf plan y ≡ false = sym (is_leaf-is plan y) ∙ ap (λ (j : ℕ). market.is_leaf (plan_lists plan) j) (sym (parent-is plan x))
      ∙ law.inner x node in
      let at = at_inside parts y (omega (arith, low, node.1, nodes_are plan, new.many)) in
      ap cache_of_part at.1 ∙ by y inner at.0.duty (new.duties y at.0 at.1)
    where
      by : (y : ℕ) → is_leaf plan y ≡ false → (duty : Duty) → IsNewDuty plan y duty →
          cache_of_duty duty ≡ empty_cache (child_count plan y) plan.basis.steps
      by y inner (Device device) is = absurd (let both = sym inner ∙ agent_leaf plan is_plan y device.agent is.0 in cc both)
      by y inner (Parent parent) is = new_cache plan y parent.matcher is.1.matcher

  entry_at : (x : ℕ) (duty : Duty) → IsNode (plan_lists plan) x → IsNewDuty plan x duty → TellsEntry plan x duty (kept_in plan parts x)
      (child_demand (cache_of_part (slice_get parts (plans.parent plan x))) (place_of plan.entries x))
  entry_at x duty node is =
      let n : ℕ = child_count plan (plans.parent plan x) in
      let place : ℕ = place_of plan.entries x in
      let inside : place < n =
      slice_get_within (children_of plan.entries (plans.parent plan x)) place x
      (child_at_place plan.entries x node.0 (omega (arith, node.1, nodes_are plan))) in
      let q = empty_cache n plan.basis.steps in
      let number : kept_in plan parts x ≡ 0 =
      ap (λ (c : Cache). (child_head c place).number) (cache_above x node)
      ∙ ap (λ (h : BidHead). h.number) (get_or-replicate n place nothing_sent nothing_sent inside) in
      let demand : child_demand (cache_of_part (slice_get parts (plans.parent plan x))) place ≡ zeros plan.basis.steps =
      ap (λ (c : Cache). child_demand c place) (cache_above x node) ∙ get_or-replicate n place (zeros plan.basis.steps) [] inside in
      subst (λ (e : ℕ × List ℤ). TellsEntry plan x duty e.0 e.1) (λ i. (sym number i, sym demand i)) (entry_new plan is_plan x duty is)

  entry_is : (x : ℕ) (part : NodePart) → slice_get parts x ≡ Some part → TellsEntry plan x part.duty (kept_in plan parts x)
      (child_demand (cache_of_part (slice_get parts (plans.parent plan x))) (place_of plan.entries x))
  entry_is x part here = elim (cases_eq x 0) [
    | inl e ↦
        subst
        (λ (j : ℕ). TellsEntry plan j part.duty (kept_in plan parts x)
        (child_demand (cache_of_part (slice_get parts (plans.parent plan x))) (place_of plan.entries x))) (sym e)
        (entry_root plan (kept_in plan parts x)
        (child_demand (cache_of_part (slice_get parts (plans.parent plan x))) (place_of plan.entries x)) part.duty is_plan
        (subst (λ (j : ℕ). IsNewDuty plan j part.duty) e (new.duties x part here)))
    | inr ne ↦
        entry_at x part.duty (omega arith, omega (arith, slice_get_within parts x part here, new.many, nodes_are plan)) (new.duties x part here)
  ]

  -- new parts stand before the first phase
  pub new_stand : PartsStand plan parts none_made
  new_stand = record {
    many = new.many;
    each = λ x part here. record {
      number = new.numbers x part here;
      stands = duty_stands plan x part.duty (new.duties x part here);
      told = λ bid had.
          let at = contained parts had.above had.has in
          absurd (none_learnt_of plan at.0 (place_of plan.entries x) had.above.duty (new.duties at.0 had.above at.1) bid had.learnt);
      entry = entry_is x part here;
    };
  }
