-- Where nothing is pending everyone holds the price over all current bids.
use Rattle.std.proofs.Common.{◌≡◌, ◌∙◌, sym, ap, refl, ℕ, zero, suc, ◌≤◌, true, eqb, Some, None, arith, inl, inr}
use Rattle.std.proofs.lemmas.Bool.{cases_eq, cond-true, cond-false, eq-eqb, ne_eqb}
use Rattle.pm_base.specs.Cuts.{Cut}
use Rattle.pm_bid.specs.Bids.{zeros, sum_of}
use Rattle.pm_bid.specs.Clearing.{clearing_step}
use Rattle.pm_cache.specs.Cache.{aggregate_of}
use Rattle.pm_session.specs.Windows.{unanswered_count}
use Rattle.pm_session.specs.declared.price.Held.{Held}
use Rattle.pm_market.specs.Lists.{Lists, nodes, is_member, IsLeaf, IsInner, IsConcentrator}
use Rattle.pm_market.specs.State.{State, SameOn, knowledge, last_index, clearings, cleared_cut}
use Rattle.pm_market.specs.Held.{holds_price}
use Rattle.pm_market.specs.Moves.{Idle}
use Rattle.pm_market.proofs.Tree.{leaf_zero, leaf_node, leaf_of_parts}
use Rattle.pm_market.proofs.Cuts.{entry_zero}
use Rattle.pm_laws.proofs.Quiet.{quiet_counts, quiet_passed, quiet_window}
use Rattle.pm_laws.proofs.Held.{quiet_holds}
use Rattle.pm_plan.specs.Kept.{IsPlan}
use Rattle.pm_plan.specs.Plans.{PlanData}
use Rattle.pm_plan.specs.Auction.{total, plain_step}
use Rattle.pm_plan.specs.States.{state}
use Rattle.pm_plan.specs.Market.{plan_lists}
use Rattle.pm_offer.specs.Offers.{children_sum, local_step_at}
use Rattle.pm_offer.proofs.Laws as laws
use Rattle.pm_stands.specs.Core.{Core, concentrator_of, node_cache}
use Rattle.pm_stands.specs.Stands.{StandsFor}
use Rattle.pm_stands.specs.Current.{held_price, IsCurrent}
use Rattle.pm_plan.proofs.MarketLists.{lawful}
use Rattle.pm_stands.proofs.Caches.{cache_root}
use Rattle.pm_stands.proofs.Demands.{demands_are}
use Rattle.pm_stands.proofs.QuietParts.{all_known}
use Rattle.pm_offer.proofs.Alike.{sum_alike, plain_alike, local_alike}
use Rattle.pm_offer.proofs.Nothing.{sum_of_none}

-- a market in which nobody takes anything clears at step 0
clears_at_zero : (n : ℕ) → clearing_step (zeros n) ≡ 0
clears_at_zero zero = refl
clears_at_zero (suc n) = omega arith

module _ (plan : PlanData) (is_plan : IsPlan plan) (c : Core) (s : State) (stands : StandsFor plan c s) (idle : Idle (plan_lists plan) s) where
  abbrev lists : Lists
  lists = plan_lists plan

  -- the sum of a node's children's bids is that of their offers over all changes
  pub sum_current : (y : ℕ) → y ≤ nodes lists → IsInner lists y → aggregate_of (node_cache c y) ≡ children_sum plan y s.counts
  sum_current y le inner =
      ap (λ (n : ℕ). sum_of n (node_cache c y).demands) (stands.shaped.cache_steps y le inner)
      ∙ ap (sum_of plan.basis.steps) (demands_are plan is_plan c s stands y le inner)
      ∙ sum_alike plan is_plan y (knowledge lists s y) s.counts (all_known lists (lawful plan is_plan) s stands.sound idle y inner)

  -- in an idle state the auctioneer's sum is the total over all changes made
  pub total_current : aggregate_of c.auctioneer.cache ≡ total plan (state plan) s.counts
  total_current = ap aggregate_of (sym (cache_root c.auctioneer c.concentrators 0 refl)) ∙ sum_current 0 (omega arith) (leaf_zero lists)
      ∙ sym (laws.offer_total plan s.counts is_plan)

  cleared_current : (d : ℕ) → IsLeaf lists d → cleared_cut s (clearings s) d ≡ s.counts d
  cleared_current d leaf = quiet_counts lists (lawful plan is_plan) s stands.sound idle d leaf

  same_cleared : SameOn lists 0 (cleared_cut s (clearings s)) s.counts
  same_cleared d below = cleared_current d (leaf_of_parts lists 0 d below).0

  plain_of_sum : (cut : Cut) → plain_step plan (state plan) cut ≡ clearing_step (children_sum plan 0 cut)
  unfolding plain_step
  plain_of_sum cut = ap clearing_step (laws.offer_total plan cut is_plan)

  -- in an idle state the auctioneer's step is that of the plain auction over all changes made
  pub step_current : c.auctioneer.step ≡ plain_step plan (state plan) s.counts
  step_current = elim (cases_eq (clearings s) 0) [
    | inl none ↦
        let no_cut : (d : ℕ) → cleared_cut s (clearings s) d ≡ 0 = λ d. ap (λ (i : ℕ). cleared_cut s i d) none
        ∙ ap (λ (a : Cut). a d) (entry_zero (s.published 0)) in
        stands.auction_step
        ∙ cond-true (eqb (clearings s) 0) 0 (clearing_step (children_sum plan 0 (cleared_cut s (clearings s)))) (eq-eqb (clearings s) 0 none)
        ∙ sym (ap clearing_step (sum_of_none plan is_plan 0 (cleared_cut s (clearings s)) no_cut) ∙ clears_at_zero plan.basis.steps)
        ∙ sym (plain_of_sum (cleared_cut s (clearings s)))
        ∙ plain_alike plan is_plan (cleared_cut s (clearings s)) s.counts same_cleared
    | inr some ↦
        stands.auction_step
        ∙ cond-false (eqb (clearings s) 0) 0 (clearing_step (children_sum plan 0 (cleared_cut s (clearings s)))) (ne_eqb (clearings s) 0 some)
        ∙ sym (plain_of_sum (cleared_cut s (clearings s)))
        ∙ plain_alike plan is_plan (cleared_cut s (clearings s)) s.counts same_cleared
  ]

  -- in an idle state each member holds the price of the last clearing, of its local step over all changes made
  pub held_current : (d : ℕ) → IsLeaf lists d → is_member lists d (s.counts d) ≡ true →
      held_price plan s d ≡ Some (record { step = local_step_at plan s.counts d; number = s.counts d; index = clearings s })
  held_current d leaf member =
      let law = lawful plan is_plan in
      let is_last : last_index s d ≡ clearings s = (quiet_passed lists law s stands.sound idle d leaf member).1 in
      let price : ℕ → Held = λ j. record { step = local_step_at plan (cleared_cut s j) d; number = cleared_cut s j d; index = j } in
      cond-true (holds_price lists s d) (Some (price (last_index s d))) None (quiet_holds lists law s stands.sound idle d leaf member)
      ∙ ap (λ (j : ℕ). Some (price j)) is_last
      ∙ ap (λ (k : ℕ). Some (record { step = k; number = cleared_cut s (clearings s) d; index = clearings s }))
      (local_alike plan is_plan (cleared_cut s (clearings s)) s.counts same_cleared d (leaf_node lists law d leaf))
      ∙ ap (λ (n : ℕ). Some (record { step = local_step_at plan s.counts d; number = n; index = clearings s })) (cleared_current d leaf)

  windows_current : (y : ℕ) → IsConcentrator lists y → unanswered_count (concentrator_of c y).window ≡ 0
  windows_current y conc =
      omega (arith, quiet_window lists (lawful plan is_plan) s stands.sound idle y conc, stands.window_last y conc, stands.window_answered y conc)

-- the clauses of the law
pub quiet_current : (plan : PlanData) (c : Core) (s : State) → IsPlan plan → StandsFor plan c s → Idle (plan_lists plan) s → IsCurrent plan c s
quiet_current plan c s is_plan stands idle = record {
  cleared = cleared_current plan is_plan c s stands idle;
  held = held_current plan is_plan c s stands idle;
  aggregate = total_current plan is_plan c s stands idle;
  step = step_current plan is_plan c s stands idle;
  windows = windows_current plan is_plan c s stands idle;
}
