-- The end over a cut is over the devices' changes alone.
use Rattle.std.proofs.Common.{◌≡◌, ◌∙◌, sym, ap, refl, ℕ, true, inl, inr, arith}
use Rattle.std.proofs.lemmas.Bool.{cases_Bool, false≢true}
use Rattle.pm_base.specs.Cuts.{Cut}
use Rattle.pm_basis.specs.Prices.{price_at}
use Rattle.pm_bid.specs.Bids.{demand_at, sum_of}
use Rattle.pm_cache.specs.Cache.{aggregate_of}
use Rattle.pm_market.specs.Lists.{is_leaf, IsLeaf}
use Rattle.pm_market.specs.State.{State, SameOn, knowledge}
use Rattle.pm_market.proofs.Tree.{leaf_zero, leaf_of_parts}
use Rattle.pm_plan.specs.Kept.{IsPlan}
use Rattle.pm_plan.specs.Plans.{PlanData, is_member, is_limited, node_numbers}
use Rattle.pm_plan.specs.Auction.{plain_step, total, sum_in, local_step_of_group, power, member_line, limited_line, end_in}
use Rattle.pm_plan.specs.States.{state, end_of}
use Rattle.pm_plan.specs.Market.{plan_lists}
use Rattle.pm_plan.proofs.EndLines.{member_line_is, limited_line_is, end_is}
use Rattle.pm_plan.specs.EndLines.{members_to, limited_to}
use Rattle.pm_offer.specs.Offers.{children_sum}
use Rattle.pm_offer.proofs.Offers.{limited_sum}
use Rattle.pm_offer.proofs.Steps.{no_member}
use Rattle.pm_offer.proofs.Alike.{listed_alike, sum_alike, total_alike, plain_alike, group_step_alike}
use Rattle.pm_stands.proofs.Caches.{cache_root}
use Rattle.pm_stands.proofs.Demands.{demands_are}
use Rattle.pm_stands.specs.Core.{Core, node_cache}
use Rattle.pm_stands.specs.Stands.{StandsFor}
use Rattle.pm_cluster.proofs.ClosesLegally.{power_alike}

module _ (plan : PlanData) (is_plan : IsPlan plan) (a b : Cut) (same : (d : ℕ) → IsLeaf (plan_lists plan) d → a d ≡ b d) where
  same_below : (x : ℕ) → SameOn (plan_lists plan) x a b
  same_below x d below = same d (leaf_of_parts (plan_lists plan) x d below).0

  -- a member is a device
  same_member : (x : ℕ) → is_member plan x (a x) ≡ is_member plan x (b x)
  same_member x = elim (cases_Bool (is_leaf (plan_lists plan) x)) [
    | inl leaf ↦ ap (is_member plan x) (same x leaf)
    | inr inner ↦ no_member plan is_plan x (a x) inner ∙ sym (no_member plan is_plan x (b x) inner)
  ]

  same_line : (x : ℕ) → is_member plan x (a x) ≡ true → member_line plan (state plan) a x ≡ member_line plan (state plan) b x
  unfolding member_line
  same_line x member = elim (cases_Bool (is_leaf (plan_lists plan) x)) [
    | inl leaf ↦ member_line_is plan (state plan) b x (a x) (power plan (state plan) a x)
        (power_alike plan a b x is_plan leaf (same_below 0) (same x leaf)) (same x leaf)
    | inr inner ↦ absurd (false≢true (sym (no_member plan is_plan x (a x) inner) ∙ member))
  ]

  same_sum : (g : ℕ) → is_limited plan g ≡ true → sum_in plan (state plan) a g ≡ sum_in plan (state plan) b g
  same_sum g has = limited_sum plan is_plan g a has ∙ sum_alike plan is_plan g a b (same_below g) ∙ sym (limited_sum plan is_plan g b has)

  same_limited : (g : ℕ) → is_limited plan g ≡ true → limited_line plan (state plan) a g ≡ limited_line plan (state plan) b g
  unfolding limited_line
  same_limited g has =
      let k = local_step_of_group plan (state plan) a (plain_step plan (state plan) a) g in
      limited_line_is plan (state plan) b g k (sum_in plan (state plan) a g) (demand_at (sum_in plan (state plan) a g) k)
      (group_step_alike plan is_plan a b (same_below 0) g (inr has)) (same_sum g has) refl

  -- a phase's end is the same over two cuts that agree at every device
  pub end_alike : end_of plan a ≡ end_of plan b
  unfolding end_in members_to limited_to
  end_alike =
      let k = plain_step plan (state plan) a in
      end_is plan b k (price_at plan.basis k) (demand_at (total plan (state plan) a) k) (total plan (state plan) a) _ _
      (plain_alike plan is_plan a b (same_below 0)) refl refl (total_alike plan is_plan a b (same_below 0))
      (listed_alike _ _ (λ x. is_member plan x (a x)) (λ x. is_member plan x (b x)) same_member same_line (node_numbers plan))
      (listed_alike _ _ (is_limited plan) (is_limited plan) (λ g. refl) same_limited (node_numbers plan))

-- the auctioneer's sum is of what its children offer over the changes that it knows
pub sum_of_known : (plan : PlanData) (c : Core) (s : State) → IsPlan plan → StandsFor plan c s →
    aggregate_of c.auctioneer.cache ≡ children_sum plan 0 (knowledge (plan_lists plan) s 0)
sum_of_known plan c s is_plan stands =
    let lists = plan_lists plan in
    ap aggregate_of (sym (cache_root c.auctioneer c.concentrators 0 refl))
    ∙ ap (λ (n : ℕ). sum_of n (node_cache c 0).demands) (stands.shaped.cache_steps 0 (omega arith) (leaf_zero lists))
    ∙ ap (sum_of plan.basis.steps) (demands_are plan is_plan c s stands 0 (omega arith) (leaf_zero lists))
