-- Where nothing is pending the powers and lines that a cluster tells are those of the plain auction.
use Rattle.std.proofs.Common.{◌≡◌, ◌∙◌, sym, ap, refl, ℕ, ◌≤◌, ℤ, Bool, true, false, List, length, Option, arith}
use Rattle.std.proofs.lemmas.Bool.{cond-false}
use Rattle.pm_bid.specs.Bids.{demand_at, zeros}
use Rattle.pm_bid.proofs.Sums.{zeros-at}
use Rattle.pm_bid.specs.Limited.{local_step}
use Rattle.pm_cache.specs.Cache.{aggregate_of}
use Rattle.pm_session.specs.declared.price.Held.{Held}
use Rattle.pm_market.specs.Lists.{Lists, is_member, IsLeaf, IsConcentrator}
use Rattle.pm_market.specs.State.{State, part}
use Rattle.pm_market.specs.Moves.{Idle}
use Rattle.pm_market.proofs.Tree.{leaf_node}
use Rattle.pm_market.proofs.Cuts.{part_leaf, newest_leaf}
use Rattle.pm_plan.specs.Kept.{IsPlan}
use Rattle.pm_plan.specs.Plans.{PlanData, node, limits_of, is_limited, change_count}
use Rattle.pm_plan.specs.Plans as plans
use Rattle.pm_plan.specs.Auction.{local_step_in, power, demand_in_cut, local_step_of_group, sum_in, limited_line}
use Rattle.pm_plan.specs.States.{state}
use Rattle.pm_plan.specs.Market.{plan_lists}
use Rattle.pm_plan.proofs.MarketLists.{is_member-is, changes-is}
use Rattle.pm_offer.specs.Offers.{device_demand}
use Rattle.pm_offer.proofs.Offers.{limited_sum}
use Rattle.pm_offer.proofs.Steps.{demand_is}
use Rattle.pm_offer.proofs.GroupNodes.{nodes_are}
use Rattle.pm_stands.specs.Core.{Core, limits_at, concentrator_of, demand_of_child}
use Rattle.pm_stands.specs.Stands.{StandsFor}
use Rattle.pm_stands.specs.Current.{held_price, power_by, kept_power, kept_line}
use Rattle.pm_plan.proofs.MarketLists.{lawful}
use Rattle.pm_stands.proofs.Caches.{cache_inner}
use Rattle.pm_stands.proofs.Offered.{offer_device}
use Rattle.pm_stands.proofs.QuietParts.{all_learnt}
use Rattle.pm_stands.proofs.Holding.{held_agrees, none_held}
use Rattle.pm_stands.proofs.AllCurrent.{sum_current, step_current, held_current}

-- the plan and its lists agree who is a member, up to the changes that a device makes
pub same_member : (plan : PlanData) (s : State) (c : Core) (d : ℕ) → IsPlan plan → StandsFor plan c s → IsLeaf (plan_lists plan) d →
    is_member (plan_lists plan) d (s.counts d) ≡ plans.is_member plan d (s.counts d)
same_member plan s c d is_plan stands leaf =
    let here = leaf_node (plan_lists plan) (lawful plan is_plan) d leaf in
    let inside : d ≤ length plan.nodes = omega (arith, here.1, nodes_are plan is_plan) in
    is_member-is plan d (s.counts d) here.0 inside (omega (arith, stands.sound.counts_within d leaf, changes-is plan d here.0 inside))

module _ (plan : PlanData) (is_plan : IsPlan plan) (c : Core) (s : State) (stands : StandsFor plan c s) (idle : Idle (plan_lists plan) s) where
  abbrev lists : Lists
  lists = plan_lists plan

  demand_current : (d : ℕ) → IsLeaf lists d → demand_of_child plan c d ≡ demand_in_cut plan (state plan) s.counts d
  demand_current d leaf =
      let here = leaf_node lists (lawful plan is_plan) d leaf in
      stands.demands d here ∙ offer_device plan is_plan d (part lists s d (s.learnt d)) leaf
      ∙ ap (device_demand plan d) (part_leaf lists s.published d (s.learnt d) d leaf ∙ all_learnt lists (lawful plan is_plan) s stands.sound idle d here
      ∙ newest_leaf lists s.counts s.published d leaf)
      ∙ sym (demand_is plan s.counts d)

  none_asked : (d : ℕ) → IsLeaf lists d → is_member lists d (s.counts d) ≡ false → demand_in_cut plan (state plan) s.counts d
      ≡ zeros plan.basis.steps
  unfolding demand_in_cut
  none_asked d leaf out = cond-false (plans.is_member plan d (s.counts d)) _ (zeros plan.basis.steps) (sym (same_member plan s c d is_plan stands leaf) ∙ out)

  -- by whether the device is a member
  power_of : (d : ℕ) → IsLeaf lists d → (member : Bool) → is_member lists d (s.counts d) ≡ member →
      power_by (held_price plan s d) (demand_in_cut plan (state plan) s.counts d) ≡ power plan (state plan) s.counts d
  unfolding power
  power_of d leaf true is =
      ap (λ (h : Option Held). power_by h (demand_in_cut plan (state plan) s.counts d)) (held_current plan is_plan c s stands idle d leaf is)
  power_of d leaf false is =
      ap (λ (h : Option Held). power_by h (demand_in_cut plan (state plan) s.counts d)) (none_held plan s d is)
      ∙ sym (ap (λ (demand : List ℤ). demand_at demand (local_step_in plan (state plan) s.counts d)) (none_asked d leaf is)
      ∙ zeros-at plan.basis.steps (local_step_in plan (state plan) s.counts d))

  power_current_at : (d : ℕ) → IsLeaf lists d → kept_power plan c d ≡ power plan (state plan) s.counts d
  power_current_at d leaf =
      ap (λ (h : Option Held). power_by h (demand_of_child plan c d)) (held_agrees plan c s d is_plan stands leaf)
      ∙ ap (power_by (held_price plan s d)) (demand_current d leaf)
      ∙ power_of d leaf (is_member lists d (s.counts d)) refl

  line_current_at : (g : ℕ) → IsConcentrator lists g → is_limited plan g ≡ true → kept_line plan c g ≡ limited_line plan (state plan) s.counts g
  unfolding limited_line local_step_of_group
  line_current_at g conc limited =
      let sum_is : aggregate_of (concentrator_of c g).cache ≡ sum_in plan (state plan) s.counts g =
      ap aggregate_of (sym (cache_inner c.auctioneer c.concentrators g (λ e. omega (arith, conc.0))))
      ∙ sum_current plan is_plan c s stands idle g conc.1 conc.2 ∙ sym (limited_sum plan is_plan g s.counts limited) in
      ap (λ (sum : List ℤ). record {
        node = g;
        step = local_step (limits_at plan g) c.auctioneer.step sum;
        total = demand_at sum (local_step (limits_at plan g) c.auctioneer.step sum);
      }) sum_is
      ∙ ap (λ (k : ℕ). record {
        node = g;
        step = local_step (limits_at plan g) k (sum_in plan (state plan) s.counts g);
        total = demand_at (sum_in plan (state plan) s.counts g) (local_step (limits_at plan g) k (sum_in plan (state plan) s.counts g));
      }) (step_current plan is_plan c s stands idle)

-- the power that a device takes by its held price is that of the plain auction
pub power_current : (plan : PlanData) (c : Core) (s : State) (d : ℕ) → IsPlan plan → StandsFor plan c s → Idle (plan_lists plan) s →
    IsLeaf (plan_lists plan) d →
    kept_power plan c d ≡ power plan (state plan) s.counts d
power_current plan c s d is_plan stands idle leaf = power_current_at plan is_plan c s stands idle d leaf

-- the line of a limited concentrator is that of the plain auction
pub line_current : (plan : PlanData) (c : Core) (s : State) (g : ℕ) → IsPlan plan → StandsFor plan c s → Idle (plan_lists plan) s →
    IsConcentrator (plan_lists plan) g → is_limited plan g ≡ true → kept_line plan c g ≡ limited_line plan (state plan) s.counts g
line_current plan c s g is_plan stands idle conc limited = line_current_at plan is_plan c s stands idle g conc limited
