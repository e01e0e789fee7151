-- Whoever holds a price has its own bid in it.
use Rattle.std.proofs.Common.{◌≡◌, refl, ℕ, ◌≤◌, true, None, arith, rules}
use Rattle.std.specs.Prelude.{IfSome}
use Rattle.std.proofs.lemmas.Bool.{cond_both, and_parts, ltb-true}
use Rattle.pm_session.specs.declared.price.Held.{Held}
use Rattle.pm_market.specs.Lists.{Lists, IsLeaf, is_member, Lawful}
use Rattle.pm_market.specs.State.{State, last_index, clearings, cleared_cut}
use Rattle.pm_market.specs.Held.{holds_price}
use Rattle.pm_market.specs.Sound.{Sound}
use Rattle.pm_market.proofs.Tree.{leaf_node, leaf_of_itself}
use Rattle.pm_market.proofs.Cuts.{newest_leaf, part_leaf}
use Rattle.pm_laws.proofs.Facts.{clearing_part, last_within}
use Rattle.pm_laws.proofs.Held.{holder_included}
use Rattle.pm_plan.specs.Plans.{PlanData}
use Rattle.pm_plan.specs.Market.{plan_lists}
use Rattle.pm_plan.specs.Kept.{IsPlan}
use Rattle.pm_plan.proofs.MarketLists.{lawful}
use Rattle.pm_offer.specs.Offers.{local_step_at}
use Rattle.pm_stands.specs.Current.{held_price}

-- the number that a clearing contains of a device is at most how many changes the device made
cleared_made : (lists : Lists) → Lawful lists → (s : State) → Sound lists s → (d j : ℕ) → IsLeaf lists d → j ≤ clearings s →
    cleared_cut s j d ≤ s.counts d
cleared_made lists law s sound d j leaf le =
    let node = leaf_node lists law d leaf in
    let r = clearing_part lists law s sound d j node le in
    omega (
      arith,
      r.1,
      r.2 d (leaf_of_itself lists law d leaf),
      part_leaf lists s.published d r.0 d leaf,
      sound.learnt_within d node,
      newest_leaf lists s.counts s.published d leaf,
    )

-- what a price that a device holds is over
pub record HoldsOwn (plan : PlanData) (s : State) (d : ℕ) (price : Held) : Type 0 where
  -- the device is a member at the number that the price names
  pub member : is_member (plan_lists plan) d price.number ≡ true
  -- it made the change of that number
  pub made : price.number ≤ s.counts d
  -- the price is of a clearing
  pub from : 1 ≤ price.index
  -- that was made
  pub to : price.index ≤ clearings s
  -- the number is the device's in the clearing's cut
  pub own : price.number ≡ cleared_cut s price.index d
  -- the step is the device's local step over that cut
  pub step : price.step ≡ local_step_at plan (cleared_cut s price.index) d

-- the price that a device holds in a sound state is over its own bid
pub holds_own : (plan : PlanData) → IsPlan plan → (s : State) → Sound (plan_lists plan) s → (d : ℕ) → IsLeaf (plan_lists plan) d →
    IfSome (held_price plan s d) (HoldsOwn plan s d)
unfolding holds_price
holds_own plan is_plan s sound d leaf =
    let lists : Lists = plan_lists plan in
    cond_both (holds_price lists s d) _ None (λ o. IfSome o (HoldsOwn plan s d))
    (λ on. record {
      member = holder_included lists s sound d leaf on;
      made = cleared_made lists (lawful plan is_plan) s sound d (last_index s d) leaf (last_within lists s sound d);
      from = omega (arith, ltb-true 0 (last_index s d) (and_parts _ _ (and_parts _ _ on).0).0);
      to = last_within lists s sound d;
      own = refl;
      step = refl;
    }) (λ off. search rules)
