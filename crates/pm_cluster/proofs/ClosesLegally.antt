-- A phase may be closed exactly where its close is legal.
use Rattle.std.proofs.Common.{◌≡◌, ◌∙◌, sym, ap, refl, subst, ℕ, ℤ, pos, ◌+◌, ◌<◌, ◌≤◌, List, length, slice_index_or, arith}
use Rattle.pm_market.specs.Lists.{IsLeaf, end_count}
use Rattle.pm_market.specs.State.{State}
use Rattle.pm_market.specs.Moves.{Legal}
use Rattle.pm_market.specs.declared.moves.Move.TheVariants.{Close}
use Rattle.pm_plan.specs.Kept.{IsPlan}
use Rattle.pm_plan.specs.Plans.{PlanData, phases, end_cut}
use Rattle.pm_plan.specs.Market.{plan_lists}
use Rattle.pm_plan.proofs.MarketLists.{end-is, phases-is}
use Rattle.pm_offer.proofs.GroupNodes as group_nodes
use Rattle.pm_stands.specs.Core.{Core}
use Rattle.pm_stands.specs.Stands.{StandsFor}
use Rattle.pm_base.specs.Cuts.{Cut}
use Rattle.pm_bid.specs.Bids.{demand_at}
use Rattle.pm_market.specs.State.{SameOn}
use Rattle.pm_market.proofs.Tree.{leaf_of_parts}
use Rattle.pm_plan.specs.Auction.{power, demand_in_cut}
use Rattle.pm_plan.specs.States.{state}
use Rattle.pm_offer.specs.Offers.{device_demand, local_step_at}
use Rattle.pm_offer.proofs.Steps.{demand_is}
use Rattle.pm_stands.specs.Current.{kept_power}
use Rattle.pm_stands.specs.Made.{DidClose, closed_core}
use Rattle.pm_stands.specs.Stands.{MakesMove}
use Rattle.pm_offer.proofs.Alike.{local_alike}
use Rattle.pm_stands.proofs.Closing.{close_made}
use Rattle.pm_stands.proofs.QuietPowers.{power_current}
use Rattle.pm_stands.proofs.MoveLaws.{quiet_is_idle}
use Rattle.pm_cluster.specs.Ends.{MayClose}
use Rattle.pm_cluster.proofs.Parents.{leaf_inside}

-- the ends of the plan and of its lists
pub ends_agree : (plan : PlanData) (p d : ℕ) → IsPlan plan → IsLeaf (plan_lists plan) d → p ≤ phases plan →
    end_count (plan_lists plan) p d ≡ end_cut plan p d
ends_agree plan p d is_plan leaf within =
    let here = leaf_inside plan is_plan d leaf in
    end-is plan p d here.0 (omega (arith, here.1, group_nodes.nodes_are plan is_plan)) within is_plan.in_phases

-- where a cluster may close its open phase, Close of that phase is legal in the state it stands for
pub close_legal : (plan : PlanData) (c : Core) (s : State) → IsPlan plan → StandsFor plan c s → MayClose plan c →
    Legal (plan_lists plan) s (Close (s.closed + 1))
close_legal plan c s is_plan stands may =
    let same : c.closed + 1 ≡ s.closed + 1 = ap (λ (k : ℕ). k + 1) stands.closed in
    let open_phase : s.closed + 1 ≤ phases plan = omega (arith, may.open_phase, stands.closed) in (
      refl,
      omega (arith, open_phase, phases-is plan),
      λ d leaf. sym (stands.counts d leaf) ∙ may.made d leaf ∙ ap (λ (p : ℕ). end_cut plan p d) same
          ∙ sym (ends_agree plan (s.closed + 1) d is_plan leaf open_phase),
      (quiet_is_idle plan c s is_plan stands).0 may.quiet,
    )

-- where Close of a phase is legal in the state a cluster stands for, the cluster may close its open phase
pub may_close_from : (plan : PlanData) (c : Core) (s : State) (phase : ℕ) → IsPlan plan → StandsFor plan c s →
    Legal (plan_lists plan) s (Close phase) → MayClose plan c
may_close_from plan c s phase is_plan stands legal =
    let open_phase : c.closed < phases plan = omega (arith, legal.0, legal.1, phases-is plan, stands.closed) in
    let same : phase ≡ c.closed + 1 = omega (arith, legal.0, stands.closed) in
    record {
      open_phase = open_phase;
      made = λ d leaf. stands.counts d leaf ∙ legal.2 d leaf ∙ ap (λ (p : ℕ). end_count (plan_lists plan) p d) same
          ∙ ends_agree plan (c.closed + 1) d is_plan leaf (omega (arith, open_phase));
      quiet = (quiet_is_idle plan c s is_plan stands).1 legal.3;
    }

-- the numbers of the devices before number' are found
pub record AreFoundTo (plan : PlanData) (value : ℕ → ℤ) (number' : ℕ) (old new : List ℤ) : Type 0 where
  -- the new list is as long as the old one
  pub same_length : length new ≡ length old
  -- in the place of each device before number' the new list has the value of the device
  pub found : (d : ℕ) → IsLeaf (plan_lists plan) d → d < number' → slice_index_or new d (pos 0) ≡ value d

-- a device's power is that of its own change and of all others'
pub power_alike : (plan : PlanData) (a b : Cut) (d : ℕ) → IsPlan plan → IsLeaf (plan_lists plan) d → SameOn (plan_lists plan) 0 a b → a d ≡ b d →
    power plan (state plan) a d ≡ power plan (state plan) b d
unfolding power
power_alike plan a b d is_plan leaf same here =
    ap (λ (demand : List ℤ). demand_at demand (local_step_at plan a d)) (demand_is plan a d ∙ ap (device_demand plan d) here ∙ sym (demand_is plan b d))
    ∙ ap (demand_at (demand_in_cut plan (state plan) b d)) (local_alike plan is_plan a b same d (leaf_inside plan is_plan d leaf))

-- the powers that are kept are those at the end of the phase
pub did_close : (plan : PlanData) (c : Core) (s : State) (powers : List ℤ) → IsPlan plan → StandsFor plan c s → MayClose plan c →
    length powers ≡ length c.powers →
    ((d : ℕ) → IsLeaf (plan_lists plan) d → slice_index_or powers d (pos 0) ≡ kept_power plan c d) → DidClose plan c powers (s.closed + 1)
did_close plan c s powers is_plan stands may same_length kept = record {
  same_powers = same_length;
  kept = λ d leaf.
      let idle = (quiet_is_idle plan c s is_plan stands).0 may.quiet in
      let at_end : (e : ℕ) → IsLeaf (plan_lists plan) e → s.counts e ≡ end_cut plan (s.closed + 1) e = λ e e_leaf.
      sym (stands.counts e e_leaf) ∙ may.made e e_leaf ∙ ap (λ (p : ℕ). end_cut plan (p + 1) e) stands.closed in
      kept d leaf ∙ power_current plan c s d is_plan stands idle leaf
      ∙ power_alike plan s.counts (end_cut plan (s.closed + 1)) d is_plan leaf
      (λ e below. at_end e (leaf_of_parts (plan_lists plan) 0 e below).0) (at_end d leaf);
}

-- a cluster that may close its phase and keeps each device's power makes the move Close of that phase
pub close_did : (plan : PlanData) (c : Core) (s : State) (powers : List ℤ) → IsPlan plan → StandsFor plan c s → MayClose plan c →
    length powers ≡ length c.powers →
    ((d : ℕ) → IsLeaf (plan_lists plan) d → slice_index_or powers d (pos 0) ≡ kept_power plan c d) →
    MakesMove plan (closed_core c powers (c.closed + 1)) s (Close (s.closed + 1))
close_did plan c s powers is_plan stands may same_length kept =
    subst (λ (p : ℕ). MakesMove plan (closed_core c powers (p + 1)) s (Close (s.closed + 1))) (sym stands.closed)
    (close_made plan c s (s.closed + 1) powers is_plan stands (close_legal plan c s is_plan stands may)
    (did_close plan c s powers is_plan stands may same_length kept))
