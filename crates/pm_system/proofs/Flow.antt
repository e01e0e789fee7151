-- What was given for one clearing adds up to what was announced for it.
use Rattle.std.proofs.Common.{◌≡◌, ◌∙◌, sym, ap, subst, ℕ, ◌⊎◌, false, ℤ, pos, ◌≤ℤ◌, List, Some, inl, inr}
use Rattle.std.specs.List.{All}
use Rattle.pm_base.specs.Cuts.{Cut}
use Rattle.pm_base.specs.declared.limits.Limits.{Limits}
use Rattle.pm_bid.specs.Bids.{demand_at, NeverRises}
use Rattle.pm_bid.specs.Taken.{CanSay, HasStepWithin, IsWithinLimits, AreSmall}
use Rattle.pm_bid.proofs.Sums.{zeros-at}
use Rattle.pm_bid.proofs.Taken.{settled_small}
use Rattle.pm_market.specs.Lists.{Lists, is_member, IsLeaf, IsConcentrator}
use Rattle.pm_market.specs.Offers.{sum_on}
use Rattle.pm_market.specs.State.{State, cleared_cut}
use Rattle.pm_market.proofs.Tree.{leaf_of_parts}
use Rattle.pm_laws.proofs.Offers.{sum_on_same}
use Rattle.pm_net.specs.Pricing.{Pricing}
use Rattle.pm_net.specs.Agents.{Setpoint}
use Rattle.pm_net.specs.Devices.{IsRight}
use Rattle.pm_net.specs.Flow.{power_at, power_below, sum_of_offers, AddsAtEachStep, SaysBelow, HaveStepsWithin}
use Rattle.pm_net.proofs.Flow.{flows_as_offered, flows_within, flows_as_cleared, flows_balanced}
use Rattle.pm_net_plan.specs.Places.{Numbering}
use Rattle.pm_relay.specs.Relays.{AreRelayLimits}
use Rattle.pm_system.specs.System.{System}
use Rattle.pm_system.specs.Given.{IsTreeMarket}
use Rattle.pm_system.specs.Flow.{WasGiven, TakeWhatWasGiven, TakesAsTold, TakeWhatWasTold, FlowsIn, FlowsAsCleared}
use Rattle.pm_system.proofs.Given.{some_same}
use Rattle.pm_system.proofs.Offers.{offer_is, sum_down}
use Rattle.pm_system.proofs.Places.{market_adds}

module _ (lists : Lists) (p : Pricing) (numbering : Numbering) (market : IsTreeMarket lists p numbering) where
  adds : AddsAtEachStep lists p
  adds = market_adds lists p numbering market

  falls : (cut : Cut) (y : ℕ) → NeverRises (sum_of_offers p cut y)
  falls cut y = sum_down lists p numbering market cut y (λ x node up. offer_is lists p numbering market cut x node)

  -- a relay can say what is taken where it settles, if some step of its sum is within its limits
  says : (cut : Cut) (c : ℕ) (limits : Limits) → IsConcentrator lists c → p.limits c cut ≡ Some limits →
      HasStepWithin limits (sum_of_offers p cut c) → CanSay (p.limits c cut) (p.local cut c) (sum_of_offers p cut c)
  says cut c limits conc is has =
      let limited = market.limited c cut conc in
      let are : AreRelayLimits limits = subst (λ (l : Limits). AreRelayLimits l) (some_same limited.0 limits (sym limited.1 ∙ is)) limited.2 in
      let small : AreSmall limits = record { floor = are.floor; ceiling = are.ceiling } in
      subst (λ l. CanSay l (p.local cut c) (sum_of_offers p cut c)) (sym is)
      (settled_small limits (p.local cut c) (sum_of_offers p cut c) small (falls cut c) has)

  says_below : (cut : Cut) (x : ℕ) → HaveStepsWithin lists p cut x → SaysBelow lists p cut x
  says_below cut x steps c conc below =
      let limited = market.limited c cut conc in
      says cut c limited.0 conc limited.1 (steps c limited.0 conc below limited.1)

  -- who is no member takes nothing
  nothing : (cut : Cut) (d : ℕ) (power : ℤ) → IsLeaf lists d → is_member lists d (cut d) ≡ false → power ≡ pos 0 → power ≡ power_at p cut d
  nothing cut d power leaf out none =
      none ∙ sym (ap (λ (b : List ℤ). demand_at b (p.local cut d)) (market.absent d (cut d) leaf out) ∙ zeros-at p.steps (p.local cut d))

  flows_in : (cut : Cut) (Take : ℕ → (ℕ → ℤ) → Type 0) →
      ((x : ℕ) (power : ℕ → ℤ) → Take x power → sum_on lists x power ≡ power_below lists p cut x) → FlowsIn lists p cut Take
  flows_in cut Take same = record {
    relays = λ c power conc take say. same c power take ∙ flows_as_offered lists market.law p market.by_nodes adds cut c (conc.0, conc.1) say;
    within = λ c power limits conc take say is has. subst (IsWithinLimits limits) (sym (same c power take))
        (flows_within lists market.law p market.by_nodes adds cut c limits conc say is (falls cut c) has);
    root = λ power take say. same 0 power take ∙ flows_as_cleared lists market.law p market.by_nodes adds cut say;
    balanced = λ power take say early. subst (λ (z : ℤ). z ≤ℤ pos 0) (sym (same 0 power take))
        (flows_balanced lists market.law p market.by_nodes adds cut say early);
  }

  module _ (sys : System) (s : State) (right : (d : ℕ) → IsLeaf lists d → All (IsRight lists p s d) (sys.setpoints d)) where
    -- what a device takes is what its own bid asks for at its own local step
    takes : (j d : ℕ) (power : ℤ) → IsLeaf lists d →
        WasGiven sys j d power ⊎ ((is_member lists d (cleared_cut s j d) ≡ false) × (power ≡ pos 0)) → power ≡ power_at p (cleared_cut s j) d
    takes j d power leaf (inl was) =
        let given = was.given in
        let here : IsRight lists p s d was.setpoint = subst (λ (q : Setpoint). IsRight lists p s d q) given.2 (right d leaf given.0 was.setpoint given.1) in
        sym was.power ∙ here.power
        ∙ ap (λ (n : ℕ). demand_at (p.demand d n) was.setpoint.step) (here.number ∙ ap (λ (i : ℕ). cleared_cut s i d) was.index)
        ∙ ap (λ (k : ℕ). demand_at (p.demand d (cleared_cut s j d)) k) (here.step ∙ ap (λ (i : ℕ). p.local (cleared_cut s i) d) was.index)
    takes j d power leaf (inr out) = nothing (cleared_cut s j) d power leaf out.0 out.1

    taken : (j x : ℕ) (power : ℕ → ℤ) → TakeWhatWasGiven lists sys s j x power → sum_on lists x power ≡ power_below lists p (cleared_cut s j) x
    taken j x power take = sum_on_same lists x power (power_at p (cleared_cut s j)) (λ d leaf.
        takes j d (power d) (leaf_of_parts lists x d leaf).0 (take d leaf))

    -- in each clearing the powers given below a relay add up to what it announced
    pub flows : FlowsAsCleared lists p sys s
    flows = record {
      clearings = λ j. flows_in (cleared_cut s j) (TakeWhatWasGiven lists sys s j) (taken j);
      says = says_below;
    }

  -- so it is for what was told of the bids that count, be these what they may
  module _ (sys : System) (counted : ℕ → ℕ) where
    tells : (d : ℕ) (power : ℤ) → IsLeaf lists d →
        TakesAsTold p sys counted d power ⊎ ((is_member lists d (counted d) ≡ false) × (power ≡ pos 0)) → power ≡ power_at p counted d
    tells d power leaf (inl is) =
        is.power ∙ is.told.power ∙ ap (λ (n : ℕ). demand_at (p.demand d n) (p.local counted d)) (sym is.counts)
    tells d power leaf (inr out) = nothing counted d power leaf out.0 out.1

    -- and so do the powers that controls were told, by the numbers that parents count
    pub flows_told : FlowsIn lists p counted (TakeWhatWasTold lists p counted sys)
    flows_told = flows_in counted (TakeWhatWasTold lists p counted sys) (λ x power take.
        sum_on_same lists x power (power_at p counted) (λ d leaf. tells d (power d) (leaf_of_parts lists x d leaf).0 (take d leaf)))
