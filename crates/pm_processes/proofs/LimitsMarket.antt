-- The market of the worked history of a relay under limits.
use Rattle.std.proofs.Common.{◌≡◌, ◌∙◌, ◌⊎◌, sym, ap, subst, ℕ, eqb, cond, replicate, Some, refl, inl, inr, arith}
use Rattle.std.proofs.lemmas.Bool.{cases_eq, cond-false, ne_eqb}
use Rattle.pm_base.specs.Cuts.{Cut}
use Rattle.pm_base.specs.Limits.{AreLimits, most_nodes}
use Rattle.pm_base.specs.declared.limits.Limits.{Limits}
use Rattle.pm_market.specs.Lists.{parent, is_leaf}
use Rattle.pm_net.specs.Pricing.{IsChildDevice, HasOneLimit}
use Rattle.pm_net.proofs.Messages.{either}
use Rattle.pm_relay.specs.Relays.{AreRelayLimits, limits_places}
use Rattle.pm_system.specs.Given.{IsTreeMarket, IsStarted}
use Rattle.pm_system.specs.Worked.{small_tree, small_places, small_limits, small_device_demand}
use Rattle.pm_system.proofs.Given.{is_market, some_same}
use Rattle.pm_system.proofs.Worked.{s0, started}
use Rattle.pm_system.proofs.WorkedGiven.{given, small_given}
use Rattle.pm_system.proofs.WorkedValues.{comes_back}
use Rattle.pm_processes.specs.WorkedLimits.{narrow_limits, limits_given, limits_pricing}
use Rattle.pm_processes.proofs.LimitsRelay.{are_narrow}
use Rattle.pm_processes.proofs.WorkedLimits.{first_limits}

-- what holds of both limits holds of those under each number
of_both : (P : Limits → Type 0) → P small_limits → P narrow_limits → (c n : ℕ) → P (limits_given c n)
of_both P small narrow c n = either P (eqb c 1) (cond (eqb n 0) small_limits narrow_limits) small_limits
    (λ e. either P (eqb n 0) small_limits narrow_limits (λ e. small) (λ e. narrow)) (λ e. small)

are_limits : (c n : ℕ) → AreRelayLimits (limits_given c n)
are_limits = of_both (λ (l : Limits). AreRelayLimits l) (given.are_limits 0 0) are_narrow

givers : (c : ℕ) → IsChildDevice small_tree c 3 ⊎ HasOneLimit (λ n. Some (limits_given c n))
unfolding parent is_leaf
givers c = elim (cases_eq c 1) [
  | inl e ↦ inl ((omega arith, omega arith), refl, sym e)
  | inr ne ↦
      let one : (n : ℕ) → limits_given c n ≡ small_limits =
      λ n. cond-false (eqb c 1) (cond (eqb n 0) small_limits narrow_limits) small_limits (ne_eqb c 1 ne) in
      inr (λ n. ap (λ (l : Limits). Some l) (one n ∙ sym (one 0)))
]

-- the small tree with these limits is a market
pub market : IsTreeMarket small_tree limits_pricing small_places
market = is_market small_tree 3 small_device_demand limits_given (λ c. 3) (small_given limits_given (λ c. 3) are_limits givers)

-- its limits are limits
pub around : (x : ℕ) (cut : Cut) (l : Limits) → limits_pricing.limits x cut ≡ Some l → AreLimits l
around x cut l e =
    let Are : Limits → Type 0 = λ k. AreLimits k in
    subst Are (some_same (limits_given x (cut 3)) l e) (are_limits x (cut 3)).around

-- its nodes come up for the first time
pub starts : IsStarted small_tree limits_pricing s0
starts = record {
  root = started.root;
  relays = λ c conc. (
    small_limits,
    ap (λ (l : Limits). Some l) (first_limits c),
    comes_back small_limits (replicate limits_places small_limits) 0 0 0 (replicate most_nodes 0) small_limits refl,
  );
  agents = started.agents;
  setpoints = started.setpoints;
  bids_sent = started.bids_sent;
  prices_sent = started.prices_sent;
}
