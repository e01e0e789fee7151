-- The next changes of the devices of a plan.
use Rattle.std.proofs.Common.{◌≡◌, sym, subst, ℕ, ℤ, ◌+◌, ◌≤◌}
use Rattle.std.proofs.Common.{arith}
use Rattle.std.specs.Prelude.{Option, Some, None, IfSome, MatchOption, IsTrue}
use Rattle.pm_base.specs.Cuts.{Cut}
use Rattle.pm_device.specs.declared.kind.Kind.{Kind}
use Rattle.pm_device.specs.declared.state.Next.{Next}
use Rattle.pm_device.specs.Kinds.{state_fits}
use Rattle.pm_market.specs.Lists.{IsLeaf}
use Rattle.pm_plan.specs.Kept.{IsPlan}
use Rattle.pm_plan.specs.Plans.{PlanData, node, kind_of, change_count}
use Rattle.pm_plan.specs.Market.{plan_lists}
use Rattle.pm_plan.proofs.DeviceNodes.{kind_of-tells}
use Rattle.pm_plan.proofs.Ends.{end-within}
use Rattle.pm_plan.proofs.Fits.{state-fits}
use Rattle.pm_cluster.specs.Next.{HasNoNext, IsNext}

-- the state that a next change makes fits the device's kind
pub next_fits : (plan : PlanData) → IsPlan plan → (closed : ℕ) (counts : Cut) (d : ℕ) (next : Next) (kind : Kind) →
    IsNext plan closed counts d next →
    kind_of (node plan d) ≡ Some kind → IsTrue (state_fits kind next.state.0)
next_fits plan is_plan closed counts d next kind is e =
    let has = kind_of-tells (node plan d) kind e in
    let within : next.number ≤ change_count plan d = omega (arith, is.of_phase, end-within plan (closed + 1) d) in
    subst (λ (k : Kind). IsTrue (state_fits k next.state.0)) has.kind_is
    (subst (λ (z : ℤ). IsTrue (state_fits has.planned.kind z)) (sym is.state) (state-fits plan d next.number has.planned is_plan has.is within))

-- what is told of a device's next change
pub next_told : (plan : PlanData) (closed : ℕ) (counts : Cut) (d : ℕ) (found : Option Next) → IsLeaf (plan_lists plan) d →
    MatchOption found (HasNoNext plan closed counts d) (IsNext plan closed counts d) →
    IfSome found (λ next. IsLeaf (plan_lists plan) next.device × IsNext plan closed counts next.device next)
next_told plan closed counts d (Some next) leaf is = (
  subst (IsLeaf (plan_lists plan)) (sym is.device) leaf,
  subst (λ (x : ℕ). IsNext plan closed counts x next) (sym is.device) is,
)
next_told plan closed counts d None leaf is = tt

-- the next change of a device names it
pub next_its : (plan : PlanData) (closed : ℕ) (counts : Cut) (d : ℕ) (found : Option Next) →
    MatchOption found (HasNoNext plan closed counts d) (IsNext plan closed counts d) → IfSome found (λ next. next.device ≡ d)
next_its plan closed counts d (Some next) is = is.device
next_its plan closed counts d None is = tt
