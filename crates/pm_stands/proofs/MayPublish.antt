-- What the code needs in order to publish.
use Rattle.std.proofs.Common.{◌∙◌, sym, ap, ℕ, arith}
use Rattle.std.proofs.Math.Logic.{∥∥₁_elim}
use Rattle.std.proofs.Props.{props}
use Rattle.pm_market.specs.Lists.{IsNode, IsConcentrator}
use Rattle.pm_laws.proofs.Bound.{newest_small}
use Rattle.pm_plan.specs.Kept.{IsPlan}
use Rattle.pm_plan.specs.Plans.{PlanData}
use Rattle.pm_plan.specs.Market.{plan_lists}
use Rattle.pm_stands.specs.Core.{Core, uplink_of, concentrator_of}
use Rattle.pm_stands.specs.Stands.{Stands}
use Rattle.pm_stands.specs.Needs.{MayPublish}
use Rattle.pm_plan.proofs.MarketLists.{lawful}
use Rattle.pm_stands.proofs.Places.{few_changes}
use Rattle.pm_stands.proofs.Caches.{cache_inner}

-- A concentrator may always publish, as far as the code is concerned.
pub may_publish : (plan : PlanData) → IsPlan plan → (c : Core) → ∥ Stands plan c ∥₁ → (x : ℕ) → IsConcentrator (plan_lists plan) x →
    MayPublish (concentrator_of c x) (uplink_of plan c x)
may_publish plan is_plan c stands x conc = ∥∥₁_elim stands (Prim.hlevel props) (λ st.
    let node : IsNode (plan_lists plan) x = (conc.0, conc.1) in
    let small = newest_small (plan_lists plan) (lawful plan is_plan) st.state st.is.sound x node in
    record {
      steps = st.is.shaped.link_steps x node ∙ sym (st.is.shaped.cache_steps x conc.1 conc.2)
          ∙ ap (λ z. z.steps) (cache_inner c.auctioneer c.concentrators x (λ e. omega (arith, conc.0)));
      last = omega (arith, st.is.window_last x conc, small, few_changes plan is_plan);
      number = omega (arith, st.is.window_last x conc, st.is.bid_offered x node);
    })
