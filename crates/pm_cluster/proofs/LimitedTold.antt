-- What the code needs in order to tell the line of a limited concentrator.
use Rattle.std.proofs.Common.{◌≡◌, ◌∙◌, sym, ap, subst, ℕ, ℤ, ◌<◌, ◌≤◌, true, false, length, List, Option, Some, None, is_some}
use Rattle.std.proofs.Common.{slice_index_or, arith, refl}
use Rattle.std.proofs.Math.Logic.{∥∥₁_elim}
use Rattle.std.proofs.Props.{props}
use Rattle.std.proofs.lemmas.Bool.{false≢true}
use Rattle.pm_base.specs.declared.limits.Limits.{Limits}
use Rattle.pm_bid.specs.Bids.{demand_at}
use Rattle.pm_bid.specs.Limited.{local_step, step_within}
use Rattle.pm_cache.specs.Cache.{Cache, aggregate_of}
use Rattle.pm_concentrator.specs.Concentrators.{Gathered}
use Rattle.pm_market.specs.Lists.{nodes, IsConcentrator}
use Rattle.pm_market.proofs.Tree.{leaf_zero}
use Rattle.pm_plan.specs.Kept.{IsPlan}
use Rattle.pm_plan.specs.Plans.{PlanData, NodeData, node, limits_of, is_limited, is_device}
use Rattle.pm_plan.specs.declared.node.Node.TheVariants.{Concentrator, Limited, Device}
use Rattle.pm_plan.specs.declared.end.LimitedLine.{LimitedLine}
use Rattle.pm_plan.specs.Market.{plan_lists}
use Rattle.pm_plan.proofs.MarketLists.{is_leaf-is}
use Rattle.pm_plan.proofs.Drafts.{limited_is_no_root}
use Rattle.pm_stands.specs.Core.{Core, limits_at, concentrator_of}
use Rattle.pm_stands.specs.Stands.{Stands}
use Rattle.pm_stands.specs.Current.{kept_line}
use Rattle.pm_stands.proofs.Caches.{cache_root, cache_inner}
use Rattle.pm_cluster.specs.Clusters.{ClusterValue}
use Rattle.pm_cluster.specs.ClusterFields.{core_of, cluster_of, AreClusterFields}
use Rattle.pm_cluster.specs.declared.cluster.Cluster.TheInside.{Inside}

limited_no_device : (n : NodeData) → is_some (limits_of n) ≡ true → is_device n ≡ false
limited_no_device Concentrator some = refl
limited_no_device (Limited limits) some = refl
limited_no_device (Device planned) some = absurd (false≢true some)

-- a limited node is a concentrator
pub limited_concentrator : (plan : PlanData) (g : ℕ) → IsPlan plan → g ≤ nodes (plan_lists plan) → is_limited plan g ≡ true →
    IsConcentrator (plan_lists plan) g
limited_concentrator plan g is_plan inside limited =
    (limited_is_no_root plan g limited, inside, is_leaf-is plan g ∙ sym (is_plan.nodes.devices g) ∙ limited_no_device (node plan g) limited)

-- its sum has the steps of the basis, and the auctioneer's entries have them too
pub record LimitedTold (plan : PlanData) (c : Core) (g : ℕ) : Type 0 where
  -- node g has its place in the list of concentrators
  pub here : g < length c.concentrators
  -- a concentrator stands in the place of g
  pub there : is_some (slice_index_or c.concentrators g None) ≡ true
  -- the cache of the concentrator of g has the steps of the basis
  pub steps : (concentrator_of c g).cache.steps ≡ plan.basis.steps
  -- the auctioneer's cache has the steps of the basis
  pub root_steps : c.auctioneer.cache.steps ≡ plan.basis.steps

-- in a cluster that stands for some state, each concentrator has what the code needs to tell its line
pub limited_told : (plan : PlanData) → IsPlan plan → (c : Core) → ∥ Stands plan c ∥₁ → (g : ℕ) → IsConcentrator (plan_lists plan) g →
    LimitedTold plan c g
limited_told plan is_plan c stands g conc = ∥∥₁_elim stands (Prim.hlevel props) (λ st. record {
  here = omega (arith, st.is.shaped.all_concentrators, conc.1);
  there = ap is_some (st.is.shaped.there g conc);
  steps = ap (λ (q : Cache). q.steps) (sym (cache_inner c.auctioneer c.concentrators g (λ e. omega (arith, conc.0, e))))
      ∙ st.is.shaped.cache_steps g conc.1 conc.2;
  root_steps = ap (λ (q : Cache). q.steps) (sym (cache_root c.auctioneer c.concentrators 0 refl))
      ∙ st.is.shaped.cache_steps 0 (omega arith) (leaf_zero (plan_lists plan));
})

-- each limited node of a cluster's value has in the cluster's fields what the code needs to tell its line
pub limited_of : (inside : Inside) (v : ClusterValue) → cluster_of inside ≡ v → AreClusterFields inside → (g : ℕ) →
    g ≤ nodes (plan_lists v.plan) →
    is_limited v.plan g ≡ true → LimitedTold inside.plan.now (core_of inside) g
limited_of inside v view_is kept g le limited =
    let plan = inside.plan.now in
    limited_told plan kept.is_plan (core_of inside) kept.stands g
    (limited_concentrator plan g kept.is_plan (subst (λ (w : ClusterValue). g ≤ nodes (plan_lists w.plan)) (sym view_is) le)
    (subst (λ (w : ClusterValue). is_limited w.plan g ≡ true) (sym view_is) limited))

-- the line by the sum and the step that were read
pub line_told : (plan : PlanData) (c : Core) (g : ℕ) (limits : Limits) (gathered : Gathered) (step : ℕ) (total : ℤ) (sum : List ℤ) →
    limits_at plan g ≡ Some limits →
    concentrator_of c g ≡ gathered → sum ≡ aggregate_of gathered.cache → step ≡ step_within limits c.auctioneer.step sum →
    total ≡ demand_at sum step →
    (let line : LimitedLine = record { node = g; step = step; total = total } in line) ≡ kept_line plan c g
line_told plan c g limits gathered step total sum limits_are gathered_is sum_is step_is total_is =
    ap (λ (t : ℤ). record { node = g; step = step; total = t }) total_is
    ∙ ap (λ (k : ℕ). record { node = g; step = k; total = demand_at sum k }) step_is
    ∙ ap (λ (q : List ℤ). record { node = g; step = step_within limits c.auctioneer.step q; total = demand_at q (step_within limits c.auctioneer.step q) })
    (sum_is ∙ ap (λ (q : Gathered). aggregate_of q.cache) (sym gathered_is))
    ∙ ap (λ (l : Option Limits). let k : ℕ = local_step l c.auctioneer.step (aggregate_of (concentrator_of c g).cache) in
    record { node = g; step = k; total = demand_at (aggregate_of (concentrator_of c g).cache) k }) (sym limits_are)
