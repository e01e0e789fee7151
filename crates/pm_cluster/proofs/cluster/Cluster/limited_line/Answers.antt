-- Of `Cluster::limited_line`: what it ensures; what the calls of `step_within` and `unreachable` require.
use Rattle.std.specs.Option.{option_map}
use Rattle.std.proofs.Common.{◌≡◌, ◌∙◌, sym, ap, subst, ℕ, ℤ, true, Option, None, Some, is_some, arith, rules, w64, FitsSigned, to_z, of_z}
use Rattle.std.proofs.lemmas.Bool.{false≢true}
use Rattle.std.proofs.lemmas.Int.{to_z-of_z}
use Rattle.std.proofs.lemmas.List.{get_or_read}
use Rattle.pm_base.specs.declared.limits.Limits.{Limits}
use Rattle.pm_bid.specs.Limited.{step_within}
use Rattle.pm_cache.specs.Cache.{aggregate_of}
use Rattle.pm_plan.specs.Plans.{node, limits_of}
use Rattle.pm_plan.specs.declared.end.LimitedLine.{LimitedLine}
use Rattle.pm_stands.specs.Core.{gathered_at}
use Rattle.pm_stands.specs.Current.{kept_line}
use Rattle.pm_stands.proofs.Caches.{gathered_known}
use Rattle.pm_cluster.specs.Clusters.{ClusterValue}
use Rattle.pm_cluster.specs.ClusterFields.{core_of}
use Rattle.pm_cluster.proofs.LimitedTold.{limited_of, line_told}
use Rattle.pm_cluster.proofs.Opened.{limits_read}
use Rattle.pm_cluster.proofs.cluster.Cluster.limited_line.Goals as goal
use Rattle.pm_cluster.proofs.cluster.Cluster.limited_line.Goals.{After-aggregate-sum}
use Rattle.pm_cluster.proofs.cluster.Cluster.limited_line.Goals.{in_default-via-in-Some+in_default, in_default-via-in_default}

gathered_is : (c : After-aggregate-sum) → gathered_at c.self.inside.concentrators.items c.args.node.0 ≡ c.in-Some-Some.concentrator
gathered_is c = gathered_known c.self.inside.concentrators.items c.args.node.0 c.in-Some-Some.concentrator
    (sym (get_or_read c.self.inside.concentrators.items c.args.node.0 c.index.result.now
    (limited_of c.self.inside c.args.self.now c.self.view_is c.self.invariant c.args.node.0 c.requires.inside c.requires.limited).here
    c.index.ensures None) ∙ c.in-Some-Some.is-0)

pub step_within-local-requires : goal.step_within-local-requires
step_within-local-requires c =
    let at = goal.at.step_within-local-requires c in
    let told = limited_of c.self.inside c.args.self.now c.self.view_is c.self.invariant c.args.node.0 c.requires.inside c.requires.limited in
    omega (
      arith,
      c.step-step.ensures.inside,
      c.aggregate-sum.ensures.steps,
      ap (λ q. q.steps) c.cache.ensures.cache,
      ap (λ g. g.cache.steps) (gathered_is at.After-aggregate-sum),
      told.steps,
      told.root_steps,
    )

pub returns : goal.returns
returns c =
    let at = goal.at.returns c in
    let fits : FitsSigned w64 c.at.result = search rules in
    let fits_floor : FitsSigned w64 c.in-Some-Some.floor = search rules in
    let fits_ceiling : FitsSigned w64 c.in-Some-Some.ceiling = search rules in
    let limits : Limits = record { floor = c.in-Some-Some.floor; ceiling = c.in-Some-Some.ceiling } in
    let limits_are = limits_read (limits_of (node c.self.inside.plan.now c.args.node.0)) c.in-Some-Some.floor c.in-Some-Some.ceiling
    (sym c.in-Some-Some.is-1 ∙ c.limits.ensures) in
    let step_is : c.step_within-local.result ≡ step_within limits c.self.inside.auctioneer.step c.aggregate-sum.result.now =
    c.step_within-local.ensures.step
    ∙ ap (λ (z : ℤ). step_within (record { floor = z; ceiling = to_z w64 (of_z w64 c.in-Some-Some.ceiling) }) c.step-step.result
    c.aggregate-sum.result.now) (to_z-of_z w64 c.in-Some-Some.floor fits_floor)
    ∙ ap (λ (z : ℤ). step_within (record { floor = c.in-Some-Some.floor; ceiling = z }) c.step-step.result c.aggregate-sum.result.now)
    (to_z-of_z w64 c.in-Some-Some.ceiling fits_ceiling)
    ∙ ap (λ (k : ℕ). step_within limits k c.aggregate-sum.result.now) c.step-step.ensures.step in
    record {
      line =
          subst (λ (v : ClusterValue). (let line : LimitedLine = record {
            node = c.args.node.0;
            step = c.step_within-local.result;
            total = to_z w64 (of_z w64 c.at.result);
          } in line) ≡ kept_line v.plan v.core c.args.node.0) c.self.view_is
          (line_told c.self.inside.plan.now (core_of c.self.inside) c.args.node.0 limits c.in-Some-Some.concentrator
          c.step_within-local.result _ c.aggregate-sum.result.now limits_are
          (gathered_is at.After-aggregate-sum) (c.aggregate-sum.ensures.sum ∙ ap aggregate_of c.cache.ensures.cache) step_is
          (to_z-of_z w64 c.at.result fits ∙ c.at.ensures.demand));
    }

-- limits that are none when they are read are none
mapped_none : (o : Option Limits) → option_map {T = Limits} {U = ℤ × ℤ} (λ l. (l.floor, l.ceiling)) o ≡ None → is_some o ≡ true → ⊥
mapped_none None none some = false≢true some
mapped_none (Some l) none some = cc none

pub unreachable-requires : goal.unreachable-requires
unreachable-requires c =
    let x : ℕ = c.args.node.0 in
    let told = limited_of c.self.inside c.args.self.now c.self.view_is c.self.invariant x c.requires.inside c.requires.limited in
    let limited = subst (λ (v : ClusterValue). is_some (limits_of (node v.plan x)) ≡ true) (sym c.self.view_is) c.requires.limited in
    elim c.in_default.branch [
      | in_default-via-in-Some+in_default w ↦ mapped_none (limits_of (node c.self.inside.plan.now x)) (sym c.limits.ensures ∙ w.in_default.is-1) limited
      | in_default-via-in_default w ↦
          let none = sym (get_or_read c.self.inside.concentrators.items x c.index.result.now told.here c.index.ensures None) ∙ w.in_default.is-0 in
          false≢true (sym (ap is_some none) ∙ told.there)
    ]
