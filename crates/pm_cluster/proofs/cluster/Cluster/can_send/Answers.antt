-- Of `Cluster::can_send`: what it ensures.
use Rattle.std.proofs.Common.{◌≡◌, ◌∙◌, sym, subst, ℕ, ◌<◌, ◌≤◌, false, ◌↔◌, length, None, arith}
use Rattle.std.proofs.lemmas.List.{get_or_read}
use Rattle.pm_market.specs.Lists.{nodes}
use Rattle.pm_plan.specs.Market.{plan_lists}
use Rattle.pm_cluster.specs.Clusters.{ClusterValue}
use Rattle.pm_cluster.specs.ClusterFields.{core_of}
use Rattle.pm_market.specs.Lists.{IsConcentrator}
use Rattle.pm_stands.proofs.Caches.{gathered_known}
use Rattle.pm_cluster.specs.Waiting.{NothingToSend}
use Rattle.pm_cluster.proofs.Waits.{nothing_is}
use Rattle.pm_cluster.proofs.cluster.Cluster.can_send.Goals as goal

pub returns : goal.returns
returns c =
    let plan = c.self.inside.plan.now in
    let x : ℕ = c.args.node.0 in
    let inside : x ≤ nodes (plan_lists plan) = subst (λ (v : ClusterValue). x ≤ nodes (plan_lists v.plan)) (sym c.self.view_is) c.requires.inside in
    let conc : IsConcentrator (plan_lists plan) x = (omega (arith, c.if-node-eq0.false), inside, sym c.is_device.ensures ∙ c.if-is_device.false) in
    let there : x < length c.self.inside.concentrators.items = omega (arith, inside, c.self.invariant.places.all_concentrators) in
    let found = sym (get_or_read c.self.inside.concentrators.items x c.index.result.now there c.index.ensures None) ∙ c.in-Some.is in
    let known = gathered_known c.self.inside.concentrators.items x c.in-Some.concentrator found in
    let Claim : ClusterValue → Type 0 = λ v. (c.can_publish.result ≡ false) ↔ NothingToSend v.plan v.core x in
    record {
      nothing = subst Claim c.self.view_is
          (nothing_is plan (core_of c.self.inside) x c.in-Some.concentrator c.can_publish.result c.if-node-eq0.false conc known c.can_publish.ensures.cannot);
    }
