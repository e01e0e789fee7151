-- Of `Cluster::waits_below`: what it ensures.
use Rattle.std.proofs.Common.{◌≡◌, ◌∙◌, sym, ap, subst, ℕ, ◌<◌, ◌≤◌, false, ◌↔◌, length, arith}
use Rattle.std.proofs.lemmas.List.{length-map}
use Rattle.pm_market.specs.Lists.{nodes}
use Rattle.pm_plan.specs.Market.{plan_lists}
use Rattle.pm_cluster.specs.Clusters.{ClusterValue}
use Rattle.pm_cluster.specs.ClusterFields.{core_of}
use Rattle.pm_cluster.specs.Waiting.{NothingBelow}
use Rattle.pm_cluster.proofs.Rows.{row_read}
use Rattle.pm_cluster.proofs.Waits.{nothing_below_is}
use Rattle.pm_cluster.proofs.cluster.Cluster.waits_below.Goals as goal

pub returns : goal.returns
returns c =
    let plan = c.self.inside.plan.now in
    let x : ℕ = c.args.node.0 in
    let inside : x ≤ nodes (plan_lists plan) = subst (λ (v : ClusterValue). x ≤ nodes (plan_lists v.plan)) (sym c.self.view_is) c.requires.inside in
    let there : x < length c.self.inside.links.items =
    omega (arith, inside, c.self.invariant.places.all_links, length-map c.self.inside.links.items (λ row. row.items)) in
    let row_is = row_read (λ row. row.items) c.self.inside.links.items x c.index.result.now there c.index.ensures ∙ sym c.deref.ensures.value in
    let same = ap length (sym row_is) ∙ c.self.invariant.places.rows x inside in
    let Claim : ClusterValue → Type 0 = λ v. (c.message_waits.result ≡ false) ↔ NothingBelow v.plan v.core x in
    let iff = nothing_below_is plan (core_of c.self.inside) x c.deref.result.now c.message_waits.result row_is same c.message_waits.ensures.none in
    record { nothing = subst Claim c.self.view_is iff }
