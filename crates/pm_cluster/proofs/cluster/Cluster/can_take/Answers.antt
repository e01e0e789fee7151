-- Of `Cluster::can_take`: what it ensures.
use Rattle.std.proofs.Common.{◌≡◌, sym, ap, subst, ℕ, ◌<◌, ◌≤◌, false, ◌↔◌, length, arith}
use Rattle.std.proofs.lemmas.List.{length-map}
use Rattle.pm_market.specs.Lists.{nodes, IsNode}
use Rattle.pm_plan.specs.Market.{plan_lists}
use Rattle.pm_cluster.specs.Clusters.{ClusterValue}
use Rattle.pm_cluster.specs.ClusterFields.{core_of}
use Rattle.pm_tree.specs.Entries.{children_of}
use Rattle.pm_cluster.specs.Waiting.{NoPrice}
use Rattle.pm_cluster.proofs.Rows.{row_read, link_read}
use Rattle.pm_cluster.proofs.Waits.{price_waits_is, no_price_is}
use Rattle.pm_cluster.proofs.cluster.Cluster.can_take.Goals as goal

pub returns : goal.returns
returns c =
    let plan = c.self.inside.plan.now in
    let x : ℕ = c.args.node.0 in
    let inside : x ≤ nodes (plan_lists plan) = subst (λ (v : ClusterValue). x ≤ nodes (plan_lists v.plan)) (sym c.self.view_is) c.requires.inside in
    let node : IsNode (plan_lists plan) x = (omega (arith, c.if-node-eq0.false), inside) in
    let y : ℕ = c.parent_of-parent.result in
    let k : ℕ = c.place_in_row-place.result in
    let there : y < length c.self.inside.links.items =
    omega (arith, c.parent_of-parent.ensures.inside, c.self.invariant.places.all_links, length-map c.self.inside.links.items (λ row. row.items)) in
    let row_is = row_read (λ row. row.items) c.self.inside.links.items y c.index.result.now there c.index.ensures in
    let rows = c.self.invariant.places.rows y c.parent_of-parent.ensures.inside in
    let placed : k < length c.index.result.now.items =
    omega (
      arith,
      ap length row_is,
      rows,
      c.place_in_row-place.ensures.inside,
      ap (λ (i : ℕ). length (children_of plan.entries i)) c.parent_of-parent.ensures.parent,
    ) in
    let read = link_read (λ row. row.items) c.self.inside.links.items y k c.index.result.now c.index-2.result.now
    there c.index.ensures placed c.index-2.ensures in
    let iff = price_waits_is c.index-2.result.now c.prices_waiting.result c.prices_waiting.ensures.sound c.prices_waiting.ensures.waiting in
    let Claim : ClusterValue → Type 0 = λ v. (c.prices_waiting.result ≡ false) ↔ NoPrice v.plan v.core x in
    record {
      price = subst Claim c.self.view_is (no_price_is plan (core_of c.self.inside) x y k c.index-2.result.now c.prices_waiting.result node
          c.parent_of-parent.ensures.parent c.place_in_row-place.ensures.place read iff);
    }
