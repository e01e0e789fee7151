-- Of `Cluster::move_of`: what it ensures.
use Rattle.std.proofs.Common.{arith, sym, ap, subst, ◌∙◌, refl, ℕ}
use Rattle.pm_market.specs.Lists.{Lawful, IsLeaf, is_leaf}
use Rattle.pm_market.specs.declared.moves.Act.TheVariants as act
use Rattle.pm_plan.specs.Market.{plan_lists}
use Rattle.pm_plan.proofs.MarketLists.{lawful}
use Rattle.pm_cluster.specs.Acts.{IsMadeOf}
use Rattle.pm_cluster.specs.Clusters.{ClusterValue}
use Rattle.pm_cluster.proofs.ActForms.{its_own}
use Rattle.pm_cluster.proofs.Movers.{no_device_move}
use Rattle.pm_cluster.proofs.Some.{none_more}
use Rattle.pm_cluster.proofs.cluster.Cluster.move_of.Goals as goal

pub returns-then-node-eq0 : goal.returns-then-node-eq0
returns-then-node-eq0 c =
    subst (λ (x : ℕ). IsMadeOf x c.args.self.now c.move_of_auctioneer.new.self c.move_of_auctioneer.result) (sym c.if-node-eq0.true)
    c.move_of_auctioneer.ensures

pub returns-then-is_device : goal.returns-then-is_device
returns-then-is_device c =
    let plan = c.args.self.now.plan in
    let x = c.args.node.0 in
    let law : Lawful (plan_lists plan) =
    subst (λ (v : ClusterValue). Lawful (plan_lists v.plan)) c.self.view_is (lawful c.self.inside.plan.now c.self.invariant.is_plan) in
    let leaf : IsLeaf (plan_lists plan) x =
    ap (λ (v : ClusterValue). is_leaf (plan_lists v.plan) x) (sym c.self.view_is) ∙ sym c.is_device.ensures ∙ c.if-is_device.true in
    record {
      plan = c.take.ensures.plan;
      mine = its_own (plan_lists plan) x (act.Pass x) c.take.result (λ n. refl) c.take.ensures.form;
      none = c.take.ensures.none;
      made = λ s stands. none_more c.take.result _ _ _ (no_device_move plan s x law (omega (arith, c.if-node-eq0.false)) leaf) (c.take.ensures.made s stands);
    }

pub returns : goal.returns
returns c = c.move_of_concentrator.ensures
