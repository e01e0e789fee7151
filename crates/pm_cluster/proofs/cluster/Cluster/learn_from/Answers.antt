-- Of `Cluster::learn_from`: what it ensures; what the call of `learn` requires.
use Rattle.std.proofs.Common.{◌≡◌, subst, true, false, refl, rules}
use Rattle.std.proofs.lemmas.Bool.{both_ways}
use Rattle.pm_market.specs.Lists.{IsNode}
use Rattle.pm_plan.specs.Market.{plan_lists}
use Rattle.pm_cluster.specs.Clusters.{ClusterValue}
use Rattle.pm_cluster.proofs.MadeBy.{made_none}
use Rattle.pm_market.specs.declared.moves.Act.TheVariants as act
use Rattle.pm_cluster.proofs.cluster.Cluster.learn_from.Goals as goal

pub returns-then-not-is_node : goal.returns-then-not-is_node
returns-then-not-is_node c =
    let off : c.is_node.result ≡ false = search rules in
    made_none c.self.inside _ _ (act.Learn c.args.child.0) c.self.view_is refl
    (λ s stands n legal. both_ways c.is_node.result off (c.is_node.ensures.1 legal.0))

pub learn-requires : goal.learn-requires
learn-requires c =
    let Claim : ClusterValue → Type 0 = λ v. IsNode (plan_lists v.plan) c.args.child.0 in
    let on : c.is_node.result ≡ true = search rules in
    record { node = subst Claim c.self.view_is (c.is_node.ensures.0 on) }

pub returns : goal.returns
returns c = c.learn.ensures
