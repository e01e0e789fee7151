-- Of `Cluster::publish_at`: what it ensures; what the call of `publish` requires.
use Rattle.std.proofs.Common.{◌≡◌, subst, true, false, refl, rules}
use Rattle.std.proofs.lemmas.Bool.{both_ways}
use Rattle.pm_market.specs.Lists.{IsConcentrator}
use Rattle.pm_plan.specs.Market.{plan_lists}
use Rattle.pm_cluster.specs.Clusters.{ClusterValue}
use Rattle.pm_cluster.proofs.MadeBy.{made_none}
use Rattle.pm_market.specs.declared.moves.Act.TheVariants as act
use Rattle.pm_cluster.proofs.cluster.Cluster.publish_at.Goals as goal

pub returns-then-not-is_concentrator : goal.returns-then-not-is_concentrator
returns-then-not-is_concentrator c =
    let off : c.is_concentrator.result ≡ false = search rules in
    made_none c.self.inside _ _ (act.Publish c.args.node.0) c.self.view_is refl
    (λ s stands n legal. both_ways c.is_concentrator.result off (c.is_concentrator.ensures.1 legal.0))

pub publish-requires : goal.publish-requires
publish-requires c =
    let Claim : ClusterValue → Type 0 = λ v. IsConcentrator (plan_lists v.plan) c.args.node.0 in
    let on : c.is_concentrator.result ≡ true = search rules in
    record { concentrator = subst Claim c.self.view_is (c.is_concentrator.ensures.0 on) }

pub returns : goal.returns
returns c = c.publish.ensures
