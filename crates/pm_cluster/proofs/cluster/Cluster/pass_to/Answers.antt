-- Of `Cluster::pass_to`: what it ensures; what the calls of `take` and `pass_on` require.
use Rattle.std.proofs.Common.{◌≡◌, ◌∙◌, sym, subst, true, false, refl, rules}
use Rattle.std.proofs.lemmas.Bool.{both_ways}
use Rattle.pm_market.specs.Lists.{IsLeaf, IsConcentrator, is_leaf}
use Rattle.pm_plan.specs.Market.{plan_lists}
use Rattle.pm_cluster.specs.Clusters.{ClusterValue}
use Rattle.pm_cluster.proofs.MadeBy.{made_none}
use Rattle.pm_market.specs.declared.moves.Act.TheVariants as act
use Rattle.pm_cluster.proofs.cluster.Cluster.pass_to.Goals as goal

pub take-requires : goal.take-requires
take-requires c =
    let on : c.is_device.result ≡ true = search rules in
    let Claim : ClusterValue → Type 0 = λ v. IsLeaf (plan_lists v.plan) c.args.node.0 in
    record { leaf = subst Claim c.self.view_is (sym c.is_device.ensures ∙ on) }

pub returns-then-is_device : goal.returns-then-is_device
returns-then-is_device c = c.take.ensures

pub returns-then-not-is_concentrator : goal.returns-then-not-is_concentrator
returns-then-not-is_concentrator c =
    let off : c.is_concentrator.result ≡ false = search rules in
    let no_device : c.is_device.result ≡ false = search rules in
    let inner : is_leaf (plan_lists c.self.inside.plan.now) c.args.node.0 ≡ false = sym c.is_device.ensures ∙ no_device in
    made_none c.self.inside _ _ (act.Pass c.args.node.0) c.self.view_is refl
    (λ s stands n legal. both_ways c.is_concentrator.result off (c.is_concentrator.ensures.1 (legal.0.0, legal.0.1, inner)))

pub pass_on-requires : goal.pass_on-requires
pass_on-requires c =
    let on : c.is_concentrator.result ≡ true = search rules in
    let Claim : ClusterValue → Type 0 = λ v. IsConcentrator (plan_lists v.plan) c.args.node.0 in
    record { concentrator = subst Claim c.self.view_is (c.is_concentrator.ensures.0 on) }

pub returns : goal.returns
returns c = c.pass_on.ensures
