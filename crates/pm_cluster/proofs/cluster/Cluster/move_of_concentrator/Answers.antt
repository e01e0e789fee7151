-- Of `Cluster::move_of_concentrator`: what it ensures.
use Rattle.std.proofs.Common.{sym, subst, ◌∙◌, ap, refl}
use Rattle.std.proofs.lemmas.Option.{MatchOption-at_none}
use Rattle.pm_market.specs.declared.moves.Act.TheVariants as act
use Rattle.pm_plan.specs.Market.{plan_lists}
use Rattle.pm_cluster.specs.Clusters.{ClusterValue}
use Rattle.pm_cluster.proofs.ActForms.{its_own}
use Rattle.pm_cluster.proofs.Movers.{Claim, no_concentrator_move}
use Rattle.pm_base.proofs.Options.{none_of}
use Rattle.pm_cluster.proofs.Some.{some_only, none_more}
use Rattle.pm_cluster.proofs.cluster.Cluster.move_of_concentrator.Goals as goal

pub returns-then-is_some : goal.returns-then-is_some
returns-then-is_some c = record {
  plan = c.learn_any-made.ensures.plan;
  mine = c.learn_any-made.ensures.mine;
  none = c.learn_any-made.ensures.none;
  made = λ s stands.
      some_only c.learn_any-made.result _ _ _ (sym c.is_some.ensures ∙ c.if-is_some.true) (c.learn_any-made.ensures.made s stands);
}

pub returns-then-is_some-2 : goal.returns-then-is_some-2
returns-then-is_some-2 c =
    let plan = c.args.self.now.plan in
    let x = c.args.node.0 in
    let same = c.learn_any-made.ensures.none (none_of c.learn_any-made.result (sym c.is_some.ensures ∙ c.if-is_some.false)) in
    record {
      plan = c.publish-made.ensures.plan ∙ ap (λ (v : ClusterValue). v.plan) same;
      mine = its_own (plan_lists plan) x (act.Publish x) c.publish-made.result (λ n. refl) c.publish-made.ensures.form;
      none = λ e. c.publish-made.ensures.none e ∙ same;
      made = λ s stands.
          some_only c.publish-made.result _ _ _ (sym c.is_some-2.ensures ∙ c.if-is_some-2.true)
          (subst (Claim c.publish-made.result c.publish-made.new.self.core (act.Publish x)) same c.publish-made.ensures.made s stands);
    }

pub returns : goal.returns
returns c =
    let plan = c.args.self.now.plan in
    let x = c.args.node.0 in
    let no_learn = none_of c.learn_any-made.result (sym c.is_some.ensures ∙ c.if-is_some.false) in
    let no_publish = none_of c.publish-made.result (sym c.is_some-2.ensures ∙ c.if-is_some-2.false) in
    let same = c.learn_any-made.ensures.none no_learn in
    let still = c.publish-made.ensures.none no_publish ∙ same in
    let published = subst (Claim c.publish-made.result c.publish-made.new.self.core (act.Publish x)) same c.publish-made.ensures.made in
    record {
      plan = c.pass_on.ensures.plan ∙ ap (λ (v : ClusterValue). v.plan) still;
      mine = its_own (plan_lists plan) x (act.Pass x) c.pass_on.result (λ n. refl) c.pass_on.ensures.form;
      none = λ e. c.pass_on.ensures.none e ∙ still;
      made = λ s stands.
          none_more c.pass_on.result _ _ _
          (no_concentrator_move plan s x c.requires.concentrator.0 (MatchOption-at_none _ _ no_learn (c.learn_any-made.ensures.made s stands))
          (MatchOption-at_none _ _ no_publish (published s stands)))
          (subst (Claim c.pass_on.result c.pass_on.new.self.core (act.Pass x)) still c.pass_on.ensures.made s stands);
    }
