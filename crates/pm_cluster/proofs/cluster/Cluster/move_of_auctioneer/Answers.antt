-- Of `Cluster::move_of_auctioneer`: what it ensures.
use Rattle.std.proofs.Common.{sym, subst, ◌∙◌, ap, refl}
use Rattle.std.proofs.lemmas.Option.{MatchOption-at_none}
use Rattle.pm_market.specs.declared.moves.Act.TheVariants as act
use Rattle.pm_plan.specs.Market.{plan_lists}
use Rattle.pm_cluster.specs.Clusters.{ClusterValue}
use Rattle.pm_cluster.proofs.ActForms.{its_own}
use Rattle.pm_cluster.proofs.Movers.{Claim, no_auctioneer_move}
use Rattle.pm_base.proofs.Options.{none_of}
use Rattle.pm_cluster.proofs.Some.{some_only, none_more}
use Rattle.pm_cluster.proofs.cluster.Cluster.move_of_auctioneer.Goals as goal

pub returns-then-is_some : goal.returns-then-is_some
returns-then-is_some c = record {
  plan = c.learn_any-made.ensures.plan;
  mine = c.learn_any-made.ensures.mine;
  none = c.learn_any-made.ensures.none;
  made = λ s stands.
      some_only c.learn_any-made.result _ _ _ (sym c.is_some.ensures ∙ c.if-is_some.true) (c.learn_any-made.ensures.made s stands);
}

pub returns : goal.returns
returns c =
    let plan = c.args.self.now.plan in
    let nothing = none_of c.learn_any-made.result (sym c.is_some.ensures ∙ c.if-is_some.false) in
    let same = c.learn_any-made.ensures.none nothing in
    record {
      plan = c.clear.ensures.plan ∙ ap (λ (v : ClusterValue). v.plan) same;
      mine = its_own (plan_lists plan) 0 act.Clear c.clear.result (λ n. refl) c.clear.ensures.form;
      none = λ e. c.clear.ensures.none e ∙ same;
      made = λ s stands.
          none_more c.clear.result _ _ _ (no_auctioneer_move plan s (MatchOption-at_none _ _ nothing (c.learn_any-made.ensures.made s stands)))
          (subst (Claim c.clear.result c.clear.new.self.core act.Clear) same c.clear.ensures.made s stands);
    }
