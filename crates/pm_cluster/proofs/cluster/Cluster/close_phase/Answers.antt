-- Of `Cluster::close_phase`: what it ensures; that its numbers fit.
use Rattle.std.proofs.Common.{◌≡◌, ◌∙◌, sym, ap, subst, ℕ, ◌+◌, true, false, arith, refl, rules}
use Rattle.pm_market.specs.declared.moves.Move.TheVariants.{Close}
use Rattle.pm_plan.specs.Market.{plan_lists}
use Rattle.pm_stands.specs.Stands.{MakesMove}
use Rattle.pm_cluster.specs.Clusters.{ClusterValue}
use Rattle.pm_cluster.specs.ClusterFields.{core_of}
use Rattle.pm_cluster.proofs.ActForms.{no_form, few_closed}
use Rattle.pm_market.specs.declared.moves.Act.TheVariants as act
use Rattle.pm_cluster.proofs.cluster.Cluster.close_phase.Goals as goal

pub overflow_add-phase : goal.overflow_add-phase
overflow_add-phase c = omega (arith, few_closed c.self.inside.plan.now c.self.invariant.is_plan (core_of c.self.inside) c.self.invariant.stands)

pub returns-then-not-close : goal.returns-then-not-close
returns-then-not-close c =
    let off : c.close.result ≡ false = search rules in
    record {
      plan = c.close.ensures.plan;
      form = tt;
      none = λ e. search rules;
      made = λ s stands. no_form (plan_lists c.args.self.now.plan) s act.Close (c.close.ensures.refused off s stands);
    }

pub returns : goal.returns
returns c = record {
  plan = c.close.ensures.plan;
  form = refl;
  none = λ e. absurd (cc e);
  made = λ s stands.
      let on : c.close.result ≡ true = search rules in
      let same : s.closed + 1 ≡ c.self.inside.closed + 1 =
      ap (λ (n : ℕ). n + 1) (sym stands.closed ∙ sym (ap (λ (v : ClusterValue). v.core.closed) c.self.view_is)) in
      subst (λ (n : ℕ). MakesMove c.args.self.now.plan c.close.new.self.core s (Close n)) same (c.close.ensures.made on s stands);
}
