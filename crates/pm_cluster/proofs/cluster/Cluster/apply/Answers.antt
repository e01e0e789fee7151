-- Of `Cluster::apply`: its clauses `illegal`, `made`, `forward` and `bounded`; what the call of `act_each` requires.
use Rattle.std.proofs.Common.{◌≡◌, sym, subst, Result, Ok, Err, IfErr}
use Rattle.std.specs.Prelude.{IsErrAnd}
use Rattle.pm_market.specs.State.{start}
use Rattle.pm_plan.specs.Plans.{PlanData}
use Rattle.pm_stands.specs.Stands.{StandsFor}
use Rattle.pm_cluster.specs.Acts.{IsRunOf, AreRefused}
use Rattle.pm_cluster.proofs.Runs.{run_forward, run_bounded}
use Rattle.pm_cluster.proofs.cluster.Cluster.apply.Goals as goal
use Rattle.pm_cluster.proofs.cluster.Cluster.apply.Goals.{In_ok-act_each}

pub act_each-requires-clause-opened : goal.act_each-requires-clause-opened
act_each-requires-clause-opened c =
    subst (λ (plan : PlanData). StandsFor plan c.in_ok-cluster.cluster.core start) (sym c.in_ok-cluster.ensures.plan) c.in_ok-cluster.ensures.start

made : (c : In_ok-act_each) → IsRunOf c.args.plan.now c.args.acts.now c.act_each.new.self.core c.act_each.new.journal.lines
made c =
    subst (λ (plan : PlanData). IsRunOf plan c.args.acts.now c.act_each.new.self.core c.act_each.new.journal.lines) c.in_ok-cluster.ensures.plan
    c.in_ok-act_each.ensures.made

-- what holds of a fault holds of the answer that hands it on
handed_on : {Y F : Type 0} (r : Result Y F) (e : F) (P : F → Type 0) → IsErrAnd r (λ y. y ≡ e) → P e → IfErr r P
handed_on (Ok x) e P same holds = tt
handed_on (Err y) e P same holds = subst P (sym same) holds

pub returns-in_err-act_each-clause-illegal : goal.returns-in_err-act_each-clause-illegal
returns-in_err-act_each-clause-illegal c =
    handed_on _ _ (AreRefused c.args.plan.now c.args.acts.now) c.from_residual-in_err-act_each.ensures.1
    (subst (λ (plan : PlanData). AreRefused plan c.args.acts.now c.in_err-act_each.field-0.0) c.in_ok-cluster.ensures.plan
    c.in_err-act_each.ensures.illegal)

pub returns-clause-made : goal.returns-clause-made
returns-clause-made c = made (goal.at.returns-clause-made c).In_ok-act_each

pub returns-clause-forward : goal.returns-clause-forward
returns-clause-forward c =
    run_forward c.args.plan.now c.open.ensures.sound c.args.acts.now c.act_each.new.self.core c.act_each.new.journal.lines (made
    (goal.at.returns-clause-forward c).In_ok-act_each)

pub returns-clause-bounded : goal.returns-clause-bounded
returns-clause-bounded c =
    run_bounded c.args.plan.now c.open.ensures.sound c.args.acts.now c.act_each.new.self.core c.act_each.new.journal.lines (made
    (goal.at.returns-clause-bounded c).In_ok-act_each)
