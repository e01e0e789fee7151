-- What an act made of a cluster, by its fields.
use Rattle.std.proofs.Common.{◌≡◌, ap, ℕ}
use Rattle.std.specs.Prelude.{Some, None}
use Rattle.pm_market.specs.State.{State}
use Rattle.pm_market.specs.Moves.{Legal, act_of}
use Rattle.pm_market.specs.declared.moves.Move.{Move}
use Rattle.pm_market.specs.declared.moves.Act.{Act}
use Rattle.pm_plan.specs.Market.{plan_lists}
use Rattle.pm_stands.specs.Stands.{StandsFor, MakesMove}
use Rattle.pm_cluster.specs.Acts.{NoMoveBy, IsMadeBy}
use Rattle.pm_cluster.specs.Clusters.{ClusterValue}
use Rattle.pm_cluster.specs.ClusterFields.{core_of, cluster_of}
use Rattle.pm_cluster.specs.declared.cluster.Cluster.TheInside.{Inside}
use Rattle.pm_cluster.proofs.ActForms.{numbered, no_form}
use Rattle.pm_cluster.proofs.Kept.{sent, of_value}

-- a move of the act's form that changes links and the ends of links alone was made by the act
pub made_by : (old new : Inside) (v : ClusterValue) (a : Act) (m : Move) → cluster_of old ≡ v → act_of m ≡ a →
    ((s : State) → StandsFor old.plan.now (core_of old) s → MakesMove old.plan.now (core_of (sent old new)) s m) →
    IsMadeBy a v (cluster_of (sent old new)) (Some m)
made_by old new v a m is form makes = record {
  plan = ap (λ (v : ClusterValue). v.plan) is;
  form = form;
  none = λ e. absurd (cc e);
  made = of_value old v is (λ plan s. MakesMove plan (core_of (sent old new)) s m) makes;
}

-- where a move of the act's form is legal under no number, an act that leaves the cluster as it was made none
pub made_none : (old : Inside) (v new : ClusterValue) (a : Act) → cluster_of old ≡ v → new ≡ v →
    ((s : State) → StandsFor old.plan.now (core_of old) s → (n : ℕ) → Legal (plan_lists old.plan.now) s (numbered a n) → ⊥) →
    IsMadeBy a v new None
made_none old v new a is same none = record {
  plan = ap (λ (v : ClusterValue). v.plan) same;
  form = tt;
  none = λ e. same;
  made = of_value old v is (λ plan s. NoMoveBy plan s a) (λ s stands. no_form (plan_lists old.plan.now) s a (none s stands));
}
