-- Of `Cluster::learn_any`: what its loop over `child` keeps.
use Rattle.std.proofs.Common.{◌≡◌, ℕ, ◌<◌}
use Rattle.pm_market.specs.State.{State}
use Rattle.pm_market.specs.Moves.{Legal}
use Rattle.pm_market.specs.declared.moves.Move.TheVariants.{Learn}
use Rattle.pm_plan.specs.Market.{plan_lists}
use Rattle.pm_stands.specs.Core.{child_at}
use Rattle.pm_stands.specs.Stands.{StandsFor}
use Rattle.pm_cluster.proofs.cluster.Cluster.learn_any.Given as goal

abbrev pub invariant-loop-child : goal.invariant-loop-child
invariant-loop-child l = record {
  same : l.self ≡ l.fn.self;
  none : (s : State) → StandsFor l.fn.self.plan l.fn.self.core s →
      (k : ℕ) → k < l.child-index → (number : ℕ) → Legal (plan_lists l.fn.self.plan) s (Learn (child_at l.fn.self.plan l.fn.node.0 k) number) → ⊥;
}
