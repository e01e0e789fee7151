-- Of `Board::journal`: its clauses `forward` and `bounded`.
use Rattle.std.proofs.Common.{subst, ◌≤◌, length}
use Rattle.pm_plan.specs.Plans.{plan_bound}
use Rattle.pm_cluster.specs.Acts.{NeverGoesBack}
use Rattle.pm_cluster.proofs.Runs.{run_forward, run_bounded}
use Rattle.pm_board.specs.Boards.{BoardValue}
use Rattle.pm_board.proofs.board.Board.journal.Goals as goal

pub returns-clause-forward : goal.returns-clause-forward
returns-clause-forward c =
    subst (λ (v : BoardValue). NeverGoesBack v.plan v.lines) c.self.view_is
    (run_forward c.self.inside.cluster.plan c.self.invariant.is_plan _ c.self.inside.cluster.core c.self.inside.journal.lines c.self.invariant.run)

pub returns-clause-bounded : goal.returns-clause-bounded
returns-clause-bounded c =
    subst (λ (v : BoardValue). length v.lines ≤ plan_bound v.plan) c.self.view_is
    (run_bounded c.self.inside.cluster.plan c.self.invariant.is_plan _ c.self.inside.cluster.core c.self.inside.journal.lines c.self.invariant.run)
