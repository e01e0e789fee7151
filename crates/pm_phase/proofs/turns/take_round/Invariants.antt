-- Of `take_round`: what its loop over `at` keeps.
use Rattle.std.proofs.Common.{◌≡◌, All, ◌-◌, length}
use Rattle.pm_phase.specs.Ends.{AreOf}
use Rattle.pm_phase.specs.Telling.{AllStepOn}
use Rattle.pm_phase.specs.Nodes.{numbers_of_nodes}
use Rattle.pm_phase.proofs.turns.take_round.Given as goal

abbrev pub invariant-loop-at : goal.invariant-loop-at
invariant-loop-at g l = All (AreOf l.links) l.nodes × (numbers_of_nodes l.nodes ≡ numbers_of_nodes l.fn.nodes)
    × AllStepOn l.phase.plan.now l.phase.changes.now l.fn.nodes l.nodes

abbrev pub decreases-loop-at : goal.decreases-loop-at
decreases-loop-at g l = length l.nodes - l.at
