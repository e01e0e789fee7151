-- Of `make_rounds`: what lasts from round to round.
use Rattle.std.proofs.Common.{◌≡◌, All}
use Rattle.pm_phase.specs.Ends.{AreOf}
use Rattle.pm_phase.specs.Telling.{AllStepOn}
use Rattle.pm_phase.specs.Nodes.{numbers_of_nodes}
use Rattle.pm_phase.proofs.turns.make_rounds.Given as goal

abbrev pub invariant-loop : goal.invariant-loop
invariant-loop g l = All (AreOf l.links) l.nodes × (numbers_of_nodes l.nodes ≡ numbers_of_nodes l.fn.nodes)
    × AllStepOn l.phase.plan.now l.phase.changes.now l.fn.nodes l.nodes
