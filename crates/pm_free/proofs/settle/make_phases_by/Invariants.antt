-- Of `make_phases_by`: what its loop over `phase` keeps.
use Rattle.std.proofs.Common.{◌≡◌, ◌+◌, ◌-◌, length}
use Rattle.pm_nodes.specs.DeviceAgents.{AreAgents}
use Rattle.pm_free.specs.Links.{AreKept}
use Rattle.pm_free.specs.Nodes.{StandAfter}
use Rattle.pm_free.proofs.Chain.{HaveLeft}
use Rattle.pm_free.proofs.settle.make_phases_by.Given as goal

abbrev pub invariant-loop-phase : goal.invariant-loop-phase
invariant-loop-phase g l = (l.board.plan ≡ l.fn.board.plan) × AreAgents l.board.plan l.agents × (length l.kept.items + 1 ≡ l.phase)
    × AreKept l.kept.items × StandAfter l.board.plan (l.phase - 1) l.nodes × HaveLeft l.board.plan l.kept.items l.nodes.parts.items
