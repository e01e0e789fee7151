-- Of `has_settled`: what its loop over `node` keeps.
use Rattle.std.proofs.Common.{ℕ, ◌<◌, ◌≤◌}
use Rattle.pm_phase.specs.SettledParts.{IsSettledNode}
use Rattle.pm_phase.proofs.settled.has_settled.Given as goal

abbrev pub invariant-loop-node : goal.invariant-loop-node
invariant-loop-node l = (x : ℕ) → 1 ≤ x → x < l.node → IsSettledNode l.plan l.parts l.before l.changes l.links l.index x
