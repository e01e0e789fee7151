-- Of `hears_nothing_newer`: what its loop over `child` keeps.
use Rattle.std.proofs.Common.{ℕ, ◌<◌, ◌≤◌}
use Rattle.pm_relay.specs.Numbers.{child_number, head_number}
use Rattle.pm_relay.proofs.numbers.hears_nothing_newer.Given as goal

abbrev pub invariant-loop-child : goal.invariant-loop-child
invariant-loop-child l = (k : ℕ) → k < l.child → head_number l.heads k ≤ child_number l.numbers k
