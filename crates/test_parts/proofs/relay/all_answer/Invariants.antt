-- Of `all_answer`: what its loop over `place` keeps.
use Rattle.std.proofs.Common.{◌≡◌}
use Rattle.test_parts.proofs.relay.all_answer.Given as goal

abbrev pub invariant-loop-place : goal.invariant-loop-place
invariant-loop-place g l = l.relay.gathered.cache.steps ≡ 2
