-- Of `value_up_to`: what its loop over `digit` keeps.
use Rattle.std.proofs.Common.{◌≡◌, ◌≤◌, take}
use Rattle.pm_answer.specs.Arguments.{value_of}
use Rattle.pm_answer.proofs.arguments.value_up_to.Given as goal

abbrev pub invariant-loop-digit : goal.invariant-loop-digit
invariant-loop-digit l = record {
  value : l.value ≡ value_of (take l.digit-index l.digits);
  small : l.value ≤ l.high;
}
