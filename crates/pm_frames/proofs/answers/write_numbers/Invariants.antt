-- Of `write_numbers`: what its loop over `number` keeps.
use Rattle.std.proofs.Common.{◌≡◌, ◌+◌, ◌*◌, ◌≤◌, ◌++◌, take, vec_len}
use Rattle.std.specs.Prelude.{vec_capacity}
use Rattle.pm_frames.specs.Stored.{number_bytes}
use Rattle.pm_frames.proofs.answers.write_numbers.Given as goal

abbrev pub invariant-loop-number : goal.invariant-loop-number
invariant-loop-number l = record {
  written : l.out.items ≡ l.fn.out.items ++ number_bytes (take l.number-index l.numbers);
  length : vec_len l.out ≡ vec_len l.fn.out + 4 * l.number-index;
  capacity : vec_capacity l.fn.out ≤ vec_capacity l.out;
}
