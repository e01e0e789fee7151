-- Of `read_numbers`: what its loop over `child` keeps.
use Rattle.std.proofs.Common.{◌≡◌, ◌*◌, ◌+◌, ◌<◌, ◌^◌, ◌++◌, ◌≤◌, length, vec_len}
use Rattle.std.specs.Prelude.{vec_capacity}
use Rattle.std.specs.List.{AllByRecursion}
use Rattle.pm_base.specs.Limits.{most_nodes}
use Rattle.pm_frames.specs.Stored.{number_bytes}
use Rattle.pm_frames.proofs.stored.read_numbers.Given as goal

abbrev pub invariant-loop-child : goal.invariant-loop-child
invariant-loop-child g l = record {
  bytes : l.fn.bytes ≡ number_bytes l.numbers.items ++ l.rest;
  left : length l.rest + 4 * l._child ≡ 4 * most_nodes;
  fit : AllByRecursion (λ n. n < 2 ^ 32) l.numbers.items;
  count : length l.numbers.items ≡ l._child;
  filled : vec_len l.numbers ≡ l._child;
  room : most_nodes ≤ vec_capacity l.numbers;
}
