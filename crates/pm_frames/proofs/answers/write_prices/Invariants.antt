-- Of `write_prices`: what its loop over `place` keeps.
use Rattle.std.proofs.Common.{◌≡◌, ◌+◌, ◌-◌, ◌*◌, ◌≤◌, ◌++◌, length, drop, vec_len}
use Rattle.std.specs.Prelude.{vec_capacity}
use Rattle.pm_frames.specs.ParentFrames.{prices_bytes}
use Rattle.pm_frames.proofs.answers.write_prices.Given as goal

abbrev pub invariant-loop-place : goal.invariant-loop-place
invariant-loop-place l = record {
  written : l.out.items ++ prices_bytes l.basis l.clearing.index l.clearing.step (l.place + 1) (drop l.place l.clearing.heads.now)
      ≡ l.fn.out.items ++ prices_bytes l.basis l.clearing.index l.clearing.step 1 l.clearing.heads.now;
  capacity : vec_capacity l.fn.out ≤ vec_capacity l.out;
  room : vec_len l.out + 23 * (length l.clearing.heads.now - l.place) ≤ vec_capacity l.out;
}
