-- Of `write_prices`: what its loop over `place` keeps.
use Rattle.std.proofs.Common.{◌≡◌, ◌+◌, ◌-◌, ◌*◌, ◌≤◌, ◌++◌, length, drop, vec_len}
use Rattle.std.specs.Prelude.{vec_capacity}
use Rattle.pm_wire.specs.Answers.{prices, reply_bytes}
use Rattle.pm_wire.proofs.market.write_prices.Given as goal

abbrev pub invariant-loop-place : goal.invariant-loop-place
invariant-loop-place l = record {
  written : l.out.items ++ reply_bytes (prices l.clearing.index l.clearing.step (l.place + 1) (drop l.place l.clearing.heads.now))
      ≡ l.fn.out.items ++ reply_bytes (prices l.clearing.index l.clearing.step 1 l.clearing.heads.now);
  capacity : vec_capacity l.fn.out ≤ vec_capacity l.out;
  room : vec_len l.out + 13 * (length l.clearing.heads.now - l.place) ≤ vec_capacity l.out;
}
