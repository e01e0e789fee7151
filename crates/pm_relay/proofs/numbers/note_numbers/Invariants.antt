-- Of `note_numbers`: what its loop over `child` keeps.
use Rattle.std.proofs.Common.{◌≡◌, ℕ, ◌<◌, length}
use Rattle.pm_relay.specs.Numbers.{child_number, head_number}
use Rattle.pm_relay.proofs.numbers.note_numbers.Given as goal

abbrev pub invariant-loop-child : goal.invariant-loop-child
invariant-loop-child l = record {
  same_length : length l.numbers.items ≡ length l.initial.numbers.items;
  noted : (k : ℕ) → k < l.child → child_number l.numbers.items k ≡ head_number l.heads k;
}
