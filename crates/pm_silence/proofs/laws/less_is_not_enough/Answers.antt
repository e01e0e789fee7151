-- Of `less_is_not_enough`: the clocks are as they have to be, and each run computes.
use Rattle.std.proofs.Common.{refl, arith}
use Rattle.pm_silence.specs.Clocks.{IsNotSlow, IsNotFast}
use Rattle.pm_silence.specs.Worked.{slow_clock, fast_clock}
use Rattle.pm_silence.proofs.laws.less_is_not_enough.Goals as goal

is_slow : IsNotSlow 10000 slow_clock
is_slow = record { rises = λ s d. omega arith; slow = λ s d. omega arith }

is_fast : IsNotFast 10000 fast_clock
is_fast = record { rises = λ s d. omega arith; fast = λ s d. omega arith }

right_slow : IsNotSlow 0 (λ t. t)
right_slow = record { rises = λ s d. omega arith; slow = λ s d. omega arith }

right_fast : IsNotFast 0 (λ t. t)
right_fast = record { rises = λ s d. omega arith; fast = λ s d. omega arith }

pub returns : goal.returns
returns c = record {
  clocks = (record { control = λ _. is_slow; parent = λ _. is_fast }, record { control = λ _. right_slow; parent = λ _. right_fast });
  lives = (refl, refl);
  enough = omega arith;
  tight = refl;
  just = refl;
  confirmed = refl;
  coming = refl;
  leaving = refl;
  old_number = refl;
  sleeping = refl;
  stored_time = refl;
}
