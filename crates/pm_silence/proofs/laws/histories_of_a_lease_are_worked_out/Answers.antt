-- Of `histories_of_a_lease_are_worked_out`: each history computes, and which clocks the law takes.
use Rattle.std.proofs.Common.{refl, arith, ◌+◌, cond, ltb}
use Rattle.std.proofs.lemmas.Bool.Decides.{nat_tests}
use Rattle.pm_silence.specs.Clocks.{IsNotSlow, IsNotFast}
use Rattle.pm_silence.proofs.laws.histories_of_a_lease_are_worked_out.Goals as goal

ahead_slow : IsNotSlow 0 (λ t. cond (ltb t 10000) t (t + 3600000))
ahead_slow = record { rises = λ s d. grind (arith, nat_tests); slow = λ s d. grind (arith, nat_tests) }

right_fast : IsNotFast 0 (λ t. t)
right_fast = record { rises = λ s d. omega arith; fast = λ s d. omega arith }

pub returns : goal.returns
returns c = record {
  asleep = (refl, refl);
  stands_still = λ e small are. let slow = (are.control 0).slow 10000 2000000 in omega (arith, small, slow);
  short = (refl, refl);
  long = (refl, refl);
  paused = refl;
  replay = (refl, refl, refl);
  ahead = (record { control = λ _. ahead_slow; parent = λ _. right_fast }, refl, refl);
  back = refl;
  parent_ahead = refl;
}
