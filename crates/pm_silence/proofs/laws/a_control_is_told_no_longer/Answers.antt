-- Of `a_control_is_told_no_longer`: the least is no more than either.
use Rattle.std.proofs.Common.{ℕ, ◌-◌, ◌≤◌, not, arith}
use Rattle.std.proofs.lemmas.Bool.{and_parts, cond_both}
use Rattle.std.proofs.lemmas.Bool.Decides.{nat_tests}
use Rattle.pm_silence.specs.declared.silence.ControlOrder.TheVariants.{Holds, FallBack}
use Rattle.pm_silence.specs.Holding.{holds_at, used_of}
use Rattle.pm_silence.specs.Beating.{is_silent}
use Rattle.pm_silence.specs.Silencing.{holds_still, least, left_of, IsToldWithin}
use Rattle.pm_silence.proofs.laws.a_control_is_told_no_longer.Goals as goal

least_second : (a b : ℕ) → least a b ≤ b
least_second a b = grind (arith, nat_tests)

pub returns : goal.returns
returns c s validity now =
    cond_both (holds_still s validity now) (Holds (left_of s validity now)) FallBack (IsToldWithin s validity now)
    (λ holds. (
      (and_parts (holds_at s.hold validity now) (not (is_silent s.beats validity now)) holds).0,
      least_second (validity - (now - s.beats.heard)) (validity - used_of s.hold.since now),
    ))
    (λ _. tt)
