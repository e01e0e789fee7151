-- Of `push_breaks`: what its loop over `of_step` keeps.
use Rattle.std.proofs.Common.{◌≡◌, ◌++◌, string_bytes, take}
use Rattle.std.specs.Prelude.{flat_map}
use Rattle.pm_ask.specs.Texts.{break_line}
use Rattle.pm_ask.proofs.text.push_breaks.Given as goal

abbrev pub invariant-loop-of_step : goal.invariant-loop-of_step
invariant-loop-of_step l = string_bytes l.text ≡ string_bytes l.initial.text ++ flat_map (break_line l.basis) (take l.of_step-index l.breaks)
