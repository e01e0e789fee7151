-- Of `push_answers`: what its loop over `target` keeps.
use Rattle.std.proofs.Common.{◌≡◌, ◌++◌, string_bytes, take}
use Rattle.std.specs.Prelude.{flat_map}
use Rattle.pm_ask.specs.Texts.{answer_line}
use Rattle.pm_ask.proofs.text.push_answers.Given as goal

abbrev pub invariant-loop-target : goal.invariant-loop-target
invariant-loop-target l = string_bytes l.text ≡ string_bytes l.initial.text ++ flat_map (answer_line l.basis l.curve) (take l.target-index l.targets)
