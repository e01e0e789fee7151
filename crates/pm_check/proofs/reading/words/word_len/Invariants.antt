-- Of `word_len`: what its loop over `at` keeps.
use Rattle.std.proofs.Common.{◌≡◌, true, take}
use Rattle.pm_check.specs.MoveReading.{is_word}
use Rattle.pm_check.proofs.reading.words.word_len.Given as goal

abbrev pub invariant-loop-at : goal.invariant-loop-at
invariant-loop-at l = is_word (take l.at l.bytes) ≡ true
