-- Of `word_len`: the turns of its loop over `at`.
use Rattle.std.proofs.Common.{arith}
use Rattle.pm_check.proofs.Splitting.{word_more}
use Rattle.pm_check.proofs.reading.words.word_len.Goals as goal

pub loop-at-preserved : goal.loop-at-preserved
loop-at-preserved c = word_more c.args.bytes.now c.loop-at.at (omega arith) c.loop-at.invariant (omega arith)
