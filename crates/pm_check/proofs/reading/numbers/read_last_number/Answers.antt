-- Of `read_last_number`: what it ensures.
use Rattle.std.proofs.Common.{sym, refl}
use Rattle.pm_check.proofs.Readings.{reads_none, reads_last, number_word}
use Rattle.pm_check.proofs.reading.numbers.read_last_number.Goals as goal

pub returns-in_err-word : goal.returns-in_err-word
returns-in_err-word c =
    reads_none _ _ c.args.rest.now c.from_residual.result c.from_residual.ensures
    (λ n small same. c.in_err-word.ensures.none refl _ (number_word n small) (sym same))

pub returns : goal.returns
returns c = reads_last c.in_ok-word.word.now c.args.rest.now c.read_number.result c.in_ok-word.ensures.told.0 c.in_ok-word.ensures.told.1 c.read_number.ensures
