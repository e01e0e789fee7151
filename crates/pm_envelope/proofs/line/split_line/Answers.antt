-- Of `split_line`: its clause `some`.
use Rattle.std.proofs.Common.{arith}
use Rattle.std.proofs.lemmas.Grind.{elements}
use Rattle.pm_envelope.proofs.line.split_line.Goals as goal

pub returns-clause-some : goal.returns-clause-some
returns-clause-some c = grind (arith, elements)
