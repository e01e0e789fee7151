-- Of `drop_given`: its clause `half`.
use Rattle.std.proofs.Common.{rules}
use Rattle.pm_wire.proofs.decoder.drop_given.Goals as goal

pub returns-clause-half : goal.returns-clause-half
returns-clause-half c = search rules
