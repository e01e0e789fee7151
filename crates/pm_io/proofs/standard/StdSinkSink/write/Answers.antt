-- Of `StdSinkSink::write`: its clause `bound`.
use Rattle.std.proofs.Common.{rules}
use Rattle.pm_io.proofs.standard.StdSinkSink.write.Goals as goal

pub returns-in-Ok-clause-bound : goal.returns-in-Ok-clause-bound
returns-in-Ok-clause-bound g c = search rules
