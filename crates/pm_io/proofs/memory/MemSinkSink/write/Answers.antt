-- Of `MemSinkSink::write`: its clauses `bound`, `fails` and `refused`.
use Rattle.std.proofs.Common.{rules}
use Rattle.pm_io.proofs.memory.MemSinkSink.write.Goals as goal

pub returns-clause-bound : goal.returns-clause-bound
returns-clause-bound c = search rules

pub returns-clause-fails : goal.returns-clause-fails
returns-clause-fails c = search rules

pub returns-clause-refused : goal.returns-clause-refused
returns-clause-refused c = search rules
