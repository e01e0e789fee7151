-- Of `flush`: its clause `all`.
use Rattle.std.proofs.Common.{rules}
use Rattle.pm_wire.proofs.stream.flush.Goals as goal

pub returns-clause-all : goal.returns-clause-all
returns-clause-all g c = search rules
