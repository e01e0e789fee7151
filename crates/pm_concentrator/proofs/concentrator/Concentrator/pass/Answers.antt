-- Of `Concentrator::pass`: its clause `prices`.
use Rattle.std.proofs.Common.{rules}
use Rattle.pm_concentrator.proofs.concentrator.Concentrator.pass.Goals as goal

pub returns-clause-prices : goal.returns-clause-prices
returns-clause-prices c = search rules
