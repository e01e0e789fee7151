-- Of `Index::check_name`: its clause `refused`.
use Rattle.std.proofs.Common.{rules}
use Rattle.pm_tree.proofs.index.Index.check_name.Goals as goal

pub returns-then-is_some-clause-refused : goal.returns-then-is_some-clause-refused
returns-then-is_some-clause-refused c = search rules
