-- Of `Index::find_parent`: its clause `parent`.
use Rattle.std.proofs.Common.{arith}
use Rattle.std.proofs.lemmas.Grind.{common_steps}
use Rattle.pm_tree.proofs.index.Index.find_parent.Goals as goal

pub returns-clause-parent : goal.returns-clause-parent
returns-clause-parent c = grind (arith, common_steps)
