-- Of `place_in_row`: its clause `inside`.
use Rattle.std.proofs.Common.{ap, arith}
use Rattle.pm_tree.specs.Entries.{place_of}
use Rattle.pm_stands.proofs.Places.{placed}
use Rattle.pm_cluster.proofs.tree.place_in_row.Goals as goal

pub returns-clause-inside : goal.returns-clause-inside
returns-clause-inside c = omega (
  arith,
  placed c.args.plan.now c.tree.ensures.sound c.args.node.0 c.requires.node,
  c.place.ensures,
  ap (λ e. place_of e c.args.node.0) c.tree.ensures.tree,
)
