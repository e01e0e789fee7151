-- Of `push_grid`: what it ensures.
use Rattle.std.proofs.Common.{rules, FitsSigned}
use Rattle.std.specs.Int.{w128}
use Rattle.std.proofs.lemmas.Int.{to_z-of_z}
use Rattle.pm_bill.proofs.text.push_grid.Goals as goal

pub returns : goal.returns
returns c =
    let amount : FitsSigned w128 c.args.grid.now.amount = search rules in
    let taken : FitsSigned w128 c.args.grid.now.taken = search rules in
    let given : FitsSigned w128 c.args.grid.now.given = search rules in
    simp to_z-of_z at c.writeln.ensures.bytes
