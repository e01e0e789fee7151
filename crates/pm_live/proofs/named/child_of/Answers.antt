-- Of `child_of`: its clause `none`.
use Rattle.std.proofs.Common.{◌∙◌, sym, arith}
use Rattle.std.proofs.lemmas.Fmt.{decimal_injective}
use Rattle.pm_live.proofs.named.child_of.Goals as goal

pub returns-then-child-eq0-clause-none : goal.returns-then-child-eq0-clause-none
returns-then-child-eq0-clause-none c = λ child is_child is.
    let zero = c.in_ok-child.child in
    let same = decimal_injective zero child (omega (arith, c.in_ok-child.ensures.most)) (omega (arith, is_child.last))
    (sym c.in_ok-child.ensures.text ∙ is) in
    omega (arith, same, is_child.first, c.if-child-eq0.true)
