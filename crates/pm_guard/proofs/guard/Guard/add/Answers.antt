-- Of `add`: the sums with the new child.
use Rattle.std.proofs.Common.{arith, ap, sym, subst, ◌∙◌, ◌+ℤ◌, to_z, of_z, w64}
use Rattle.std.proofs.lemmas.Int.{ints}
use Rattle.pm_guard.specs.Guards.{GuardData, HasSums, worst, best}
use Rattle.pm_guard.proofs.Ends.{sums_push}
use Rattle.pm_guard.proofs.guard.Guard.add.Goals as goal

sums : (c : goal.After-self-2-1) → HasSums c.self.inside.children.items c.worst-worst.result c.best-best.result
sums c = record {
  few = c.self.invariant.few;
  bands = c.self.invariant.bands;
  is_worst = c.worst-worst.ensures.worst ∙ ap (λ (g : GuardData). worst g) (sym c.self.view_is);
  is_best = c.best-best.ensures.best ∙ ap (λ (g : GuardData). best g) (sym c.self.view_is);
}

pub invariant_of-self-2 : goal.invariant_of-self-2
invariant_of-self-2 c =
    let w = c.worst-worst.ensures.small in
    let b = c.best-best.ensures.small in
    let m = c.most-most.ensures in
    let l = c.least-least.ensures in
    let child = c.in_ok-child.child in
    let many = c.len.ensures in
    let room = c.if-len-ge-MOST_NODES.false in
    subst (λ items. HasSums items (to_z w64 (of_z w64 (to_z w64 (of_z w64 c.worst-worst.result) +ℤ to_z w64 (of_z w64 c.most-most.result))))
    (to_z w64 (of_z w64 (to_z w64 (of_z w64 c.best-best.result) +ℤ to_z w64 (of_z w64 c.least-least.result))))) (sym c.in_ok-push.ensures.items)
    (sums_push c.self.inside.children.items c.worst-worst.result c.best-best.result child _ _ (sums c) (omega (arith, many, room))
    c.in_ok-child.ensures.small (omega (arith, ints, w, m.small, m.most)) (omega (arith, ints, b, l.small, l.least)))
