-- Of `take_promise`: the sums with the bands that the child keeps.
use Rattle.std.proofs.Common.{arith, ap, sym, ◌∙◌, []}
use Rattle.std.proofs.lemmas.Int.{ints}
use Rattle.pm_guard.specs.Guards.{GuardData, HasSums, worst, best}
use Rattle.pm_guard.proofs.Ends.{sums_set}
use Rattle.pm_guard.proofs.guard.Guard.take_promise.Goals as goal

sums : (c : goal.After-self-in-Some-2-1) → HasSums c.self.inside.children.items c.worst-worst.result c.best-best.result
sums c = record {
  few = c.self.invariant.few;
  bands = c.self.invariant.bands;
  is_worst = c.worst-worst.ensures.worst ∙ ap (λ (g : GuardData). worst g) (sym c.self.view_is);
  is_best = c.best-best.ensures.best ∙ ap (λ (g : GuardData). best g) (sym c.self.view_is);
}

pub invariant_of-self : goal.invariant_of-self
invariant_of-self c =
    let w = c.worst-worst.ensures.small in
    let b = c.best-best.ensures.small in
    let m = c.most-most.ensures in
    let l = c.least-least.ensures in
    let most = c.most.ensures in
    let least = c.least.ensures in
    let item = c.in-Some.ensures.item in
    sums_set c.self.inside.children.items c.worst-worst.result c.best-best.result c.args.child c.in-Some.held.now c.take_promise.new.self _ _ (sums c)
    item.3.0 (sym (item.3.1 [])) c.take_promise.ensures.small
    (omega (arith, ints, w, m.small, m.most, most.small, most.most)) (omega (arith, ints, b, l.small, l.least, least.small, least.least))
