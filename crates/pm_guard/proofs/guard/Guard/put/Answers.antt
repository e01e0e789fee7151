-- Of `put`: the sums with the child's new bands, and that nothing changes without memory.
use Rattle.std.proofs.Common.{◌≡◌, arith, ap, sym, ◌∙◌, [], List, Result, Ok, Err}
use Rattle.std.proofs.Math.ListN.{set}
use Rattle.std.specs.Prelude.{OnErr}
use Rattle.std.proofs.lemmas.Int.{ints}
use Rattle.std.proofs.lemmas.List.{set-get_or}
use Rattle.pm_guard.specs.Guards.{GuardData, HasSums, worst, best}
use Rattle.pm_guard.specs.declared.band.Band.{Band}
use Rattle.pm_guard.proofs.Ends.{sums_set}
use Rattle.pm_guard.proofs.guard.Guard.put.Goals as goal

on_err : {T E P : Type 0} (r : Result T E) → P → OnErr r P
on_err (Ok x) p = tt
on_err (Err e) p = p

pub returns-in_err-tell-clause-err : goal.returns-in_err-tell-clause-err
returns-in_err-tell-clause-err c =
    let items = c.self.inside.children.items in
    let back : set items c.args.child c.tell.new.self ≡ items =
    ap (λ (l : List Band). set items c.args.child l) (c.in_err-tell.ensures.err ∙ c.in-Some.ensures.value)
    ∙ set-get_or items c.args.child c.in-Some.held.now in
    on_err c.from_residual.result (ap (λ (l : List (List Band)). record { limits = c.self.inside.limits; held = l }) back ∙ c.self.view_is)

sums : (c : goal.After-self-in-Some-2-1) → HasSums c.self.inside.children.items c.worst-worst.result c.best-best.result
sums c = record {
  few = c.self.invariant.few;
  bands = c.self.invariant.bands;
  is_worst = c.worst-worst.ensures.worst ∙ ap (λ (g : GuardData). worst g) (sym c.self.view_is);
  is_best = c.best-best.ensures.best ∙ ap (λ (g : GuardData). best g) (sym c.self.view_is);
}

pub invariant_of-self-in-Some : goal.invariant_of-self-in-Some
invariant_of-self-in-Some c =
    let w = c.worst-worst.ensures.small in
    let b = c.best-best.ensures.small in
    let m = c.most-most.ensures in
    let l = c.least-least.ensures in
    let most = c.most.ensures in
    let least = c.least.ensures in
    let item = c.in-Some.ensures.item in
    sums_set c.self.inside.children.items c.worst-worst.result c.best-best.result c.args.child c.in-Some.held.now c.tell.new.self _ _ (sums c)
    item.3.0 (sym (item.3.1 [])) c.in_ok-tell.ensures.small
    (omega (arith, ints, w, m.small, m.most, most.small, most.most)) (omega (arith, ints, b, l.small, l.least, least.small, least.least))
