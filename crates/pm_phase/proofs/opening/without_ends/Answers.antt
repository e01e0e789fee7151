-- Of `without_ends`: the turns of its loop over `part`; its clause `numbers`.
use Rattle.std.proofs.Common.{◌∙◌, ◌++◌, All, Contains, [], ap, sym, subst, refl, arith}
use Rattle.std.proofs.lemmas.List.{append-nil}
use Rattle.std.proofs.lemmas.List.Elements.{All-push, All-head, All-tail, All-contains_itself}
use Rattle.pm_phase.specs.Ends.{AreOf, IsDownOf}
use Rattle.pm_phase.specs.Beginning.{StartsFrom}
use Rattle.pm_phase.specs.Nodes.{numbers_of_parts, numbers_of_nodes}
use Rattle.pm_phase.proofs.Numbers.{node_made, none_left}
use Rattle.pm_phase.proofs.opening.without_ends.Goals as goal

pub loop-part-init : goal.loop-part-init
loop-part-init c =
    let parts = c.args.parts.items in
    let same = sym c.into_iter-part-iterator.ensures.into_iter_gives.0 in
    let none = c.in_ok-nodes.ensures.items in
    let rest = c.into_iter-part-iterator.result.rest.items in (
      subst (All (AreOf [])) (sym none) (λ k d inside. absurd (omega (arith, inside))),
      ap (λ ns. numbers_of_nodes ns ++ numbers_of_parts rest) none ∙ ap numbers_of_parts (sym same),
      subst (All (StartsFrom parts)) (sym none) (λ k d inside. absurd (omega (arith, inside))),
      subst (All (Contains parts)) same (All-contains_itself parts),
    )

pub loop-part-preserved : goal.loop-part-preserved
loop-part-preserved c =
    let nodes = c.loop-part.nodes.items in
    let rest = c.next.new.self.rest.items in
    let downs = subst (All (IsDownOf [])) (sym c.new.ensures.items) (λ k d inside. absurd (omega (arith, inside))) in
    let all = subst (All (AreOf [])) (sym c.in_ok-push.ensures.items) (All-push (AreOf []) _ _ c.loop-part.invariant.0 (record { up = tt; downs = downs })) in
    let numbers = ap (λ ns. numbers_of_nodes ns ++ numbers_of_parts rest) c.in_ok-push.ensures.items
    ∙ node_made nodes _ c.in-Some.part rest c.begin.ensures.number
    ∙ ap (λ ps. numbers_of_nodes nodes ++ numbers_of_parts ps) (sym c.in-Some.ensures.steps.0)
    ∙ c.loop-part.invariant.1 in
    let parts = c.args.parts.items in
    let among = subst (All (Contains parts)) c.in-Some.ensures.steps.0 c.loop-part.invariant.3 in
    let starts = subst (All (StartsFrom parts)) (sym c.in_ok-push.ensures.items) (All-push (StartsFrom parts) _ _ c.loop-part.invariant.2 (record {
      part = c.in-Some.part;
      has = All-head (Contains parts) c.in-Some.part rest among;
      number = c.begin.ensures.number;
      begun = c.begin.ensures.begun;
      no_up = refl;
      no_downs = c.new.ensures.items;
    })) in
    (all, numbers, starts, All-tail (Contains parts) c.in-Some.part rest among)

pub returns-clause-numbers : goal.returns-clause-numbers
returns-clause-numbers c =
    let nodes = c.loop-part.nodes.items in
    let rest = c.loop-part.part-iterator.rest in
    let none = none_left rest.items (omega (arith, c.in-None.ensures.steps.0, rest.ok.0)) in
    sym (append-nil (numbers_of_nodes nodes)) ∙ ap (λ ps. numbers_of_nodes nodes ++ numbers_of_parts ps) (sym none) ∙ c.loop-part.invariant.1
