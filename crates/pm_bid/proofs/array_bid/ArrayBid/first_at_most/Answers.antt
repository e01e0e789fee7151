-- Of `ArrayBid::first_at_most`: its clauses `step`, `first`, `inside` and 3 more.
use Rattle.std.proofs.Common.{◌∙◌, sym, ap, subst, ◌+◌, ◌<◌, ◌≤◌, length, w64, arith}
use Rattle.std.proofs.lemmas.Int.{to_z-of_z}
use Rattle.pm_bid.specs.Clearing.{first_at_most, IsFirstAtMost}
use Rattle.pm_bid.proofs.FoundStep.{first_at_most_is_first}
use Rattle.pm_bid.proofs.array_bid.ArrayBid.first_at_most.Goals as goal

pub returns-clause-step : goal.returns-clause-step
returns-clause-step g c =
    c.find_at_most.ensures.step ∙ ap (λ l. first_at_most l c.deref.result.now) (to_z-of_z w64 c.args.limit c.ranges.limit)
    ∙ ap (first_at_most c.args.limit) (c.deref.ensures.value ∙ c.self.view_is)

pub returns-clause-first : goal.returns-clause-first
returns-clause-first g c =
    let at = c.find_at_most.ensures.step ∙ ap (λ l. first_at_most l c.deref.result.now) (to_z-of_z w64 c.args.limit c.ranges.limit) in
    let some : 1 ≤ length c.deref.result.now = omega (arith, c.find_at_most.ensures.inside) in
    subst (λ bid. IsFirstAtMost c.args.limit bid c.find_at_most.result) (c.deref.ensures.value ∙ c.self.view_is)
    (subst (IsFirstAtMost c.args.limit c.deref.result.now) (sym at) (first_at_most_is_first c.args.limit c.deref.result.now some))

pub returns-clause-inside : goal.returns-clause-inside
returns-clause-inside g c = subst (λ bid. c.find_at_most.result < length bid) (c.deref.ensures.value ∙ c.self.view_is) c.find_at_most.ensures.inside

pub returns-clause-cost : goal.returns-clause-cost
returns-clause-cost g c =
    subst (λ bid. c.find_at_most.new.counter ≤ c.args.counter.now + length bid) (c.deref.ensures.value ∙ c.self.view_is) c.find_at_most.ensures.cost

pub returns-clause-rises : goal.returns-clause-rises
returns-clause-rises g c = c.find_at_most.ensures.rises

pub returns-clause-looks : goal.returns-clause-looks
returns-clause-looks g c = c.find_at_most.ensures.looks
