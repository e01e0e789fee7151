-- Of `ArrayBid::last_at_least`: its clauses `step`, `last`, `inside` and 3 more.
use Rattle.std.proofs.Common.{◌≡◌, ◌∙◌, sym, ap, subst, ◌+◌, ◌<◌, ◌≤◌, length, w64, arith}
use Rattle.std.proofs.lemmas.Int.{to_z-of_z}
use Rattle.pm_bid.specs.Clearing.{last_at_least, IsLastAtLeast}
use Rattle.pm_bid.proofs.FoundStep.{last_at_least_is_last}
use Rattle.pm_bid.proofs.array_bid.ArrayBid.last_at_least.Goals as goal

pub returns-clause-step : goal.returns-clause-step
returns-clause-step g c =
    c.find_at_least.ensures.step ∙ ap (λ l. last_at_least l c.deref.result.now) (to_z-of_z w64 c.args.limit c.ranges.limit)
    ∙ ap (last_at_least c.args.limit) (c.deref.ensures.value ∙ c.self.view_is)

pub returns-clause-last : goal.returns-clause-last
returns-clause-last g c =
    let at = c.find_at_least.ensures.step ∙ ap (λ l. last_at_least l c.deref.result.now) (to_z-of_z w64 c.args.limit c.ranges.limit) in
    let some : 1 ≤ length c.deref.result.now = omega (arith, c.find_at_least.ensures.inside) in
    subst (λ bid. IsLastAtLeast c.args.limit bid c.find_at_least.result) (c.deref.ensures.value ∙ c.self.view_is)
    (subst (IsLastAtLeast c.args.limit c.deref.result.now) (sym at) (last_at_least_is_last c.args.limit c.deref.result.now some))

pub returns-clause-inside : goal.returns-clause-inside
returns-clause-inside g c = subst (λ bid. c.find_at_least.result < length bid) (c.deref.ensures.value ∙ c.self.view_is) c.find_at_least.ensures.inside

pub returns-clause-cost : goal.returns-clause-cost
returns-clause-cost g c =
    subst (λ bid. c.find_at_least.new.counter ≤ c.args.counter.now + length bid) (c.deref.ensures.value ∙ c.self.view_is) c.find_at_least.ensures.cost

pub returns-clause-rises : goal.returns-clause-rises
returns-clause-rises g c = c.find_at_least.ensures.rises

pub returns-clause-looks : goal.returns-clause-looks
returns-clause-looks g c =
    subst (λ bid. c.find_at_least.new.counter + c.find_at_least.result ≡ c.args.counter.now + length bid) (c.deref.ensures.value ∙ c.self.view_is)
    c.find_at_least.ensures.looks
