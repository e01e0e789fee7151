-- Of `ArrayBid::take_from`: its clauses `rest` and `cost`; what the call of `take_each` requires; what the type keeps.
use Rattle.std.proofs.Common.{◌∙◌, sym, ap, subst, ◌+◌, length}
use Rattle.pm_base.specs.Limits.{AreSteps, sum_limit}
use Rattle.pm_bid.specs.Bids.{pairwise_difference, AllWithinLimit}
use Rattle.pm_bid.proofs.WrittenOver.{written_over}
use Rattle.pm_bid.proofs.array_bid.ArrayBid.take_from.Goals as goal

pub take_each-requires-clause-equal_lengths : goal.take_each-requires-clause-equal_lengths
take_each-requires-clause-equal_lengths g c =
    ap length (c.deref_mut.ensures.value ∙ c.self.view_is) ∙ c.requires.equal_lengths ∙ sym (ap length (c.deref.ensures.value ∙ c.other.view_is))

pub take_each-requires-clause-within : goal.take_each-requires-clause-within
take_each-requires-clause-within g c =
    subst (λ bid. AllWithinLimit sum_limit (pairwise_difference bid c.deref.result.now)) (sym (c.deref_mut.ensures.value ∙ c.self.view_is))
    (subst (λ bid. AllWithinLimit sum_limit (pairwise_difference c.args.self.now bid)) (sym (c.deref.ensures.value ∙ c.other.view_is)) c.requires.within)

pub returns-clause-rest : goal.returns-clause-rest
returns-clause-rest g c =
    written_over c.take_each.new.demands c.self.inside.demands.items c.self.inside.demands.len (c.take_each.auto.demands ∙ c.deref_mut.ensures.len)
    ∙ c.take_each.ensures.rest ∙ ap (λ bid. pairwise_difference bid c.deref.result.now) (c.deref_mut.ensures.value ∙ c.self.view_is)
    ∙ ap (pairwise_difference c.args.self.now) (c.deref.ensures.value ∙ c.other.view_is)

pub invariant_of-self : goal.invariant_of-self
invariant_of-self g c =
    let same = c.take_each.auto.demands in
    let is = written_over c.take_each.new.demands c.self.inside.demands.items c.self.inside.demands.len (same ∙ c.deref_mut.ensures.len) in
    rw is (record {
      steps = subst AreSteps (sym (same ∙ ap length c.deref_mut.ensures.value)) c.self.invariant.steps;
      within = subst (AllWithinLimit sum_limit) (sym (sym is ∙ returns-clause-rest g c)) c.requires.within;
    })

pub returns-clause-cost : goal.returns-clause-cost
returns-clause-cost g c = c.take_each.ensures.cost ∙ ap (λ bid. c.args.counter.now + length bid) (c.deref_mut.ensures.value ∙ c.self.view_is)
