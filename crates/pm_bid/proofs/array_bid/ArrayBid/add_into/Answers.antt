-- Of `ArrayBid::add_into`: its clauses `sum` and `cost`; what the call of `add_each` requires; what the type keeps.
use Rattle.std.proofs.Common.{◌∙◌, sym, ap, subst, ◌+◌, length}
use Rattle.pm_base.specs.Limits.{AreSteps, sum_limit}
use Rattle.pm_bid.specs.Bids.{pairwise_sum, AllWithinLimit}
use Rattle.pm_bid.proofs.WrittenOver.{written_over}
use Rattle.pm_bid.proofs.array_bid.ArrayBid.add_into.Goals as goal

pub add_each-requires-clause-equal_lengths : goal.add_each-requires-clause-equal_lengths
add_each-requires-clause-equal_lengths g c =
    ap length (c.deref_mut.ensures.value ∙ c.self.view_is) ∙ c.requires.equal_lengths ∙ sym (ap length (c.deref.ensures.value ∙ c.other.view_is))

pub add_each-requires-clause-within : goal.add_each-requires-clause-within
add_each-requires-clause-within g c =
    subst (λ bid. AllWithinLimit sum_limit (pairwise_sum bid c.deref.result.now)) (sym (c.deref_mut.ensures.value ∙ c.self.view_is))
    (subst (λ bid. AllWithinLimit sum_limit (pairwise_sum c.args.self.now bid)) (sym (c.deref.ensures.value ∙ c.other.view_is)) c.requires.within)

pub returns-clause-sum : goal.returns-clause-sum
returns-clause-sum g c =
    written_over c.add_each.new.demands c.self.inside.demands.items c.self.inside.demands.len (c.add_each.auto.demands ∙ c.deref_mut.ensures.len)
    ∙ c.add_each.ensures.sum ∙ ap (λ bid. pairwise_sum bid c.deref.result.now) (c.deref_mut.ensures.value ∙ c.self.view_is)
    ∙ ap (pairwise_sum c.args.self.now) (c.deref.ensures.value ∙ c.other.view_is)

pub invariant_of-self : goal.invariant_of-self
invariant_of-self g c =
    let same = c.add_each.auto.demands in
    let is = written_over c.add_each.new.demands c.self.inside.demands.items c.self.inside.demands.len (same ∙ c.deref_mut.ensures.len) in
    rw is (record {
      steps = subst AreSteps (sym (same ∙ ap length c.deref_mut.ensures.value)) c.self.invariant.steps;
      within = subst (AllWithinLimit sum_limit) (sym (sym is ∙ returns-clause-sum g c)) c.requires.within;
    })

pub returns-clause-cost : goal.returns-clause-cost
returns-clause-cost g c = c.add_each.ensures.cost ∙ ap (λ bid. c.args.counter.now + length bid) (c.deref_mut.ensures.value ∙ c.self.view_is)
