-- Of `ArrayBid::exchange`: its clauses `exchanged` and `cost`; what the call of `exchange_each` requires; what the type keeps.
use Rattle.std.proofs.Common.{◌≡◌, ◌∙◌, sym, ap, subst, ◌+◌, ◌*◌, length}
use Rattle.pm_base.specs.Limits.{AreSteps, sum_limit}
use Rattle.pm_bid.specs.Bids.{pairwise_sum, pairwise_difference, AllWithinLimit}
use Rattle.pm_bid.proofs.WrittenOver.{written_over}
use Rattle.pm_bid.proofs.array_bid.ArrayBid.exchange.Goals as goal

pub exchange_each-requires-clause-old_length : goal.exchange_each-requires-clause-old_length
exchange_each-requires-clause-old_length g c =
    ap length (c.deref_mut.ensures.value ∙ c.self.view_is) ∙ c.requires.old_length ∙ sym (ap length (c.deref.ensures.value ∙ c.old.view_is))

pub exchange_each-requires-clause-new_length : goal.exchange_each-requires-clause-new_length
exchange_each-requires-clause-new_length g c =
    ap length (c.deref_mut.ensures.value ∙ c.self.view_is) ∙ c.requires.new_length ∙ sym (ap length (c.deref-2.ensures.value ∙ c.new.view_is))

pub exchange_each-requires-clause-demands_within : goal.exchange_each-requires-clause-demands_within
exchange_each-requires-clause-demands_within g c = subst (AllWithinLimit sum_limit) (sym c.deref_mut.ensures.value) c.self.invariant.within

pub exchange_each-requires-clause-olds_within : goal.exchange_each-requires-clause-olds_within
exchange_each-requires-clause-olds_within g c = subst (AllWithinLimit sum_limit) (sym c.deref.ensures.value) c.old.invariant.within

pub exchange_each-requires-clause-within : goal.exchange_each-requires-clause-within
exchange_each-requires-clause-within g c =
    let is : pairwise_sum (pairwise_difference c.deref_mut.result.now c.deref.result.now) c.deref-2.result.now
    ≡ pairwise_sum (pairwise_difference c.args.self.now c.args.old.now) c.args.new.now =
    ap (λ bid. pairwise_sum (pairwise_difference bid c.deref.result.now) c.deref-2.result.now) (c.deref_mut.ensures.value ∙ c.self.view_is)
    ∙ ap (λ bid. pairwise_sum (pairwise_difference c.args.self.now bid) c.deref-2.result.now) (c.deref.ensures.value ∙ c.old.view_is)
    ∙ ap (pairwise_sum (pairwise_difference c.args.self.now c.args.old.now)) (c.deref-2.ensures.value ∙ c.new.view_is) in
    subst (AllWithinLimit sum_limit) (sym is) c.requires.within

pub returns-clause-exchanged : goal.returns-clause-exchanged
returns-clause-exchanged g c =
    written_over c.exchange_each.new.demands c.self.inside.demands.items c.self.inside.demands.len
    (c.exchange_each.auto.demands ∙ c.deref_mut.ensures.len) ∙ c.exchange_each.ensures.exchanged
    ∙ ap (λ bid. pairwise_sum (pairwise_difference bid c.deref.result.now) c.deref-2.result.now) (c.deref_mut.ensures.value ∙ c.self.view_is)
    ∙ ap (λ bid. pairwise_sum (pairwise_difference c.args.self.now bid) c.deref-2.result.now) (c.deref.ensures.value ∙ c.old.view_is)
    ∙ ap (pairwise_sum (pairwise_difference c.args.self.now c.args.old.now)) (c.deref-2.ensures.value ∙ c.new.view_is)

pub invariant_of-self : goal.invariant_of-self
invariant_of-self g c =
    let same = c.exchange_each.auto.demands in
    let is = written_over c.exchange_each.new.demands c.self.inside.demands.items c.self.inside.demands.len (same ∙ c.deref_mut.ensures.len) in
    rw is (record {
      steps = subst AreSteps (sym (same ∙ ap length c.deref_mut.ensures.value)) c.self.invariant.steps;
      within = subst (AllWithinLimit sum_limit) (sym (sym is ∙ returns-clause-exchanged g c)) c.requires.within;
    })

pub returns-clause-cost : goal.returns-clause-cost
returns-clause-cost g c =
    c.exchange_each.ensures.cost ∙ ap (λ bid. c.args.counter.now + 2 * length bid) (c.deref_mut.ensures.value ∙ c.self.view_is)
