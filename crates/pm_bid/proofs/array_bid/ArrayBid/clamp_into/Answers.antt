-- Of `ArrayBid::clamp_into`: its clauses `bid` and `cost`; what the call of `clamp_each` requires; what the type keeps.
use Rattle.std.proofs.Common.{◌∙◌, sym, ap, subst, ◌+◌, length, w64, to_z, of_z, arith}
use Rattle.std.proofs.lemmas.Int.{ints, to_z-of_z}
use Rattle.pm_base.specs.Limits.{AreSteps}
use Rattle.pm_bid.specs.Bids.{clamp}
use Rattle.pm_bid.proofs.WrittenOver.{written_over}
use Rattle.pm_bid.proofs.array_bid.ArrayBid.clamp_into.Goals as goal

pub clamp_each-requires-clause-equal_lengths : goal.clamp_each-requires-clause-equal_lengths
clamp_each-requires-clause-equal_lengths g c =
    ap length (c.deref.ensures.value ∙ c.self.view_is) ∙ c.requires.equal_lengths
    ∙ sym (ap length (c.deref_mut.ensures.value ∙ c.target.view_is))

pub clamp_each-requires-clause-order : goal.clamp_each-requires-clause-order
clamp_each-requires-clause-order g c = omega (arith, ints)

pub clamp_each-requires-clause-floor_within : goal.clamp_each-requires-clause-floor_within
clamp_each-requires-clause-floor_within g c = rw (to_z-of_z w64 c.args.floor c.ranges.floor) c.requires.floor_within

pub clamp_each-requires-clause-ceiling_within : goal.clamp_each-requires-clause-ceiling_within
clamp_each-requires-clause-ceiling_within g c = rw (to_z-of_z w64 c.args.ceiling c.ranges.ceiling) c.requires.ceiling_within

pub invariant_of-target : goal.invariant_of-target
invariant_of-target g c =
    let same = c.clamp_each.auto.targets in
    rw (written_over c.clamp_each.new.targets c.target.inside.demands.items c.target.inside.demands.len (same ∙ c.deref_mut.ensures.len))
    (record {
      steps = subst AreSteps (sym (same ∙ ap length c.deref_mut.ensures.value)) c.target.invariant.steps;
      within = c.clamp_each.ensures.within;
    })

pub returns-clause-bid : goal.returns-clause-bid
returns-clause-bid g c =
    written_over c.clamp_each.new.targets c.target.inside.demands.items c.target.inside.demands.len
    (c.clamp_each.auto.targets ∙ c.deref_mut.ensures.len) ∙ c.clamp_each.ensures.clamped
    ∙ ap (λ floor. clamp floor (to_z w64 (of_z w64 c.args.ceiling)) c.deref.result.now) (to_z-of_z w64 c.args.floor c.ranges.floor)
    ∙ ap (λ ceiling. clamp c.args.floor ceiling c.deref.result.now) (to_z-of_z w64 c.args.ceiling c.ranges.ceiling)
    ∙ ap (clamp c.args.floor c.args.ceiling) (c.deref.ensures.value ∙ c.self.view_is)

pub returns-clause-cost : goal.returns-clause-cost
returns-clause-cost g c = c.clamp_each.ensures.cost ∙ ap (λ bid. c.args.counter.now + length bid) (c.deref.ensures.value ∙ c.self.view_is)
