-- Of `ArrayBid::announce_into`: its clauses; what the call of `announce_each` requires; what the type keeps.
use Rattle.std.proofs.Common.{◌∙◌, sym, ap, subst, length}
use Rattle.pm_base.specs.Limits.{AreSteps}
use Rattle.pm_bid.proofs.WrittenOver.{written_over}
use Rattle.pm_bid.proofs.array_bid.ArrayBid.announce_into.Goals as goal

pub invariant_of-target : goal.invariant_of-target
invariant_of-target g c =
    let same = c.announce_each.auto.targets in
    rw (written_over c.announce_each.new.targets c.target.inside.demands.items c.target.inside.demands.len (same ∙ c.deref_mut.ensures.len))
    (record {
      steps = subst AreSteps (sym (same ∙ ap length c.deref_mut.ensures.value)) c.target.invariant.steps;
      within = c.announce_each.ensures.within;
    })
