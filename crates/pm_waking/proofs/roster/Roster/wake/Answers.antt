-- The node in the place is awake, with what is pending at it as it was.
use Rattle.std.proofs.Common.{◌∙◌, ap, subst, slice_set}
use Rattle.pm_waking.specs.Sleeping.{ForgetsNobody, OthersStay, asleep_of}
use Rattle.pm_waking.proofs.Replaced.{lent_there, put_there, others_stay, kept_with, forgets_nobody}
use Rattle.pm_waking.proofs.roster.Roster.wake.Goals as goal

pub invariant_of-self-2 : goal.invariant_of-self-2
invariant_of-self-2 c =
    let es = c.self.inside.entries.items in
    let there = lent_there es c.args.place c.in-Some.entry.now c.in-Some.ensures.item.0 c.in-Some.ensures.value in
    kept_with es c.args.place c.in-Some.entry.now c.wake.new.self c.self.inside.totals there c.self.invariant c.wake.ensures.calm c.wake.ensures.node

pub returns-clause-awake : goal.returns-clause-awake
returns-clause-awake c =
    ap asleep_of (put_there c.self.inside.entries.items c.args.place c.wake.new.self c.in-Some.ensures.item.0) ∙ c.wake.ensures.awake

pub returns-clause-others : goal.returns-clause-others
returns-clause-others c =
    subst (λ r. OthersStay c.args.place r.entries (slice_set c.self.inside.entries.items c.args.place c.wake.new.self)) c.self.view_is
    (others_stay c.self.inside.entries.items c.args.place c.wake.new.self)

pub returns-clause-wakes : goal.returns-clause-wakes
returns-clause-wakes c =
    let es = c.self.inside.entries.items in
    let there = lent_there es c.args.place c.in-Some.entry.now c.in-Some.ensures.item.0 c.in-Some.ensures.value in
    subst (λ r. ForgetsNobody r (record { entries = slice_set es c.args.place c.wake.new.self; rings = c.wake.new.rings })) c.self.view_is
    (forgets_nobody es c.args.place c.in-Some.entry.now c.wake.new.self c.self.inside.rings c.wake.new.rings there c.wake.ensures.woken c.wake.ensures.kept)
