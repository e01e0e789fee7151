-- The node in the place is another, and the totals follow.
use Rattle.std.proofs.Common.{◌∙◌, ap, sym, subst, slice_set, Some}
use Rattle.pm_waking.specs.Sleeping.{pending_of, ForgetsNobody, OthersStay, TotalsFollow}
use Rattle.pm_waking.proofs.Replaced.{lent_there, put_there, others_stay, kept_after, forgets_nobody}
use Rattle.pm_waking.proofs.roster.Roster.set.Goals as goal

pub invariant_of-self-2 : goal.invariant_of-self-2
invariant_of-self-2 c =
    let es = c.self.inside.entries.items in
    let there = lent_there es c.args.number c.in-Some.entry.now c.in-Some.ensures.item.0 c.in-Some.ensures.value in
    kept_after es c.args.number c.in-Some.entry.now c.put.new.self c.self.inside.totals c.follow.new.self there c.self.invariant
    c.put.ensures.calm
    (subst (λ n. TotalsFollow c.self.inside.totals c.follow.new.self c.in-Some.entry.now.node n) (sym c.put.ensures.node)
    c.follow.ensures.counted)

pub returns-clause-node : goal.returns-clause-node
returns-clause-node c h =
    ap pending_of (put_there c.self.inside.entries.items c.args.number c.put.new.self c.in-Some.ensures.item.0) ∙ ap Some c.put.ensures.node

pub returns-clause-others : goal.returns-clause-others
returns-clause-others c =
    subst (λ r. OthersStay c.args.number r.entries (slice_set c.self.inside.entries.items c.args.number c.put.new.self)) c.self.view_is
    (others_stay c.self.inside.entries.items c.args.number c.put.new.self)

pub returns-clause-wakes : goal.returns-clause-wakes
returns-clause-wakes c =
    let es = c.self.inside.entries.items in
    let there = lent_there es c.args.number c.in-Some.entry.now c.in-Some.ensures.item.0 c.in-Some.ensures.value in
    subst (λ r. ForgetsNobody r (record { entries = slice_set es c.args.number c.put.new.self; rings = c.put.new.rings })) c.self.view_is
    (forgets_nobody es c.args.number c.in-Some.entry.now c.put.new.self c.self.inside.rings c.put.new.rings there c.put.ensures.woken c.put.ensures.kept)
