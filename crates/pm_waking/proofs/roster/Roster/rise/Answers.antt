-- The node in the place is awake, with what is pending at it as it was.
use Rattle.std.proofs.Common.{◌∙◌, ap, subst, slice_set}
use Rattle.pm_waking.specs.Sleeping.{asleep_of, pending_at, OthersStay}
use Rattle.pm_waking.proofs.Replaced.{lent_there, put_there, node_kept, others_stay, kept_with}
use Rattle.pm_waking.proofs.roster.Roster.rise.Goals as goal

pub invariant_of-self-2 : goal.invariant_of-self-2
invariant_of-self-2 c =
    let es = c.self.inside.entries.items in
    let there = lent_there es c.args.number c.in-Some.entry.now c.in-Some.ensures.item.0 c.in-Some.ensures.value in
    kept_with es c.args.number c.in-Some.entry.now c.rise.new.self c.self.inside.totals there c.self.invariant c.rise.ensures.calm c.rise.ensures.node

pub returns-clause-awake : goal.returns-clause-awake
returns-clause-awake c =
    ap asleep_of (put_there c.self.inside.entries.items c.args.number c.rise.new.self c.in-Some.ensures.item.0) ∙ c.rise.ensures.awake

pub returns-clause-nodes : goal.returns-clause-nodes
returns-clause-nodes c =
    let es = c.self.inside.entries.items in
    let there = lent_there es c.args.number c.in-Some.entry.now c.in-Some.ensures.item.0 c.in-Some.ensures.value in
    node_kept es c.args.number c.in-Some.entry.now c.rise.new.self there c.rise.ensures.node ∙ ap (λ r. pending_at r.entries c.args.number) c.self.view_is

pub returns-clause-others : goal.returns-clause-others
returns-clause-others c =
    subst (λ r. OthersStay c.args.number r.entries (slice_set c.self.inside.entries.items c.args.number c.rise.new.self)) c.self.view_is
    (others_stay c.self.inside.entries.items c.args.number c.rise.new.self)
