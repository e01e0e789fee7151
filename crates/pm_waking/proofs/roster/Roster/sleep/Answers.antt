-- The node in the place sleeps or is awake, with what is pending at it as it was.
use Rattle.std.proofs.Common.{◌∙◌, ap, subst, slice_set, inl, inr}
use Rattle.pm_waking.specs.Sleeping.{asleep_of, pending_at, KeepsRings, OthersStay}
use Rattle.pm_waking.proofs.Replaced.{lent_there, put_there, node_kept, others_stay, kept_with}
use Rattle.pm_waking.proofs.roster.Roster.sleep.Goals as goal

pub invariant_of-self-2 : goal.invariant_of-self-2
invariant_of-self-2 c =
    let es = c.self.inside.entries.items in
    let there = lent_there es c.args.number c.in-Some.entry.now c.in-Some.ensures.item.0 c.in-Some.ensures.value in
    kept_with es c.args.number c.in-Some.entry.now c.lay.new.self c.self.inside.totals there c.self.invariant c.lay.ensures.calm c.lay.ensures.node

pub returns-clause-sleeps : goal.returns-clause-sleeps
returns-clause-sleeps c h =
    let es = c.self.inside.entries.items in
    let there = put_there es c.args.number c.lay.new.self c.in-Some.ensures.item.0 in
    elim c.lay.ensures.sleeps [ inl asleep ↦ inl (ap asleep_of there ∙ asleep) | inr rung ↦ inr rung ]

pub returns-clause-nodes : goal.returns-clause-nodes
returns-clause-nodes c =
    let es = c.self.inside.entries.items in
    let there = lent_there es c.args.number c.in-Some.entry.now c.in-Some.ensures.item.0 c.in-Some.ensures.value in
    node_kept es c.args.number c.in-Some.entry.now c.lay.new.self there c.lay.ensures.node ∙ ap (λ r. pending_at r.entries c.args.number) c.self.view_is

pub returns-clause-others : goal.returns-clause-others
returns-clause-others c =
    subst (λ r. OthersStay c.args.number r.entries (slice_set c.self.inside.entries.items c.args.number c.lay.new.self)) c.self.view_is
    (others_stay c.self.inside.entries.items c.args.number c.lay.new.self)

pub returns-clause-kept : goal.returns-clause-kept
returns-clause-kept c = subst (λ r. KeepsRings r.rings c.lay.new.rings) c.self.view_is c.lay.ensures.kept
