-- Of `Link::take_bid`: its clause `taken`; what the type keeps.
use Rattle.std.proofs.Common.{◌≡◌, ◌∙◌, ap, sym, subst, ℕ, length}
use Rattle.pm_session.specs.Links.{Session, IsSession}
use Rattle.pm_session.specs.LinkFields.{session_of, bid_in}
use Rattle.pm_session.proofs.Taking.{bid_taken_from, session_taken, bid_taken, the_bid}
use Rattle.pm_session.proofs.link.Link.take_bid.Goals as goal
use Rattle.pm_session.proofs.link.Link.take_bid.Goals.{After-swap}

-- the bid that comes in exchange has as many steps
same_steps : (c : After-swap) → length c.self.inside.demand ≡ length c.swap.new.x
same_steps c = ap (λ (s : Session). s.steps) c.self.view_is ∙ sym (ap length c.swap.ensures.x_after ∙ c.requires.steps)

pub invariant_of-self : goal.invariant_of-self
invariant_of-self c =
    let session = session_of c.self.inside in
    let taken = bid_taken_from session c.in-Some.head.number in
    subst (λ (n : ℕ). IsSession (record taken { steps = n })) (same_steps (goal.at.invariant_of-self c).After-swap)
    (session_taken session (the_bid c.in-Some.head c.self.inside.demand) c.self.invariant
    (ap (λ o. bid_in o c.self.inside.demand) c.in-Some.is))

pub returns-in-Some-clause-taken : goal.returns-in-Some-clause-taken
returns-in-Some-clause-taken c =
    let session = session_of c.self.inside in
    let bid = the_bid c.in-Some.head c.self.inside.demand in
    let whole = bid_taken session bid c.self.invariant (ap (λ o. bid_in o c.self.inside.demand) c.in-Some.is) in
    rw (c.swap.ensures.y_after, ← c.self.view_is) (record {
      up = whole.up;
      zeros_where_gone = whole.zeros_where_gone;
      down = whole.down;
      steps = sym (same_steps (goal.at.returns-in-Some-clause-taken c).After-swap);
    })
