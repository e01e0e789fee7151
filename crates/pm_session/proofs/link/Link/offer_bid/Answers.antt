-- Of `Link::offer_bid`: its clause `offered`; what the type keeps.
use Rattle.std.proofs.Common.{rules}
use Rattle.pm_session.proofs.link.Link.offer_bid.Goals as goal

pub invariant_of-self : goal.invariant_of-self
invariant_of-self c = search rules

pub returns-clause-offered : goal.returns-clause-offered
returns-clause-offered c = search rules
