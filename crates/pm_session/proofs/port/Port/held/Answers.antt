-- Of `Port::held`: what it ensures.
use Rattle.std.proofs.Common.{rules}
use Rattle.pm_session.proofs.port.Port.held.Goals as goal

pub returns-then-price-join : goal.returns-then-price-join
returns-then-price-join c = search rules

pub returns : goal.returns
returns c = search rules
