-- Of `closing_keeps_the_market`: what it ensures.
use Rattle.pm_stands.proofs.Closing.{close_made}
use Rattle.pm_stands.proofs.changes.closing_keeps_the_market.Goals as goal

pub returns : goal.returns
returns c = record { made = close_made }
