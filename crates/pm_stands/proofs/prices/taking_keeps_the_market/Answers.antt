-- Of `taking_keeps_the_market`: what it ensures.
use Rattle.pm_stands.proofs.Taking.{take_made}
use Rattle.pm_stands.proofs.prices.taking_keeps_the_market.Goals as goal

pub returns : goal.returns
returns c = record { made = take_made }
