-- Of `relays_take_prices`: what it ensures.
use Rattle.pm_relay_net.proofs.TakingPrices.{takes}
use Rattle.pm_relay_net.proofs.relay.relays_take_prices.Goals as goal

pub returns : goal.returns
returns c = takes
