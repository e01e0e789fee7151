-- What is true of the log of each link.
use Rattle.pm_cells.specs.Numbers.{AreRising, AllAmong}
use Rattle.pm_cells.specs.declared.link.LinkLog.{LinkLog}

-- the numbers taken rise, and each of them was put: of the bids, which go up, and of the prices, which come down
pub record IsLogOfLink (log : LinkLog) : Type 0 where
  pub bids_rise : AreRising log.bid_takes.items
  pub bids_were_put : AllAmong log.bid_takes.items log.bid_puts.items
  pub prices_rise : AreRising log.price_takes.items
  pub prices_were_put : AllAmong log.price_takes.items log.price_puts.items
