-- What the fields of a server keep.
use Rattle.std.specs.Prelude.{◌≡◌, length, IfSome}
use Rattle.pm_base.specs.Limits.{most_nodes}
use Rattle.pm_cache.specs.Cache.{IsCache}
use Rattle.pm_cache.specs.Learning.{HasSingleBids}
use Rattle.pm_wire.specs.Answers.{OpenMarket}
use Rattle.pm_wire.specs.declared.server.Server.TheInside.{Inside}

-- the market has an entry for each child, and each entry is one bid
pub record IsMarket (market : OpenMarket) : Type 0 where
  pub sound : IsCache market.cache
  pub children : length market.cache.heads ≡ most_nodes
  pub single : HasSingleBids market.cache

abbrev pub AreServerFields : Inside → Type 0
AreServerFields inside = IfSome inside.market IsMarket
