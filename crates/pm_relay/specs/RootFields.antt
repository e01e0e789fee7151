-- What the fields of a root stand for, and what they keep.
use Rattle.std.specs.Prelude.{◌≡◌, ◌<◌, ◌^◌, length}
use Rattle.pm_base.specs.Limits.{most_nodes}
use Rattle.pm_cache.specs.Learning.{HasSingleBids}
use Rattle.pm_relay.specs.Roots.{RootValue, newest_index}
use Rattle.pm_relay.specs.declared.root.Root.TheInside.{Inside}

abbrev pub root_of : Inside → RootValue
root_of inside = record { auction = inside.auctioneer; base = inside.base; recorded = inside.recorded.items }

-- what holds of each root
pub record IsRoot (r : RootValue) : Type 0 where
  pub children : length r.auction.cache.heads ≡ most_nodes
  pub same_children : length r.recorded ≡ most_nodes
  pub single : HasSingleBids r.auction.cache
  pub numbers : newest_index r < 2 ^ 32

abbrev pub AreRootFields : Inside → Type 0
AreRootFields inside = IsRoot (root_of inside)
