-- What the fields of a relay stand for, and what they keep.
use Rattle.std.specs.Prelude.{◌≡◌, ◌-◌, ◌<◌, ◌≤◌, ◌^◌, length, Option, Some, None}
use Rattle.std.specs.List.{All}
use Rattle.pm_base.specs.Limits.{demand_limit, most_nodes}
use Rattle.pm_base.specs.declared.limits.Limits.{Limits}
use Rattle.pm_bid.specs.Bids.{AllWithinLimit}
use Rattle.pm_cache.specs.Learning.{HasSingleBids}
use Rattle.pm_concentrator.specs.Concentrators.{own_demand}
use Rattle.pm_relay.specs.Relays.{RelayValue, AreRelayLimits, newest_bid_number, limits_places}
use Rattle.pm_relay.specs.declared.relay.Relay.TheInside.{Inside}

abbrev pub relay_of : Inside → RelayValue
relay_of inside = record {
  gathered = inside.concentrator;
  base = inside.base;
  answered = inside.answered;
  index = inside.index;
  recorded = inside.recorded.items;
  made_under = inside.made_under.items;
}

-- there are limits, and they are a relay's
abbrev pub HasRelayLimits : Option Limits → Type 0
HasRelayLimits None = ⊥
HasRelayLimits (Some limits) = AreRelayLimits limits

-- what holds of each relay
pub record IsRelay (r : RelayValue) : Type 0 where
  pub children : length r.gathered.cache.heads ≡ most_nodes
  pub same_children : length r.recorded ≡ most_nodes
  pub limits_kept : length r.made_under ≡ limits_places
  pub limits_small : All AreRelayLimits r.made_under
  pub limits : HasRelayLimits r.gathered.limits
  pub single : HasSingleBids r.gathered.cache
  pub announced : r.gathered.announced ≡ Some (own_demand r.gathered)
  pub small : AllWithinLimit demand_limit (own_demand r.gathered)
  pub numbers : newest_bid_number r < 2 ^ 32
  pub answered : r.answered ≤ newest_bid_number r
  pub window : r.gathered.window.answered ≡ r.answered - r.base

abbrev pub AreRelayFields : Inside → Type 0
AreRelayFields inside = IsRelay (relay_of inside)
