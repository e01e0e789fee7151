-- What the fields of a link stand for.
use Rattle.std.specs.Prelude.{ℤ, List, length, Option, Some, None}
use Rattle.pm_bid.specs.declared.head.BidHead.{BidHead}
use Rattle.pm_session.specs.Links.{Session, UpBid}
use Rattle.pm_session.specs.declared.link.Link.TheInside.{Inside}

-- the bid of a head and a demand
abbrev pub bid_in : Option BidHead → List ℤ → Option UpBid
bid_in None demand = None
bid_in (Some head) demand = Some (record { number = head.number; gone = head.gone; demand = demand })

-- both ways of the fields
abbrev pub session_of : Inside → Session
session_of inside = record {
  steps = length inside.demand;
  up = record { waiting = bid_in inside.bid inside.demand; offered = inside.bid_offered; taken = inside.bid_taken };
  down = record { waiting = inside.price; offered = inside.price_offered; taken = inside.price_taken };
}
