-- Which events are no step of a node, and bring it no bid.
use Rattle.std.specs.Prelude.{◌≡◌, ℕ}
use Rattle.pm_market.specs.Lists.{Lists, parent}
use Rattle.pm_net.specs.Events.{Event, TakesBid, Sends, Clears, TakesPrice, Restarts, Rebuilds, StopsBidding, StopsClearing}

-- the event happens elsewhere than at c, a relay or the auctioneer; a message that is sent again changes no node
abbrev pub IsElsewhere : Lists → ℕ → Event → Type 0
IsElsewhere lists c (TakesBid x k) = parent lists x ≡ c → ⊥
IsElsewhere lists c (Sends y) = y ≡ c → ⊥
IsElsewhere lists c Clears = c ≡ 0 → ⊥
IsElsewhere lists c (TakesPrice x k) = x ≡ c → ⊥
IsElsewhere lists c (Restarts y k) = y ≡ c → ⊥
IsElsewhere lists c (Rebuilds y) = y ≡ c → ⊥
IsElsewhere lists c (StopsBidding x) = x ≡ c → ⊥
IsElsewhere lists c StopsClearing = c ≡ 0 → ⊥
IsElsewhere lists c e = Unit {0}
