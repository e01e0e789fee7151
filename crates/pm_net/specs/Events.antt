-- What may happen in a network, and its runs.
use Rattle.std.specs.Prelude.{◌≡◌, ◌⊎◌, ◌<◌, ℕ, if◌then◌else◌, ◌&&◌, nat_lt, Bool, List, [], ◌∷◌}
use Rattle.pm_market.specs.Lists.{Lists, parent, is_leaf, changes}
use Rattle.pm_net.specs.Pricing.{Pricing}
use Rattle.pm_net.specs.Network.{Network, sent_bid, sent_price}
use Rattle.pm_net.specs.Running.{after_bidding, is_new_bid, after_taking_bid, can_send, after_sending, can_clear, after_clearing, after_given_price}
use Rattle.pm_net.specs.Restarts.{after_restart, can_rebuild, after_rebuilding, device_stopped, relay_stopped, auctioneer_stopped}
use Rattle.pm_net.specs.Restarts.{can_pass_to_one, after_passing_to_one, can_resend, after_resending, can_tell_one, after_telling_one}

-- What may happen; a message is any that was ever sent on its channel, by its place there. So that messages are lost, come
-- twice or out of order is in the choice of places.
pub data Event : Type 0 where
  -- device d makes its next change and sends its bid
  Bids : ℕ → Event
  -- the parent of x takes the message in place k of what x ever sent
  TakesBid : ℕ → ℕ → Event
  -- relay c is asked to send its bid
  Sends : ℕ → Event
  -- the auctioneer is asked to clear
  Clears : Event
  -- x takes the message in place k of what was ever sent to it
  TakesPrice : ℕ → ℕ → Event
  -- y, any node, restarts; it comes back with the price in place k of what was ever sent to it, or the one that it held
  Restarts : ℕ → ℕ → Event
  -- c looks whether it has its newest record again
  Rebuilds : ℕ → Event
  -- x makes its next bid, and stops before the bid is sent
  StopsBidding : ℕ → Event
  -- x sends its newest bid again
  Resends : ℕ → Event
  -- the relay above z passes the message in place k of what was ever sent to the relay to z alone, and stops
  PassesToOne : ℕ → ℕ → Event
  -- the auctioneer makes its next clearing, and stops before a price is sent
  StopsClearing : Event
  -- the auctioneer sends the price of its newest clearing to z, again or for the first time
  TellsOne : ℕ → Event

-- whether device d can make another change
abbrev pub may_bid : Lists → Network → ℕ → Bool
may_bid lists net d = is_leaf lists d && nat_lt (net.counts d) (changes lists d)

-- the network after an event; what may not happen changes nothing
abbrev pub network_step : Lists → Pricing → Network → Event → Network
network_step lists p net (Bids d) = if may_bid lists net d then after_bidding lists p net d else net
network_step lists p net (TakesBid x k) = if is_new_bid lists net x (sent_bid p net x k) then after_taking_bid net x (sent_bid p net x k) else net
network_step lists p net (Sends c) = if can_send lists net c then after_sending p net c else net
network_step lists p net Clears = if can_clear lists net then after_clearing lists p net else net
network_step lists p net (TakesPrice x k) = after_given_price lists p net x (sent_price net x k)
network_step lists p net (Restarts y k) = after_restart lists p net y k
network_step lists p net (Rebuilds c) = if can_rebuild lists net c then after_rebuilding net c else net
network_step lists p net (StopsBidding x) =
    if may_bid lists net x then device_stopped net x else (if can_send lists net x then relay_stopped net x else net)
network_step lists p net (Resends x) = if can_resend lists net x then after_resending lists p net x else net
network_step lists p net (PassesToOne z k) =
    if can_pass_to_one lists net z (sent_price net (parent lists z) k)
    then after_passing_to_one lists p net z (sent_price net (parent lists z) k)
    else net
network_step lists p net StopsClearing = if can_clear lists net then auctioneer_stopped net else net
network_step lists p net (TellsOne z) = if can_tell_one lists net z then after_telling_one p net z else net

-- the network after events that begin in net
abbrev pub network_after : Lists → Pricing → Network → List Event → Network
network_after lists p net [] = net
network_after lists p net (e ∷ es) = network_after lists p (network_step lists p net e) es

-- an event is no restart of x
abbrev pub KeepsRunning : ℕ → Event → Type 0
KeepsRunning x (Restarts y k) = y ≡ x → ⊥
KeepsRunning x _ = Unit {0}

-- no event of these is a restart of x
abbrev pub RunsOn : ℕ → List Event → Type 0
RunsOn x [] = Unit {0}
RunsOn x (e ∷ es) = KeepsRunning x e × RunsOn x es

-- what x holds is what it held, or of a greater index
abbrev pub IsSameOrNewer : Network → ℕ → Network → Type 0
IsSameOrNewer net x after = (after.taken x ≡ net.taken x) ⊎ ((net.taken x).index < (after.taken x).index)
