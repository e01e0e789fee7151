-- A small market that freezes, to be worked out.
use Rattle.std.specs.Prelude.{ℕ, zero, suc, ◌+◌, replicate, true, false, List, [], ◌∷◌}
use Rattle.pm_base.specs.Limits.{window_size}
use Rattle.pm_market.specs.Lists.{Lists}
use Rattle.pm_net.specs.Pricing.{Pricing}
use Rattle.pm_net.specs.Network.{Network, start_network}
use Rattle.pm_net.specs.Events.{Event, Bids, TakesBid, Restarts, StopsBidding, network_after}
use Rattle.pm_net.specs.TreeAuction.{tree_pricing}
use Rattle.pm_net.specs.SmallRuns.{small_demand}

-- node 1 is a relay, and node 2 a device below it, a member under each of its numbers, one more than a window has
abbrev pub restless : Lists
restless = record {
  parents = 0 ∷ 1 ∷ [];
  leaves = false ∷ true ∷ [];
  members = [] ∷ replicate (window_size + 1) true ∷ [];
  ends = (0 ∷ (window_size + 1) ∷ []) ∷ [];
}

abbrev pub restless_pricing : Pricing
restless_pricing = tree_pricing restless (small_demand restless)

-- So many times the device bids, and the relay stores a bid of its own over that one, stops before it is sent, and restarts. Then
-- come the other events.
abbrev pub kills_then : ℕ → List Event → List Event
kills_then zero others = others
kills_then (suc n) others = kills_then n (Bids 2 ∷ TakesBid 2 n ∷ StopsBidding 1 ∷ Restarts 1 0 ∷ others)

-- So it goes eight times, as often as the window has numbers. After the last restart the relay hears the device's next bid first;
-- then come the other events.
abbrev pub frozen : List Event → Network
frozen others =
    network_after restless restless_pricing (start_network restless_pricing) (kills_then window_size (Bids 2 ∷ TakesBid 2 window_size ∷ others))
