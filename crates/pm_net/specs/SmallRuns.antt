-- Small networks, to be worked out.
use Rattle.std.specs.Prelude.{ℕ, ◌+◌, pos, negsuc, true, false, if◌then◌else◌, ◌==◌, List, [], ◌∷◌, Some, None}
use Rattle.pm_base.specs.Limits.{window_size}
use Rattle.pm_bid.specs.Bids.{zeros}
use Rattle.pm_market.specs.Lists.{Lists, is_member}
use Rattle.pm_net.specs.Pricing.{given_limits}
use Rattle.pm_net.specs.Messages.{PriceMessage, bid_message}
use Rattle.pm_net.specs.Network.{Network, start_network}
use Rattle.pm_net.specs.Events.{Event, Bids, TakesBid, Sends, Clears, TakesPrice, Restarts, Rebuilds, network_after}
use Rattle.pm_net.specs.TreeAuction.{TreeDemand, add_below, tree_pricing}

-- node 1 is a relay, node 2 a device below it, which joins, leaves and joins again
abbrev pub one_relay : Lists
one_relay = record {
  parents = 0 ∷ 1 ∷ [];
  leaves = false ∷ true ∷ [];
  members = [] ∷ (true ∷ false ∷ true ∷ []) ∷ [];
  ends = (0 ∷ 3 ∷ []) ∷ [];
}

-- node 1 is a relay, node 2 a device below it, and node 3 a device beside the relay, which changes twice
abbrev pub two_branches : Lists
two_branches = record {
  parents = 0 ∷ 1 ∷ 0 ∷ [];
  leaves = false ∷ true ∷ true ∷ [];
  members = [] ∷ (true ∷ []) ∷ (true ∷ true ∷ []) ∷ [];
  ends = (0 ∷ 1 ∷ 2 ∷ []) ∷ [];
}

-- a device that is a member takes 5 watts at the first step, and delivers 3 at the second
abbrev pub small_demand : Lists → TreeDemand
small_demand lists = record {
  steps = 2;
  demand = λ d n. if is_member lists d n then (pos 5 ∷ negsuc 2 ∷ []) else zeros 2;
  limits = λ c cut. None;
  add = add_below lists 2;
}

-- the same with a relay 1 that holds its part between -1 and 6 watts
abbrev pub limited_demand : Lists → TreeDemand
limited_demand lists = record (small_demand lists) { limits = λ c cut. if c == 1 then Some (record { floor = negsuc 0; ceiling = pos 6 }) else None }

abbrev pub limited_run_of : Lists → List Event → Network
limited_run_of lists events =
    network_after lists (tree_pricing lists (limited_demand lists)) (start_network (tree_pricing lists (limited_demand lists))) events

-- the network after these events, from the start
abbrev pub run_of : Lists → List Event → Network
run_of lists events =
    network_after lists (tree_pricing lists (small_demand lists)) (start_network (tree_pricing lists (small_demand lists))) events

-- what the device below the relay holds then
abbrev pub device_holds : List Event → PriceMessage
device_holds events = (run_of one_relay events).taken 2

-- the device bids, the relay takes the bid and sends its own, which the auctioneer takes and clears; then the rest
abbrev pub cleared_once : List Event → List Event
cleared_once rest = Bids 2 ∷ TakesBid 2 0 ∷ Sends 1 ∷ TakesBid 1 0 ∷ Clears ∷ rest

-- in the tree of two branches three clearings have the relay's bid 1; then the rest
abbrev pub cleared_thrice : List Event → List Event
cleared_thrice rest = cleared_once (Bids 3 ∷ TakesBid 3 0 ∷ Clears ∷ Bids 3 ∷ TakesBid 3 1 ∷ Clears ∷ rest)

-- the index that the device below the relay holds then
abbrev pub index_held : List Event → ℕ
index_held events = ((run_of two_branches (cleared_thrice events)).taken 2).index

-- The relay takes prices 1 and 3, restarts with index 1, and has its record again. It now takes price 2, which it had
-- skipped, and passes it on; then the rest.
abbrev pub with_skipped_price : List Event → List Event
with_skipped_price rest = TakesPrice 1 0 ∷ TakesPrice 1 2 ∷ Restarts 1 0 ∷ TakesBid 2 0 ∷ Rebuilds 1 ∷ TakesPrice 1 1 ∷ rest

-- a relay that sent as many bids as its window has, heard something new, and holds this number for answered
abbrev pub window_sent : ℕ → Network
window_sent number_answered = record (run_of one_relay []) {
  last_number = λ c. window_size;
  answered = λ c. number_answered;
  heard = λ x. bid_message (window_size + 1) false [];
}

-- node 1 is a relay, node 2 a device below it, and node 3 gives the relay's limits
abbrev pub with_giver : Lists
with_giver = record {
  parents = 0 ∷ 1 ∷ 1 ∷ [];
  leaves = false ∷ true ∷ true ∷ [];
  members = [] ∷ (true ∷ []) ∷ (false ∷ false ∷ []) ∷ [];
  ends = (0 ∷ 1 ∷ 2 ∷ []) ∷ [];
}

-- relay 1 holds its part between -1 and 6 watts at first, and between -4 and 6 from number 1 of node 3 on
abbrev pub changing_demand : TreeDemand
changing_demand = record (small_demand with_giver) {
  limits = given_limits (λ c n. if c == 1 then Some (record { floor = if n == 0 then negsuc 0 else negsuc 3; ceiling = pos 6 }) else None) (λ c. 3);
}

abbrev pub changing_run : List Event → Network
changing_run events = network_after with_giver (tree_pricing with_giver changing_demand) (start_network (tree_pricing with_giver changing_demand)) events

-- the relay's limits change after its bid 1, and before that bid's price comes; then the rest
abbrev pub with_changed_limits : List Event → List Event
with_changed_limits rest = cleared_once (Bids 3 ∷ TakesBid 3 0 ∷ TakesPrice 1 0 ∷ rest)
