-- What the nodes of a network do while they run: a device bids, a parent takes a bid, a relay sends, the auctioneer clears,
-- and a node takes a price and passes it on.
use Rattle.std.specs.Prelude.{ℕ, ◌+◌, ◌-◌, Bool, true, false, if◌then◌else◌, ◌==◌, ◌&&◌, not, nat_lt, nat_le, ℤ, List, []}
use Rattle.std.specs.Prelude.{◌∷◌, ◌++◌}
use Rattle.pm_base.specs.Limits.{window_size}
use Rattle.pm_bid.specs.Clearing.{clearing_step}
use Rattle.pm_bid.specs.Taken.{announced, settled_step}
use Rattle.pm_market.specs.Lists.{Lists, nodes, parent, is_leaf, is_member}
use Rattle.pm_market.specs.State.{update, all_to}
use Rattle.pm_market.specs.Legality.{is_node}
use Rattle.pm_net.specs.Pricing.{Pricing}
use Rattle.pm_net.specs.Messages.{BidMessage, PriceMessage, bid_message, price_message, numbers_of}
use Rattle.pm_net.specs.Network.{Network}

-- ---- bids

-- a device makes its next change and sends its bid
abbrev pub device_bid : Lists → Pricing → ℕ → ℕ → BidMessage
device_bid lists p d n = bid_message n (not (is_member lists d n)) (p.demand d n)

abbrev pub after_bidding : Lists → Pricing → Network → ℕ → Network
after_bidding lists p net d = record net {
  counts = update net.counts d (net.counts d + 1);
  bids_sent = update net.bids_sent d (net.bids_sent d ++ device_bid lists p d (net.counts d + 1) ∷ []);
}

-- the parent of x takes a bid of it if the bid's number is above that of the one which it holds
unfoldable pub is_new_bid : Lists → Network → ℕ → BidMessage → Bool
is_new_bid lists net x bid = is_node lists x && nat_lt (net.heard x).number bid.number

abbrev pub after_taking_bid : Network → ℕ → BidMessage → Network
after_taking_bid net x bid = record net { heard = update net.heard x bid }

-- the number of x in the newest record of y
abbrev pub recorded_number : Network → ℕ → ℕ → ℕ
recorded_number net y x = (net.records y (net.last_number y) x).number

-- whether each child of y passes a test
abbrev pub all_children : Lists → ℕ → (ℕ → Bool) → Bool
all_children lists y test = all_to (nodes lists) (λ x. if parent lists x == y then test x else true)

-- whether y holds of each child a number that is at least the one in its newest record; this fails only between a restart
-- and the time when it has heard the children again
unfoldable pub is_caught_up : Lists → Network → ℕ → Bool
is_caught_up lists net y = all_children lists y (λ x. nat_le (recorded_number net y x) (net.heard x).number)

-- whether y holds of some child another number than the one in its newest record
unfoldable pub has_news : Lists → Network → ℕ → Bool
has_news lists net y = not (all_children lists y (λ x. (net.heard x).number == recorded_number net y x))

-- the sum of the bids that y holds of its children
abbrev pub heard_sum : Pricing → Network → ℕ → List ℤ
heard_sum p net y = p.add y (λ x. (net.heard x).demand)

-- what y heard becomes the record of its next number
abbrev pub with_record : Network → ℕ → Network
with_record net y = record net {
  last_number = update net.last_number y (net.last_number y + 1);
  records = update net.records y (update (net.records y) (net.last_number y + 1) net.heard);
}

-- a relay that is caught up, has news and room in its window announces what is taken of the sum of its children's bids, by the
-- limits that the numbers of its devices give
unfoldable pub can_send : Lists → Network → ℕ → Bool
can_send lists net c =
    is_node lists c && not (is_leaf lists c) && is_caught_up lists net c && has_news lists net c
    && nat_lt (net.last_number c - net.answered c) window_size

abbrev pub relay_bid : Pricing → Network → ℕ → BidMessage
relay_bid p net c = bid_message (net.last_number c + 1) false (announced (p.limits c (numbers_of net.heard)) (heard_sum p net c))

abbrev pub after_sending : Pricing → Network → ℕ → Network
after_sending p net c = record (with_record net c) { bids_sent = update net.bids_sent c (net.bids_sent c ++ relay_bid p net c ∷ []) }

-- ---- prices

-- the prices that were sent to x once y sent one of this index and step to each child that is not gone in a record of y,
-- with the child's number there
unfoldable pub sent_down : Lists → (ℕ → List PriceMessage) → ℕ → (ℕ → BidMessage) → ℕ → ℕ → ℕ → List PriceMessage
sent_down lists prices y basis index step x =
    if (parent lists x == y) && not (basis x).gone then (prices x ++ price_message (basis x).number index step ∷ [])
    else prices x

-- an auctioneer that is caught up and has news clears, and sends the price to its children
unfoldable pub can_clear : Lists → Network → Bool
can_clear lists net = is_caught_up lists net 0 && has_news lists net 0

abbrev pub after_clearing : Lists → Pricing → Network → Network
after_clearing lists p net = record (with_record net 0) {
  prices_sent = sent_down lists net.prices_sent 0 net.heard (net.last_number 0 + 1) (clearing_step (heard_sum p net 0));
}

-- whether the index of a price is above that of the one which x holds
unfoldable pub is_new_price : Lists → Network → ℕ → PriceMessage → Bool
is_new_price lists net x price = is_node lists x && nat_lt (net.taken x).index price.index

-- whether n is a number of relay c from the one answered on
unfoldable pub names_a_bid : Network → ℕ → ℕ → Bool
names_a_bid net c n = nat_le 1 n && nat_le (net.answered c) n && nat_le n (net.last_number c)

-- a device takes a price; a relay takes one, which answers the number that it names
abbrev pub after_taking_price : Network → ℕ → PriceMessage → Network
after_taking_price net x price = record net { taken = update net.taken x price }

abbrev pub after_answer : Network → ℕ → PriceMessage → Network
after_answer net c price = record net { taken = update net.taken c price; answered = update net.answered c price.number }

-- the step that a relay passes down for a price: that of the price, moved within the record's limits for the record's sum
abbrev pub relay_step : Pricing → Network → ℕ → PriceMessage → ℕ
relay_step p net c price =
    settled_step (p.limits c (numbers_of (net.records c price.number))) price.step (p.add c (λ z. (net.records c price.number z).demand))

-- it passes the price on by the record of the number that the price names
abbrev pub after_passing : Lists → Pricing → Network → ℕ → PriceMessage → Network
after_passing lists p net c price = record (after_answer net c price) {
  prices_sent = sent_down lists net.prices_sent c (net.records c price.number) price.index (relay_step p net c price);
}

-- whether c heard of some child a greater number than the one in its newest record; such a record can no longer be rebuilt
unfoldable pub is_overtaken : Lists → Network → ℕ → Bool
is_overtaken lists net c = not (all_children lists c (λ x. nat_le (net.heard x).number (recorded_number net c x)))

-- whether c leaves a price of this number, whose record it lost, for later: it is its newest record, and can yet be rebuilt
unfoldable pub waits : Lists → Network → ℕ → ℕ → Bool
waits lists net c n = (n == net.last_number c) && not (is_overtaken lists net c)

-- a relay that has the record which a price names passes it on; one that lost the record waits if it may come back, and
-- else takes the price alone
abbrev pub after_relay_price : Lists → Pricing → Network → ℕ → PriceMessage → Network
after_relay_price lists p net c price =
    if names_a_bid net c price.number
    then (if nat_le (net.whole_from c) price.number then after_passing lists p net c price
    else (if waits lists net c price.number then net else after_answer net c price))
    else net

-- a node is given a price
abbrev pub after_given_price : Lists → Pricing → Network → ℕ → PriceMessage → Network
after_given_price lists p net x price =
    if is_new_price lists net x price
    then (if is_leaf lists x then after_taking_price net x price else after_relay_price lists p net x price)
    else net
