-- Nodes that restart with what they stored, stop between storing and sending, and send again.
use Rattle.std.specs.Prelude.{ℕ, ◌+◌, Bool, true, false, if◌then◌else◌, ◌==◌, ◌&&◌, ◌||◌, not, nat_lt, nat_le, [], ◌∷◌, ◌++◌}
use Rattle.pm_bid.specs.Clearing.{clearing_step}
use Rattle.pm_bid.specs.Taken.{announced}
use Rattle.pm_market.specs.Lists.{Lists, parent, is_leaf}
use Rattle.pm_market.specs.State.{update}
use Rattle.pm_market.specs.Legality.{is_node}
use Rattle.pm_net.specs.Pricing.{Pricing}
use Rattle.pm_net.specs.Messages.{BidMessage, PriceMessage, bid_message, price_message, nothing_heard, numbers_of}
use Rattle.pm_net.specs.Network.{Network, sent_price}
use Rattle.pm_net.specs.Running.{device_bid, with_record, has_news, is_new_price, names_a_bid, relay_step}

-- ---- restarts

-- What y may have stored of the prices that it took: the one that it holds, or any that was ever sent to it and has no
-- greater index, in place k; past the last place, none.
abbrev pub stored_price : Network → ℕ → ℕ → PriceMessage
stored_price net y k =
    if nat_le (sent_price net y k).index (net.taken y).index then sent_price net y k
    else net.taken y

-- what is left of a bid of which only the number was stored, and of one of which nothing was
abbrev pub number_alone : BidMessage → BidMessage
number_alone bid = bid_message bid.number true []

abbrev pub nothing_left : BidMessage
nothing_left = bid_message 0 true []

-- what is left of the records of y: of the newest one the numbers
abbrev pub records_left : Network → ℕ → ℕ → ℕ → BidMessage
records_left net y n x = if n == net.last_number y then number_alone (net.records y n x) else nothing_left

-- one restart or stop more of x
abbrev pub with_restart : Network → ℕ → ℕ → ℕ
with_restart net x = update net.restarts x (net.restarts x + 1)

-- Node y starts anew. It knows its last number, of each child the number in its newest record, and the index and the
-- number of a price that it once stored, which may be older than the one that it held; nothing else. It heard nothing of
-- its children, and no record is whole.
abbrev pub after_restart : Lists → Pricing → Network → ℕ → ℕ → Network
after_restart lists p net y k = record net {
  heard = λ x. if parent lists x == y then nothing_heard p else net.heard x;
  records = update net.records y (records_left net y);
  whole_from = update net.whole_from y (net.last_number y + 1);
  answered = update net.answered y (stored_price net y k).number;
  taken = update net.taken y (stored_price net y k);
  restarts = with_restart net y;
}

-- a relay that heard of each child again just the number in its newest record has that record again
unfoldable pub can_rebuild : Lists → Network → ℕ → Bool
can_rebuild lists net c = nat_lt (net.last_number c) (net.whole_from c) && not (has_news lists net c)

abbrev pub after_rebuilding : Network → ℕ → Network
after_rebuilding net c = record net {
  records = update net.records c (update (net.records c) (net.last_number c) net.heard);
  whole_from = update net.whole_from c (net.last_number c);
}

-- ---- stops between storing and sending

-- a device makes its next bid and stores its number, but stops before the bid is sent
abbrev pub device_stopped : Network → ℕ → Network
device_stopped net d = record net { counts = update net.counts d (net.counts d + 1); restarts = with_restart net d }

-- a relay makes its next bid and stores its number and record, but stops before the bid is sent; so does the auctioneer
-- with its next clearing, before a price is sent
abbrev pub relay_stopped : Network → ℕ → Network
relay_stopped net c = record (with_record net c) { restarts = with_restart net c }

abbrev pub auctioneer_stopped : Network → Network
auctioneer_stopped net = relay_stopped net 0

-- The relay above z, on its way to pass a price on, sends it to z alone, and stops before it has taken it.
unfoldable pub can_pass_to_one : Lists → Network → ℕ → PriceMessage → Bool
can_pass_to_one lists net z price =
    is_node lists z && is_new_price lists net (parent lists z) price && names_a_bid net (parent lists z) price.number
    && nat_le (net.whole_from (parent lists z)) price.number && not (net.records (parent lists z) price.number z).gone

abbrev pub after_passing_to_one : Lists → Pricing → Network → ℕ → PriceMessage → Network
after_passing_to_one lists p net z price = record net {
  prices_sent = update net.prices_sent z (net.prices_sent z
      ++ price_message (net.records (parent lists z) price.number z).number price.index (relay_step p net (parent lists z) price) ∷ []);
}

-- ---- messages that are sent again

-- a node sends its newest bid again: a device at any time, a relay while it has its newest record whole
unfoldable pub can_resend : Lists → Network → ℕ → Bool
can_resend lists net x = is_node lists x && (is_leaf lists x || (nat_le (net.whole_from x) (net.last_number x) && nat_le 1 (net.last_number x)))

abbrev pub newest_bid : Lists → Pricing → Network → ℕ → BidMessage
newest_bid lists p net x =
    if is_leaf lists x then device_bid lists p x (net.counts x)
    else bid_message (net.last_number x) false
    (announced (p.limits x (numbers_of (net.records x (net.last_number x)))) (p.add x (λ z. (net.records x (net.last_number x) z).demand)))

abbrev pub after_resending : Lists → Pricing → Network → ℕ → Network
after_resending lists p net x = record net { bids_sent = update net.bids_sent x (net.bids_sent x ++ newest_bid lists p net x ∷ []) }

-- The auctioneer sends the price of its newest clearing to its child z, again or for the first time, while it has this
-- record whole.
unfoldable pub can_tell_one : Lists → Network → ℕ → Bool
can_tell_one lists net z =
    is_node lists z && parent lists z == 0 && nat_le (net.whole_from 0) (net.last_number 0) && nat_le 1 (net.last_number 0)
    && not (net.records 0 (net.last_number 0) z).gone

abbrev pub after_telling_one : Pricing → Network → ℕ → Network
after_telling_one p net z = record net {
  prices_sent = update net.prices_sent z (net.prices_sent z
      ++ price_message (net.records 0 (net.last_number 0) z).number (net.last_number 0)
      (clearing_step (p.add 0 (λ x. (net.records 0 (net.last_number 0) x).demand))) ∷ []);
}
