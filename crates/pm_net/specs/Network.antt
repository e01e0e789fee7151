-- A network: devices, relays and an auctioneer on machines of their own, and between them channels that lose, repeat and
-- reorder messages.
use Rattle.std.specs.Prelude.{◌≡◌, ℕ, ◌<◌, List, [], length, slice_index_or}
use Rattle.pm_net.specs.Pricing.{Pricing}
use Rattle.pm_net.specs.Messages.{BidMessage, PriceMessage, nothing_heard, no_price}

-- Node 0 is the auctioneer; of the other nodes of a tree the leaves are devices, and each node between is a relay.
pub record Network : Type 0 where
  -- of each device how many bids it made
  pub counts : ℕ → ℕ
  -- of each node the newest bid that its parent heard of it
  pub heard : ℕ → BidMessage
  -- of each relay the number of its newest bid, of the auctioneer the index of its newest clearing
  pub last_number : ℕ → ℕ
  -- of each of them, under each number, what it had heard of each node when it made that bid or clearing
  pub records : ℕ → ℕ → ℕ → BidMessage
  -- from which number on it has its records whole: those before are lost
  pub whole_from : ℕ → ℕ
  -- of each relay the number that is named by the price which it holds
  pub answered : ℕ → ℕ
  -- of each node the price that it holds: the last that it took, or one that it came back with
  pub taken : ℕ → PriceMessage
  -- how often each node restarted, or stopped between storing and sending
  pub restarts : ℕ → ℕ
  -- the channels: every bid that each node ever sent up, and every price that was ever sent down to it
  pub bids_sent : ℕ → List BidMessage
  pub prices_sent : ℕ → List PriceMessage

-- nothing was sent yet
abbrev pub start_network : Pricing → Network
start_network p = record {
  counts = λ d. 0;
  heard = λ x. nothing_heard p;
  last_number = λ c. 0;
  records = λ c n x. nothing_heard p;
  whole_from = λ c. 0;
  answered = λ c. 0;
  taken = λ x. no_price;
  restarts = λ x. 0;
  bids_sent = λ x. [];
  prices_sent = λ x. [];
}

-- the message in a place of a channel, and past its end one that nobody takes
abbrev pub sent_bid : Pricing → Network → ℕ → ℕ → BidMessage
sent_bid p net x k = slice_index_or (net.bids_sent x) k (nothing_heard p)

abbrev pub sent_price : Network → ℕ → ℕ → PriceMessage
sent_price net x k = slice_index_or (net.prices_sent x) k no_price

-- a price of clearing j was sent to x
abbrev pub WasSent : Network → ℕ → ℕ → Type 0
WasSent net x j = (k : ℕ) × (k < length (net.prices_sent x)) × ((sent_price net x k).index ≡ j)

-- no node restarted or stopped so far
abbrev pub IsUnbroken : Network → Type 0
IsUnbroken net = (x : ℕ) → net.restarts x ≡ 0
