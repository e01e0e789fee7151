-- A change of the prices leaves what a network says of the bids, and a change of the bids what it says of the prices.
use Rattle.std.proofs.Common.{◌≡◌, ℕ, ◌<◌, ◌≤◌, true, List, [], length, get_or}
use Rattle.std.specs.List.{Contains}
use Rattle.pm_base.specs.Cuts.{Cut}
use Rattle.pm_market.specs.Lists.{Lists, parent, IsNode, IsLeaf, IsConcentrator}
use Rattle.pm_market.specs.State.{State, cut_at, newest_number_of, number, last_index, cleared_cut}
use Rattle.pm_market.specs.Sound.{Sound}
use Rattle.pm_laws.specs.Due.{is_due}
use Rattle.pm_net.specs.Pricing.{Pricing}
use Rattle.pm_net.specs.Messages.{BidMessage, PriceMessage, nothing_heard}
use Rattle.pm_net.specs.Network.{Network, sent_bid, sent_price, WasSent, IsUnbroken}
use Rattle.pm_net.specs.Running.{recorded_number}
use Rattle.pm_net.specs.Agrees.{bid_of_number, IsItsBid, IsItsPrice, HoldsIts, NetworkAgrees, GoesOn}

-- what stands for the same state has made no move
abbrev pub still : (lists : Lists) (p : Pricing) (net : Network) (s : State) → NetworkAgrees lists p net s → GoesOn lists p s net
still lists p net s agrees = record { moves = []; legal = tt; agrees = agrees }

-- Sent to each child of a relay: the last price passed to the relay, if it answers all its numbers.
abbrev IsSentThrough : Lists → Network → State → Type 0
IsSentThrough lists net s = (x : ℕ) → IsNode lists x → IsConcentrator lists (parent lists x) →
    (net.taken (parent lists x)).index ≡ last_index s (parent lists x) →
    net.last_number (parent lists x) ≤ number lists s (parent lists x) (cleared_cut s (last_index s (parent lists x))) →
    ((z : ℕ) → IsNode lists z → parent lists z ≡ parent lists x → s.learnt z ≡ newest_number_of lists s z) →
    is_due lists s x (last_index s (parent lists x)) ≡ true → WasSent net x (last_index s (parent lists x))

-- what a network says of the prices
pub record PricesAgree (lists : Lists) (p : Pricing) (net : Network) (s : State) : Type 0 where
  -- the state is sound
  pub sound : Sound lists s
  -- a relay's answered number is that of the price it holds
  pub answered : (c : ℕ) → IsConcentrator lists c → net.answered c ≡ (net.taken c).number
  -- none is held of a later clearing than the last one passed
  pub index : (x : ℕ) → IsNode lists x → (net.taken x).index ≤ last_index s x
  -- a device that never restarted holds the last one
  pub device_index : (d : ℕ) → IsLeaf lists d → net.restarts d ≡ 0 → (net.taken d).index ≡ last_index s d
  -- each is due to its node
  pub taken : (x : ℕ) → IsNode lists x → HoldsIts lists p s x (net.taken x)
  -- no due one is missing at a relay
  pub full : (c j : ℕ) → IsConcentrator lists c → is_due lists s c j ≡ true → j ≤ last_index s c → Contains (s.passed c) j
  -- the last one passed was sent
  pub last_sent : (x : ℕ) → IsNode lists x → 0 < last_index s x → WasSent net x (last_index s x)
  -- each one sent is due
  pub prices_sent : (x k : ℕ) → IsNode lists x → k < length (net.prices_sent x) → IsItsPrice lists p s x (sent_price net x k)
  -- the root's were all sent, while nothing restarted
  pub due_root : IsUnbroken net → (x j : ℕ) → IsNode lists x → parent lists x ≡ 0 → is_due lists s x j ≡ true → WasSent net x j
  -- a relay's were sent on
  pub due_through : IsSentThrough lists net s

-- what it says of the bids
pub record BidsAgree (lists : Lists) (p : Pricing) (net : Network) (s : State) : Type 0 where
  -- the state is sound
  pub sound : Sound lists s
  -- one for each change of a device
  pub counts : (d : ℕ) → IsLeaf lists d → net.counts d ≡ s.counts d
  -- each one heard is its node's
  pub heard : (x : ℕ) → IsNode lists x → IsItsBid lists p s x (net.heard x)
  -- the newest records have the numbers learnt
  pub newest_numbers : (x : ℕ) → IsNode lists x → recorded_number net (parent lists x) x ≡ s.learnt x
  -- whole records have the bids
  pub records : (x n : ℕ) → IsNode lists x → net.whole_from (parent lists x) ≤ n → n ≤ length (s.published (parent lists x)) →
      net.records (parent lists x) n x ≡ bid_of_number lists p s x (number lists s x (cut_at (s.published (parent lists x)) n))
  -- each one sent is its node's
  pub bids_sent : (x k : ℕ) → IsNode lists x → k < length (net.bids_sent x) → IsItsBid lists p s x (sent_bid p net x k)
  -- while nothing restarted, the newest was sent
  pub newest_sent : IsUnbroken net → (x : ℕ) → IsNode lists x → 0 < newest_number_of lists s x →
      (k : ℕ) × (k < length (net.bids_sent x)) × ((sent_bid p net x k).number ≡ newest_number_of lists s x)
  -- all records are whole then
  pub whole_from : IsUnbroken net → (c : ℕ) → net.whole_from c ≡ 0
  -- and no parent is behind then
  pub caught_up : IsUnbroken net → (x : ℕ) → IsNode lists x → s.learnt x ≤ (net.heard x).number
  -- a relay's prices were sent on
  pub due_through : IsSentThrough lists net s

module _ (lists : Lists) (p : Pricing) (net : Network) (s : State) (agrees : NetworkAgrees lists p net s) where
  abbrev other_prices : (ℕ → ℕ) → (ℕ → PriceMessage) → (ℕ → List PriceMessage) → (ℕ → ℕ) → Network
  other_prices answered taken prices_sent restarts =
      record net { answered = answered; taken = taken; prices_sent = prices_sent; restarts = restarts }

  -- the bids are as they were where the prices alone are others, or a node restarted
  pub with_prices : (answered : ℕ → ℕ) (taken : ℕ → PriceMessage) (prices_sent : ℕ → List PriceMessage) (restarts : ℕ → ℕ)
      (passed : ℕ → List ℕ) →
      (IsUnbroken (other_prices answered taken prices_sent restarts) → IsUnbroken net) →
      PricesAgree lists p (other_prices answered taken prices_sent restarts) (record s { passed = passed }) →
      NetworkAgrees lists p (other_prices answered taken prices_sent restarts) (record s { passed = passed })
  with_prices answered taken prices_sent restarts passed = λ before prices. record {
    sound = prices.sound;
    closed = agrees.closed;
    counts = agrees.counts;
    heard = agrees.heard;
    learnt = agrees.learnt;
    last_number = agrees.last_number;
    newest_numbers = agrees.newest_numbers;
    records = agrees.records;
    answered = prices.answered;
    index = prices.index;
    device_index = prices.device_index;
    taken = prices.taken;
    full = prices.full;
    last_sent = prices.last_sent;
    bids_sent = agrees.bids_sent;
    prices_sent = prices.prices_sent;
    newest_sent = λ none. agrees.newest_sent (before none);
    whole_from = λ none. agrees.whole_from (before none);
    caught_up = λ none. agrees.caught_up (before none);
    due_root = prices.due_root;
    due_through = prices.due_through;
  }

  abbrev other_bids : (ℕ → ℕ) → (ℕ → BidMessage) → (ℕ → ℕ → ℕ → BidMessage) → (ℕ → ℕ) →
      (ℕ → List BidMessage) → Network
  other_bids counts heard records whole_from bids_sent =
      record net { counts = counts; heard = heard; records = records; whole_from = whole_from; bids_sent = bids_sent }

  -- the prices are as they were where the bids alone are others
  pub with_bids : (counts : ℕ → ℕ) (heard : ℕ → BidMessage) (records : ℕ → ℕ → ℕ → BidMessage) (whole_from : ℕ → ℕ)
      (bids_sent : ℕ → List BidMessage) (changes : Cut) →
      BidsAgree lists p (other_bids counts heard records whole_from bids_sent) (record s { counts = changes }) →
      NetworkAgrees lists p (other_bids counts heard records whole_from bids_sent) (record s { counts = changes })
  with_bids counts heard records whole_from bids_sent changes = λ bids. record {
    sound = bids.sound;
    closed = agrees.closed;
    counts = bids.counts;
    heard = bids.heard;
    learnt = agrees.learnt;
    last_number = agrees.last_number;
    newest_numbers = bids.newest_numbers;
    records = bids.records;
    answered = agrees.answered;
    index = agrees.index;
    device_index = agrees.device_index;
    taken = agrees.taken;
    full = agrees.full;
    last_sent = agrees.last_sent;
    bids_sent = bids.bids_sent;
    prices_sent = agrees.prices_sent;
    newest_sent = bids.newest_sent;
    whole_from = bids.whole_from;
    caught_up = bids.caught_up;
    due_root = agrees.due_root;
    due_through = bids.due_through;
  }

  module _ (sent : ℕ → List BidMessage) where
    -- so are they where other bids were sent
    pub with_sent : ((x k : ℕ) → IsNode lists x → k < length (sent x) → IsItsBid lists p s x (get_or (sent x) k (nothing_heard p))) →
        (IsUnbroken net → (x : ℕ) → IsNode lists x → 0 < newest_number_of lists s x →
        (k : ℕ) × (k < length (sent x)) × ((get_or (sent x) k (nothing_heard p)).number ≡ newest_number_of lists s x)) →
        NetworkAgrees lists p (record net { bids_sent = sent }) s
    with_sent each newest = with_bids net.counts net.heard net.records net.whole_from sent s.counts (record {
      sound = agrees.sound;
      counts = agrees.counts;
      heard = agrees.heard;
      newest_numbers = agrees.newest_numbers;
      records = agrees.records;
      bids_sent = λ x k. each x k;
      newest_sent = λ none x. newest none x;
      whole_from = agrees.whole_from;
      caught_up = agrees.caught_up;
      due_through = agrees.due_through;
    })
