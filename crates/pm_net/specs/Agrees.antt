-- The relation by which a network stands for a state of the market of cuts: each message ever sent says what the market says.
use Rattle.std.specs.Prelude.{◌≡◌, ℕ, ◌<◌, ◌≤◌, ◌⊎◌, true, List, length}
use Rattle.std.specs.List.{Contains}
use Rattle.pm_market.specs.Lists.{Lists, parent, IsNode, IsLeaf, IsInner, IsConcentrator}
use Rattle.pm_market.specs.State.{State, cut_at, newest_number_of, part, number, last_index, cleared_cut}
use Rattle.pm_market.specs.Moves.{LegalFrom, after_from}
use Rattle.pm_market.specs.Sound.{Sound}
use Rattle.pm_market.specs.declared.moves.Move.{Move}
use Rattle.pm_laws.specs.Due.{is_due}
use Rattle.pm_laws.specs.Gone.{is_gone}
use Rattle.pm_net.specs.Pricing.{Pricing}
use Rattle.pm_net.specs.Messages.{BidMessage, PriceMessage, bid_message, price_message, no_price}
use Rattle.pm_net.specs.Network.{Network, sent_bid, sent_price, WasSent, IsUnbroken}
use Rattle.pm_net.specs.Running.{recorded_number}

-- ---- what a message says

-- bid n of a node: its offer over what the number stands for
abbrev pub bid_of_number : Lists → Pricing → State → ℕ → ℕ → BidMessage
bid_of_number lists p s x n = bid_message n (is_gone lists x n) (p.offer x (part lists s x n))

-- the price of clearing j for a node: its number and its local step in the cleared cut
abbrev pub price_of_clearing : Lists → Pricing → State → ℕ → ℕ → PriceMessage
price_of_clearing lists p s x j = price_message (number lists s x (cleared_cut s j)) j (p.local (cleared_cut s j) x)

-- a bid that the node could have sent
abbrev pub IsItsBid : Lists → Pricing → State → ℕ → BidMessage → Type 0
IsItsBid lists p s x bid = (bid.number ≤ newest_number_of lists s x) × (bid ≡ bid_of_number lists p s x bid.number)

-- a price that is due to the node
abbrev pub IsItsPrice : Lists → Pricing → State → ℕ → PriceMessage → Type 0
IsItsPrice lists p s x price = (is_due lists s x price.index ≡ true) × (price ≡ price_of_clearing lists p s x price.index)

-- what a node holds: nothing, or a price that is due to it
abbrev pub HoldsIts : Lists → Pricing → State → ℕ → PriceMessage → Type 0
HoldsIts lists p s x price = (price ≡ no_price) ⊎ IsItsPrice lists p s x price

-- ---- the relation

-- a network stands for a state
pub record NetworkAgrees (lists : Lists) (p : Pricing) (net : Network) (s : State) : Type 0 where
  pub sound : Sound lists s
  -- the open phase is the first
  pub closed : s.closed ≡ 0
  -- a device made as many bids as changes
  pub counts : (d : ℕ) → IsLeaf lists d → net.counts d ≡ s.counts d
  -- what a parent holds of a node is a bid of the node
  pub heard : (x : ℕ) → IsNode lists x → IsItsBid lists p s x (net.heard x)
  -- the market's parent learnt what went into its newest record, and no more: what a parent heard since is in no state
  pub learnt : (x : ℕ) → IsNode lists x →
      s.learnt x ≡ number lists s x (cut_at (s.published (parent lists x)) (length (s.published (parent lists x))))
  pub last_number : (c : ℕ) → IsInner lists c → net.last_number c ≡ length (s.published c)
  -- the newest record has the children's numbers, over any restarts; a record that is whole has their bids
  pub newest_numbers : (x : ℕ) → IsNode lists x → recorded_number net (parent lists x) x ≡ s.learnt x
  pub records : (x n : ℕ) → IsNode lists x → net.whole_from (parent lists x) ≤ n → n ≤ length (s.published (parent lists x)) →
      net.records (parent lists x) n x ≡ bid_of_number lists p s x (number lists s x (cut_at (s.published (parent lists x)) n))
  -- the number answered is that of the price which the relay holds
  pub answered : (c : ℕ) → IsConcentrator lists c → net.answered c ≡ (net.taken c).number
  -- what a node holds is due to it, and is of no later clearing than the one passed to it last
  pub taken : (x : ℕ) → IsNode lists x → HoldsIts lists p s x (net.taken x)
  pub index : (x : ℕ) → IsNode lists x → (net.taken x).index ≤ last_index s x
  -- it is of that one, of a device that never restarted
  pub device_index : (d : ℕ) → IsLeaf lists d → net.restarts d ≡ 0 → (net.taken d).index ≡ last_index s d
  -- to a relay each clearing was passed that is due to it, up to the last one passed
  pub full : (c j : ℕ) → IsConcentrator lists c → is_due lists s c j ≡ true → j ≤ last_index s c → Contains (s.passed c) j
  -- the last one passed to a node was sent to it
  pub last_sent : (x : ℕ) → IsNode lists x → 0 < last_index s x → WasSent net x (last_index s x)
  -- every bid that a node ever sent, and every price that was ever sent to it
  pub bids_sent : (x k : ℕ) → IsNode lists x → k < length (net.bids_sent x) → IsItsBid lists p s x (sent_bid p net x k)
  pub prices_sent : (x k : ℕ) → IsNode lists x → k < length (net.prices_sent x) → IsItsPrice lists p s x (sent_price net x k)
  -- while nothing restarted or stopped: the newest bid was sent, no record is lost, no parent is behind its newest record,
  -- and the auctioneer sent each price that is due to its children
  pub newest_sent : IsUnbroken net → (x : ℕ) → IsNode lists x → 0 < newest_number_of lists s x →
      (k : ℕ) × (k < length (net.bids_sent x)) × ((sent_bid p net x k).number ≡ newest_number_of lists s x)
  pub whole_from : IsUnbroken net → (c : ℕ) → net.whole_from c ≡ 0
  pub caught_up : IsUnbroken net → (x : ℕ) → IsNode lists x → s.learnt x ≤ (net.heard x).number
  pub due_root : IsUnbroken net → (x j : ℕ) → IsNode lists x → parent lists x ≡ 0 → is_due lists s x j ≡ true → WasSent net x j
  -- over restarts: a relay that holds the last price passed to it, which answers all its numbers, and whose newest record has
  -- the newest numbers of its children, sent that price on to each child to which it is due
  pub due_through : (x : ℕ) → IsNode lists x → IsConcentrator lists (parent lists x) →
      (net.taken (parent lists x)).index ≡ last_index s (parent lists x) →
      net.last_number (parent lists x) ≤ number lists s (parent lists x) (cleared_cut s (last_index s (parent lists x))) →
      ((z : ℕ) → IsNode lists z → parent lists z ≡ parent lists x → s.learnt z ≡ newest_number_of lists s z) →
      is_due lists s x (last_index s (parent lists x)) ≡ true → WasSent net x (last_index s (parent lists x))

-- ---- how it goes on

-- from a state on some legal moves lead to a state that a network stands for
pub record GoesOn (lists : Lists) (p : Pricing) (s : State) (net : Network) : Type 0 where
  pub moves : List Move
  pub legal : LegalFrom lists s moves
  pub agrees : NetworkAgrees lists p net (after_from lists s moves)

-- x is given a price of clearing j: nothing moves, or j is later than the last clearing passed to x, and is that last one then
pub record GoesForward (lists : Lists) (p : Pricing) (s : State) (x j : ℕ) (net : Network) : Type 0 where
  pub goes : GoesOn lists p s net
  pub move : (after_from lists s goes.moves ≡ s) ⊎ ((last_index s x < j) × (last_index (after_from lists s goes.moves) x ≡ j))
