-- A network in which everything was taken, and nothing new can be sent.
use Rattle.std.specs.Prelude.{◌≡◌, ℕ, ◌<◌, ◌≤◌, false, if◌then◌else◌, length}
use Rattle.pm_market.specs.Lists.{Lists, parent, is_leaf, IsNode, IsConcentrator}
use Rattle.pm_net.specs.Pricing.{Pricing}
use Rattle.pm_net.specs.Network.{Network, sent_bid, sent_price, WasSent}
use Rattle.pm_net.specs.Running.{can_send, can_clear}

-- the number of a node's newest bid, sent or not
abbrev pub made_number : Lists → Network → ℕ → ℕ
made_number lists net x = if is_leaf lists x then net.counts x else net.last_number x

-- Each parent holds the newest bid of its child, each node the newest price that was sent to it, and the auctioneer sent the
-- price of its newest clearing to each child that is not gone.
pub record IsSettledNetwork (lists : Lists) (net : Network) : Type 0 where
  pub bids : (x : ℕ) → IsNode lists x → made_number lists net x ≤ (net.heard x).number
  pub prices : (x k : ℕ) → IsNode lists x → k < length (net.prices_sent x) → (sent_price net x k).index ≤ (net.taken x).index
  pub told : (x : ℕ) → IsNode lists x → parent lists x ≡ 0 → (net.heard x).gone ≡ false → WasSent net x (net.last_number 0)
  pub relays : (c : ℕ) → IsConcentrator lists c → can_send lists net c ≡ false
  pub auctioneer : can_clear lists net ≡ false

-- No message is left that anybody would take, and nothing new can be sent. While nothing restarted this is all that settled
-- asks for.
pub record AllTaken (lists : Lists) (p : Pricing) (net : Network) : Type 0 where
  pub bids : (x k : ℕ) → IsNode lists x → k < length (net.bids_sent x) → (sent_bid p net x k).number ≤ (net.heard x).number
  pub prices : (x k : ℕ) → IsNode lists x → k < length (net.prices_sent x) → (sent_price net x k).index ≤ (net.taken x).index
  pub relays : (c : ℕ) → IsConcentrator lists c → can_send lists net c ≡ false
  pub auctioneer : can_clear lists net ≡ false
