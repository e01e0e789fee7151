-- The heads of the children of a node, in their places.
use Rattle.std.specs.Prelude.{◌≡◌, ℕ, ℤ, if◌then◌else◌, ◌==◌, List, map}
use Rattle.std.specs.List.{range_with_len}
use Rattle.pm_base.specs.Limits.{most_nodes}
use Rattle.pm_bid.specs.Bids.{sum_of}
use Rattle.pm_bid.specs.Heads.{nothing_sent}
use Rattle.pm_bid.specs.declared.head.BidHead.{BidHead}
use Rattle.pm_net.specs.Pricing.{Pricing}
use Rattle.pm_net.specs.Messages.{BidMessage}
use Rattle.pm_net_plan.specs.Places.{Numbering, demands_of}

-- the head of a bid
abbrev pub bid_head : BidMessage → BidHead
bid_head bid = record { number = bid.number; gone = bid.gone }

-- the head in a place of y: that of its child there, in these bids, else that of one that sent nothing
abbrev pub head_in : Numbering → ℕ → (ℕ → BidMessage) → ℕ → BidHead
head_in numbering y bids k = if numbering.child y k == 0 then nothing_sent else bid_head (bids (numbering.child y k))

unfoldable pub heads_of : Numbering → ℕ → (ℕ → BidMessage) → List BidHead
heads_of numbering y bids = map (head_in numbering y bids) (range_with_len 0 most_nodes)

-- sums are taken in the order of the places, as a cache of bids adds
abbrev pub AddsByPlaces : Pricing → Numbering → Type 0
AddsByPlaces p numbering = (y : ℕ) (f : ℕ → List ℤ) → p.add y f ≡ sum_of p.steps (demands_of p.steps numbering y f)
