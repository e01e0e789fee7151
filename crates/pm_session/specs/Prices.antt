-- A price on its way to the children of a node.
use Rattle.std.specs.Prelude.{◌≡◌, ℕ, ◌<◌, true, false, if◌then◌else◌, List, length, slice_index_or, Option, Some, None}
use Rattle.pm_bid.specs.Heads.{nothing_sent}
use Rattle.pm_bid.specs.declared.head.BidHead.{BidHead}
use Rattle.pm_session.specs.declared.price.PriceUpdate.{PriceUpdate}
use Rattle.pm_session.specs.Links.{Session, new_session, PriceOffered}

-- the head of a child
abbrev pub head_at : List BidHead → ℕ → BidHead
head_at heads child = slice_index_or heads child nothing_sent

-- the price for a child: the step, the number of its head, and the index; none if the head is gone
abbrev pub price_to : List BidHead → ℕ → ℕ → ℕ → Option PriceUpdate
price_to heads step index child =
    if (head_at heads child).gone then None else Some (record { step = step; number = (head_at heads child).number; index = index })

-- the link of a child
abbrev pub session_at : List Session → ℕ → Session
session_at sessions child = slice_index_or sessions child (new_session 0)

-- the index is above all that were offered to the children
abbrev pub IsNewIndex : ℕ → List Session → Type 0
IsNewIndex index sessions = (child : ℕ) → child < length sessions → (session_at sessions child).down.offered < index

-- each child whose head is not gone is offered the price with the number of its head; the links of
-- the others stay as they were
pub record PricesOffered (heads : List BidHead) (step index : ℕ) (old new : List Session) : Type 0 where
  pub same_length : length new ≡ length old
  pub offered : (child : ℕ) → child < length old → (head_at heads child).gone ≡ false →
      PriceOffered (session_at old child) (session_at new child) (record { step = step; number = (head_at heads child).number; index = index })
  pub others : (child : ℕ) → child < length old → (head_at heads child).gone ≡ true → session_at new child ≡ session_at old child
