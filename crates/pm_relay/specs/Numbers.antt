-- The numbers of children: those of what a node made last, and those of what it heard. A relay makes bids, a root clearings.
use Rattle.std.specs.Prelude.{◌≡◌, ℕ, ◌+◌, ◌%◌, ◌<◌, ◌≤◌, if◌then◌else◌, ◌==◌, nat_lt, List, length, slice_index_or}
use Rattle.pm_bid.specs.Heads.{nothing_sent}
use Rattle.pm_bid.specs.declared.head.BidHead.{BidHead}

-- the number of a child in a list of numbers, and in a list of heads
abbrev pub child_number : List ℕ → ℕ → ℕ
child_number numbers child = slice_index_or numbers child 0

abbrev pub head_number : List BidHead → ℕ → ℕ
head_number heads child = (slice_index_or heads child nothing_sent).number

-- a node has heard of each child as much as went into what it made last
abbrev pub IsCaughtUp : List ℕ → List BidHead → Type 0
IsCaughtUp numbers heads = (child : ℕ) → child < length numbers → child_number numbers child ≤ head_number heads child

-- a node has heard of no child more than went into what it made last
abbrev pub HearsNothingNewer : List ℕ → List BidHead → Type 0
HearsNothingNewer numbers heads = (child : ℕ) → child < length numbers → head_number heads child ≤ child_number numbers child

-- A node that came back and has heard again all that went into what it made last. `base` is the number of that, `made` is how
-- many it has made since, the numbers are the children's in it, and `Changed` says that what was heard is new to the node.
pub record HearsAgain (base made : ℕ) (numbers : List ℕ) (heads : List BidHead) (Changed : Type 0) : Type 0 where
  pub came_back : 0 < base
  pub lost : made ≡ 0
  pub caught_up : IsCaughtUp numbers heads
  pub nothing_newer : HearsNothingNewer numbers heads
  pub changed : Changed

-- ---- a child that is let go

-- The newest number that is known of a child: the one heard, or that in the record, where that is greater.
abbrev pub known_number : List ℕ → List BidHead → ℕ → ℕ
known_number numbers heads child =
    if nat_lt (child_number numbers child) (head_number heads child) then head_number heads child
    else child_number numbers child

-- The number of its parent's under which a child of this number is let go: the odd number that is not below it. A device gives
-- even numbers alone.
abbrev pub parents_number : ℕ → ℕ
parents_number number = if number % 2 == 0 then number + 1 else number
