-- What a peer asks that watches the service of a stream of bids, by all its bytes, those that it has still to give, and those that it got.
use Rattle.std.specs.Prelude.{◌≡◌, ℕ, List, [], Some, None}
use Rattle.pm_wire.specs.Frames.{bid_framing}
use Rattle.pm_wire.specs.Answers.{AreReplies}
use Rattle.pm_wire.specs.Moments.{HasAnswered, IsRestDue}

-- before it gives more: it got the answers to all whole frames of the bytes that it gave
abbrev pub HasWhatIsDue : List ℕ → List ℕ → List ℕ → Type 0
HasWhatIsDue bytes left held = HasAnswered bid_framing None AreReplies (Some bytes) (Some left) (Some []) (Some held)

-- when it is written a piece: with it, it got what is due for the bytes that it gave
abbrev pub GetsWhatIsDue : List ℕ → List ℕ → List ℕ → List ℕ → Type 0
GetsWhatIsDue bytes left held piece = IsRestDue bid_framing None AreReplies (Some bytes) (Some left) (Some []) (Some held) piece

-- the bytes that it has to give in all are the same
abbrev pub SameBytes : List ℕ → List ℕ → Type 0
SameBytes bytes others = others ≡ bytes
