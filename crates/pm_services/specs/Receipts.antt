-- Parts of an answer of a node of any sort, and what was appended to the answers.
use Rattle.std.specs.Prelude.{◌≡◌, ℕ, ◌+◌, ◌-◌, ◌≤◌, nat_le, if◌then◌else◌, List, [], ◌∷◌, ◌++◌, length}
use Rattle.pm_bid.specs.declared.head.BidHead.{BidHead}
use Rattle.pm_net.specs.Messages.{price_message}
use Rattle.pm_wire.specs.Answers.{answer_bytes}
use Rattle.pm_wire.specs.declared.answer.Reply.TheVariants.{Old}
use Rattle.pm_services.specs.Outputs.{Output, Down, Says}

-- children count from 1 on the stream, and from 0 in a node
abbrev pub sender_place : ℕ → ℕ
sender_place sender = sender - 1

-- a number that is not above the kept one is old, and one that counts has no answer
abbrev pub receipt_bytes : ℕ → ℕ → ℕ → List ℕ
receipt_bytes kept sender number = if nat_le number kept then answer_bytes (Old sender kept) else []

abbrev pub receipt_outs : {K : Type 0} → ℕ → ℕ → ℕ → List (Output K)
receipt_outs kept sender number = if nat_le number kept then Says (answer_bytes (Old sender kept)) ∷ [] else []

-- the prices for children, from this place on; there is none for a child that is gone
abbrev pub down_of : {K : Type 0} → ℕ → ℕ → ℕ → BidHead → List (Output K)
down_of index step place head = if head.gone then [] else Down place (price_message head.number index step) ∷ []

abbrev pub downs : {K : Type 0} → ℕ → ℕ → ℕ → List BidHead → List (Output K)
downs index step place [] = []
downs index step place (head ∷ heads) = down_of index step place head ++ downs index step (place + 1) heads

-- the bytes of an answer were appended, so many at most
pub record Appended {K : Type 0} (bytes : List (Output K) → List ℕ) (Writes : List (Output K) → Type 0) (most : ℕ) (out longer : List ℕ) :
    Type 0 where
  pub outs : List (Output K)
  pub writes : Writes outs
  pub appended : longer ≡ out ++ bytes outs
  pub few : length (bytes outs) ≤ most
