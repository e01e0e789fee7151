-- The value that a node's store holds.
use Rattle.std.specs.Prelude.{◌≡◌, ℕ, ◌+◌, ◌<◌, ◌^◌, List, [], ◌++◌, drop, take, length, min, nat_lt, if◌then◌else◌}
use Rattle.std.specs.Int.{w64, to_be_bytes, from_be_bytes}

-- What a node comes back with: its newest Resume, and the Bid that is stored with it; each empty where there is none.
pub record Kept : Type 0 where
  pub resume : List ℕ
  pub bid : List ℕ

-- The number of the start that put it there, the length of the Resume, the Resume, and the Bid.
abbrev pub node_value : ℕ → Kept → List ℕ
node_value start kept = to_be_bytes w64 start ++ (to_be_bytes w64 (length kept.resume) ++ (kept.resume ++ kept.bid))

-- of no start it is 0
abbrev pub stored_start : List ℕ → ℕ
stored_start value = if nat_lt (length value) 16 then 0 else from_be_bytes w64 value

-- how long the Resume is: at most as long as what is there
abbrev pub resume_length : List ℕ → ℕ
resume_length value = min (from_be_bytes w64 (drop 8 value)) (length (drop 16 value))

abbrev pub stored_resume : List ℕ → List ℕ
stored_resume value = if nat_lt (length value) 16 then [] else take (resume_length value) (drop 16 value)

abbrev pub stored_bid : List ℕ → List ℕ
stored_bid value = if nat_lt (length value) 16 then [] else drop (resume_length value) (drop 16 value)

abbrev pub stored_kept : List ℕ → Kept
stored_kept value = record { resume = stored_resume value; bid = stored_bid value }

-- a value gives back what it was made of
pub record ValuesGiveBack : Type 0 where
  pub start : (start : ℕ) (kept : Kept) → start < 2 ^ 64 → stored_start (node_value start kept) ≡ start
  pub kept : (start : ℕ) (kept : Kept) → length kept.resume < 2 ^ 64 → stored_kept (node_value start kept) ≡ kept
  pub none : stored_kept [] ≡ record { resume = []; bid = [] }
