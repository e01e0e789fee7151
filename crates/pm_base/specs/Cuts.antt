-- Cuts.
use Rattle.std.specs.Prelude.{ℕ, List, slice_index_or}

-- a cut gives each device a number of its changes
abbrev pub Cut : Type 0
Cut = ℕ → ℕ

-- the cut of a row of numbers, one for each node, from the auctioneer's on
abbrev pub cut_of : List ℕ → Cut
cut_of row node = slice_index_or row node 0
