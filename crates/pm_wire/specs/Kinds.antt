-- The kinds and the sizes of the frames of a stream of bids and of their answers. The first byte tells the kind; a size counts it too.
use Rattle.std.specs.Prelude.{ℕ}

-- ---- frames

abbrev pub hello_kind : ℕ
hello_kind = 1

abbrev pub hello_size : ℕ
hello_size = 11

abbrev pub bid_kind : ℕ
bid_kind = 2

-- without its demands, of which each has 4 bytes
abbrev pub bid_head_size : ℕ
bid_head_size = 7

abbrev pub gone_kind : ℕ
gone_kind = 3

abbrev pub gone_size : ℕ
gone_size = 7

abbrev pub clear_kind : ℕ
clear_kind = 4

abbrev pub clear_size : ℕ
clear_size = 1

-- ---- answers

-- a price that does not tell its basis
abbrev pub bare_price_kind : ℕ
bare_price_kind = 5

abbrev pub bare_price_size : ℕ
bare_price_size = 13

abbrev pub not_changed_kind : ℕ
not_changed_kind = 6

abbrev pub old_kind : ℕ
old_kind = 7

abbrev pub old_size : ℕ
old_size = 7

-- the last answer where a frame is bad, whatever the frames are
abbrev pub fault_kind : ℕ
fault_kind = 8
