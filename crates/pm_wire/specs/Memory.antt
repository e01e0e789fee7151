-- How many bytes of a stream and of its answers a service holds at a time: a bound that knows no length of the stream.
use Rattle.std.specs.Prelude.{ℕ, ◌+◌, ◌*◌}
use Rattle.pm_base.specs.Limits.{most_steps, most_nodes}
use Rattle.pm_wire.specs.Kinds.{bid_head_size, bare_price_size}

-- the most bytes of a frame of a stream of bids: a bid over the most steps
abbrev pub frame_limit : ℕ
frame_limit = bid_head_size + 4 * most_steps

-- the most bytes of a piece of the stream
abbrev pub piece_limit : ℕ
piece_limit = 65536

-- the most bytes of the answers to such a frame: a price for each child
abbrev pub reply_limit : ℕ
reply_limit = bare_price_size * most_nodes

-- Of frames of at most `most_bytes` bytes, each answered by at most `most_answers` bytes: between two pieces the decoder holds fewer bytes
-- than this. Less than a frame is left, and no more is held of frames given.
abbrev pub rest_limit : ℕ → ℕ
rest_limit most_bytes = 2 * most_bytes

-- and with the next piece fewer than this
abbrev pub held_limit : ℕ → ℕ
held_limit most_bytes = rest_limit most_bytes + piece_limit

-- the most bytes of the answers to a piece: each frame that it makes whole has a byte at least
abbrev pub answers_limit : ℕ → ℕ → ℕ
answers_limit most_bytes most_answers = most_answers * (most_bytes + piece_limit)
