-- The most bytes of the answers to a frame, by the sort of the node.
use Rattle.std.specs.Prelude.{ℕ, ◌+◌, ◌*◌}
use Rattle.pm_base.specs.Limits.{most_nodes}
use Rattle.pm_wire.specs.Memory.{frame_limit}
use Rattle.pm_frames.specs.Stored.{relay_resume_size, root_resume_size}
use Rattle.pm_frames.specs.DeviceFrames.{device_frame_limit}

-- a price for each child
abbrev pub prices_limit : ℕ
prices_limit = 23 * most_nodes

-- the prices for a relay's children, with its Resume
abbrev pub price_reply_limit : ℕ
price_reply_limit = prices_limit + relay_resume_size

-- a relay's bid, and behind it that the bid is out of its limits
abbrev pub own_bid_limit : ℕ
own_bid_limit = frame_limit + 5

-- a relay's bid with its Resume, and the prices for its children with theirs
abbrev pub relay_reply_limit : ℕ
relay_reply_limit = own_bid_limit + prices_limit + 2 * relay_resume_size

-- Resume, and the prices for the children
abbrev pub root_reply_limit : ℕ
root_reply_limit = 7 + root_resume_size + prices_limit

-- a setpoint, a bid and its Resume
abbrev pub device_reply_limit : ℕ
device_reply_limit = 15 + frame_limit + device_frame_limit
