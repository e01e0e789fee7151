-- The first byte of a frame tells its kind.
use Rattle.std.proofs.Common.{◌≡◌, ap, ℕ, ◌≤◌, List, ◌++◌, get_or, arith}
use Rattle.pm_wire.specs.declared.frame.Frame.{Frame}
use Rattle.pm_wire.specs.declared.frame.Frame.TheVariants.{Hello, Bid, Gone, Clear}
use Rattle.pm_wire.specs.Frames.{frame_bytes}

-- the kind of a frame of a stream of bids
pub bid_kind_of : (frame : Frame) (x : List ℕ) → get_or (frame_bytes frame ++ x) 0 0 ≤ 4
bid_kind_of (Hello basis) x = omega arith
bid_kind_of (Bid child number demand) x = omega arith
bid_kind_of (Gone child number) x = omega arith
bid_kind_of Clear x = omega arith

-- equal lists have one first byte
pub first_same : (x y : List ℕ) → x ≡ y → get_or x 0 0 ≡ get_or y 0 0
first_same x y e = ap (λ l. get_or l 0 0) e
