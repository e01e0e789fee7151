-- What a node writes, frame by frame, by who has use for it; and the bytes of it.
use Rattle.std.specs.Prelude.{ℕ, ◌+◌, if◌then◌else◌, List}
use Rattle.std.specs.List.{flat_map}
use Rattle.pm_basis.specs.Prices.{BasisValue}
use Rattle.pm_wire.specs.Frames.{frame_bytes}
use Rattle.pm_wire.specs.declared.frame.Frame.TheVariants.{Bid, Gone}
use Rattle.pm_net.specs.Messages.{BidMessage, PriceMessage}
use Rattle.pm_net.specs.Agents.{Setpoint}
use Rattle.pm_frames.specs.Answers.{setpoint_bytes}
use Rattle.pm_frames.specs.ParentFrames.{price_bytes}

-- a frame that a node writes
pub data Output (K : Type 0) : Type 0 where
  -- its bid, or that it is gone, for its parent
  Up : BidMessage → Output K
  -- a price, for the child in a place
  Down : ℕ → PriceMessage → Output K
  -- what it comes back with
  Keeps : K → Output K
  -- what its control is to do
  Tells : Setpoint → Output K
  -- any other frame, which no law speaks of
  Says : List ℕ → Output K

-- ---- its bytes; children count from 1 on the stream, and from 0 in a node

abbrev pub up_bytes : ℕ → BidMessage → List ℕ
up_bytes child bid = if bid.gone then frame_bytes (Gone child bid.number) else frame_bytes (Bid child bid.number bid.demand)

abbrev pub down_frame_bytes : BasisValue → ℕ → PriceMessage → List ℕ
down_frame_bytes basis place price = price_bytes (place + 1) price.number price.index price.step basis

-- `kept` has the bytes of what a node of this sort keeps, `basis` is that of the market, and `child` its own number at its parent
abbrev pub output_bytes : {K : Type 0} → (K → List ℕ) → BasisValue → ℕ → Output K → List ℕ
output_bytes kept basis child (Up bid) = up_bytes child bid
output_bytes kept basis child (Down place price) = down_frame_bytes basis place price
output_bytes kept basis child (Keeps stored) = kept stored
output_bytes kept basis child (Tells setpoint) = setpoint_bytes setpoint.number setpoint.index setpoint.step setpoint.power
output_bytes kept basis child (Says bytes) = bytes

abbrev pub outputs_bytes : {K : Type 0} → (K → List ℕ) → BasisValue → ℕ → List (Output K) → List ℕ
outputs_bytes kept basis child outs = flat_map (output_bytes kept basis child) outs
