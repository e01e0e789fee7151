-- Where a frame stands in the stream to a node: before Hello, directly after it, or further on.
use Rattle.std.specs.Prelude.{ℕ, Option, Some, None, IfSome, IsTrue, ⊤}
use Rattle.pm_base.specs.Limits.{AreSteps}
use Rattle.pm_basis.specs.Prices.{BasisValue}
use Rattle.pm_device.specs.Kinds.{is_valid}
use Rattle.pm_device.specs.declared.kind.Kind.{Kind}
use Rattle.pm_wire.specs.declared.frame.Frame.{Frame}
use Rattle.pm_wire.specs.declared.frame.Frame.TheVariants.{Hello, Bid, Gone, Clear}
use Rattle.pm_frames.specs.declared.place.NodePlace.{NodePlace}
use Rattle.pm_frames.specs.declared.place.RelayPlace.{RelayPlace}
use Rattle.pm_frames.specs.declared.place.Stage.{Stage}
use Rattle.pm_frames.specs.declared.place.Stage.TheVariants.{Start, Opened, Running}

-- the basis that Hello had, None before it
abbrev pub basis_at : Stage → Option BasisValue
basis_at Start = None
basis_at (Opened basis) = Some basis
basis_at (Running basis) = Some basis

-- the place in a stream of bids: nothing before Hello, and after it the steps of its basis
abbrev pub bid_place : Stage → Option ℕ
bid_place Start = None
bid_place (Opened basis) = Some basis.steps
bid_place (Running basis) = Some basis.steps

-- how many steps the basis has, 0 before Hello
abbrev pub steps_at : Stage → ℕ
steps_at Start = 0
steps_at (Opened basis) = basis.steps
steps_at (Running basis) = basis.steps

-- after Hello, where all frames but it may stand
abbrev pub IsOpen : Stage → Type 0
IsOpen Start = ⊥
IsOpen (Opened basis) = ⊤
IsOpen (Running basis) = ⊤

-- directly after Hello, where what a node comes back with may stand
abbrev pub IsFresh : Stage → Type 0
IsFresh Start = ⊥
IsFresh (Opened basis) = ⊤
IsFresh (Running basis) = ⊥

-- the stage after a frame that is no Hello
abbrev pub stage_behind : Stage → Stage
stage_behind Start = Start
stage_behind (Opened basis) = Running basis
stage_behind (Running basis) = Running basis

-- the stage after a frame of a stream of bids
abbrev pub stage_after : Stage → Frame → Stage
stage_after stage (Hello basis) = Opened basis
stage_after stage (Bid child number demand) = stage_behind stage
stage_after stage (Gone child number) = stage_behind stage
stage_after stage Clear = stage_behind stage

-- the same node, at another stage
abbrev pub with_stage : NodePlace → Stage → NodePlace
with_stage place stage' = record place { stage = stage' }

-- the same node, at another stage and of this kind
abbrev pub with_kind : NodePlace → Stage → Option Kind → NodePlace
with_kind place stage' kind' = record place { stage = stage'; kind = kind' }

abbrev pub with_relay_stage : RelayPlace → Stage → RelayPlace
with_relay_stage place stage' = record place { stage = stage' }

-- a stage that frames lead to: after Hello there is a basis
abbrev pub IsStage : Stage → Type 0
IsStage stage = IfSome (bid_place stage) AreSteps

-- the parameters of a kind that was named are within their limits
abbrev pub IsNodePlace : NodePlace → Type 0
IsNodePlace place = IsStage place.stage × IfSome place.kind (λ kind. IsTrue (is_valid kind))

abbrev pub IsRelayPlace : RelayPlace → Type 0
IsRelayPlace place = IsStage place.stage
