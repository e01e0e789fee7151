-- Where frames lead to in the stream to a node.
use Rattle.std.proofs.Common.{◌≡◌, subst, refl, ℕ, Some}
use Rattle.std.specs.Prelude.{IfSome}
use Rattle.pm_base.specs.Limits.{AreSteps}
use Rattle.pm_wire.specs.declared.frame.Frame.{Frame}
use Rattle.pm_wire.specs.declared.frame.Frame.TheVariants.{Hello, Bid, Gone, Clear}
use Rattle.pm_wire.specs.Framing.{MayStand}
use Rattle.pm_wire.specs.Frames.{bid_framing}
use Rattle.pm_wire.proofs.OneFrame.{bid_framing_sound}
use Rattle.pm_frames.specs.Places.{bid_place, stage_behind, stage_after, IsStage}
use Rattle.pm_frames.specs.declared.place.Stage.{Stage}
use Rattle.pm_frames.specs.declared.place.Stage.TheVariants.{Start, Opened, Running}

-- a frame that is no Hello keeps the basis
pub behind_is : (stage : Stage) → IsStage stage → IsStage (stage_behind stage)
behind_is Start is = is
behind_is (Opened basis) is = is
behind_is (Running basis) is = is

-- and its place in a stream of bids is the one before it
pub same_bid_place : (stage : Stage) → bid_place (stage_behind stage) ≡ bid_place stage
same_bid_place Start = refl
same_bid_place (Opened basis) = refl
same_bid_place (Running basis) = refl

-- a Hello brings a basis
pub after_is : (stage : Stage) (frame : Frame) → IsStage stage → MayStand bid_framing (bid_place stage) frame → IsStage (stage_after stage frame)
after_is stage (Hello basis) is stands = bid_framing_sound.leads_on (bid_place stage) (Hello basis) is stands
after_is stage (Bid child number demand) is stands = behind_is stage is
after_is stage (Gone child number) is stands = behind_is stage is
after_is stage Clear is stands = behind_is stage is

-- the steps at a stage are those of a basis
pub steps_of : (stage : Stage) (steps : ℕ) → IsStage stage → bid_place stage ≡ Some steps → AreSteps steps
steps_of stage steps is e = subst (λ place. IfSome place AreSteps) e is
