-- Where a frame to an auctioneer's service may stand, by what the service knows.
use Rattle.std.specs.Prelude.{◌≡◌, ℕ, Option, Some, None}
use Rattle.pm_wire.specs.Framing.{MayStand}
use Rattle.pm_frames.specs.Places.{bid_place}
use Rattle.pm_frames.specs.RootFrames.{root_framing}
use Rattle.pm_frames.specs.declared.place.Stage.{Stage}
use Rattle.pm_frames.specs.declared.root.RootFrame.{RootFrame}
use Rattle.pm_services.specs.RootAnswers.{OpenRoot}

-- how many steps the basis has that the service knows, None before Hello
abbrev pub steps_known : Option OpenRoot → Option ℕ
steps_known None = None
steps_known (Some r) = Some r.basis.steps

-- the frame may stand at some place of the stream with so many steps, None before Hello
pub record MayStandWithSteps (steps' : Option ℕ) (frame : RootFrame) : Type 0 where
  pub stage : Stage
  pub steps : bid_place stage ≡ steps'
  pub stands : MayStand root_framing stage frame
