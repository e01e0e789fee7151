-- Where a frame to a relay's service may stand, by what the service knows.
use Rattle.std.specs.Prelude.{◌≡◌, ℕ, Option, Some, None}
use Rattle.pm_wire.specs.Framing.{MayStand}
use Rattle.pm_frames.specs.Places.{bid_place}
use Rattle.pm_frames.specs.RelayFrames.{relay_framing}
use Rattle.pm_frames.specs.declared.place.RelayPlace.{RelayPlace}
use Rattle.pm_frames.specs.declared.relay.RelayFrame.{RelayFrame}
use Rattle.pm_services.specs.RelayAnswers.{OpenRelay}

-- how many steps the basis has that the service knows, None before Hello
abbrev pub steps_known : Option OpenRelay → Option ℕ
steps_known None = None
steps_known (Some r) = Some r.setup.basis.steps

-- the frame may stand at some place of the stream with so many steps, None before Hello
pub record MayStandWithSteps (steps' : Option ℕ) (frame : RelayFrame) : Type 0 where
  pub place : RelayPlace
  pub steps : bid_place place.stage ≡ steps'
  pub stands : MayStand relay_framing place frame
