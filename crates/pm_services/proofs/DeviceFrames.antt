-- A frame that a device's agent may take has a demand that fits a message, if it has one.
use Rattle.std.proofs.Common.{ℕ, ℤ, List, length, Option, Some, None}
use Rattle.pm_wire.specs.Framing.{place_behind}
use Rattle.pm_wire.specs.Taking.{CanTake}
use Rattle.pm_wire.proofs.Markets.{accepted_small}
use Rattle.pm_frames.specs.Stored.{IsNewestAccepted}
use Rattle.pm_frames.specs.DeviceFrames.{device_framing, IsDeviceAccepted}
use Rattle.pm_frames.specs.declared.place.NodePlace.{NodePlace}
use Rattle.pm_frames.specs.declared.device.DeviceFrame.{DeviceFrame}
use Rattle.pm_frames.specs.declared.device.DeviceFrame.TheVariants.{Hello, Offer, Kind, Leave, Parent, Resume}
use Rattle.pm_services.specs.DeviceAnswers.{DeviceServiceValue, AnswersDevice, IsDeviceStart}
use Rattle.pm_services.specs.DeviceServiceFields.{IsSmall, HasSmallDemand}

newest_small : (number : ℕ) (newest : Option (List ℤ)) → IsNewestAccepted number newest → IsSmall newest
newest_small number None accepted = tt
newest_small number (Some demand) accepted = accepted_small (length demand) demand accepted.1

demand_small : (place : NodePlace) (frame : DeviceFrame) → IsDeviceAccepted place frame → HasSmallDemand frame
demand_small place (Hello basis) accepted = tt
demand_small place (Offer form demand) accepted = accepted_small (length demand) demand accepted.1
demand_small place (Kind named) accepted = tt
demand_small place Leave accepted = tt
demand_small place (Parent frame) accepted = tt
demand_small place (Resume stored) accepted = newest_small stored.number stored.newest accepted.2

-- a frame that may be taken has demands that fit a message
pub taken_small : (service : DeviceServiceValue) (frame : DeviceFrame) → CanTake device_framing IsDeviceStart AnswersDevice service frame →
    HasSmallDemand frame
taken_small service frame can = demand_small (place_behind device_framing can.start can.frames) frame can.stands.accepted
