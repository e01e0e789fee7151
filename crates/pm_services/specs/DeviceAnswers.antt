-- What the service of a device's agent answers to each frame.
use Rattle.std.specs.Prelude.{◌≡◌, ℕ, List, [], Option, Some, None}
use Rattle.pm_basis.specs.Prices.{BasisValue}
use Rattle.pm_net.specs.Agents.{DeviceAgent, new_agent}
use Rattle.pm_net.specs.Messages.{price_message}
use Rattle.pm_frames.specs.declared.stored.StoredAgent.{StoredAgent}
use Rattle.pm_frames.specs.declared.parent.ParentFrame.TheVariants.{Price}
use Rattle.pm_frames.specs.declared.place.NodePlace.{NodePlace}
use Rattle.pm_frames.specs.declared.place.Stage.TheVariants.{Start}
use Rattle.pm_frames.specs.declared.device.DeviceFrame.{DeviceFrame}
use Rattle.pm_frames.specs.declared.device.DeviceFrame.TheVariants.{Hello, Parent}
use Rattle.pm_services.specs.Outputs.{Output}
use Rattle.pm_services.specs.DeviceWrites.{agent_after, after_price_of, price_outs_of, device_outs, device_bytes}

-- an agent, and the basis of the market
pub record OpenDevice : Type 0 where
  pub agent : DeviceAgent
  pub basis : BasisValue

abbrev pub with_held_agent : OpenDevice → DeviceAgent → OpenDevice
with_held_agent device agent' = record device { agent = agent' }

-- the device's own number at its parent, and its agent, once there is a basis
pub record DeviceServiceValue : Type 0 where
  pub child : ℕ
  pub device : Option OpenDevice

-- ---- all frames

-- a price is taken if it is of the device's own basis
abbrev pub open_device_after : OpenDevice → DeviceFrame → OpenDevice
open_device_after device (Parent (Price child number index step basis)) =
    with_held_agent device (after_price_of device.basis device.agent (price_message number index step) basis)
open_device_after device frame = with_held_agent device (agent_after device.agent frame)

abbrev pub open_device_outs : OpenDevice → DeviceFrame → List (Output StoredAgent)
open_device_outs device (Parent (Price child number index step basis)) =
    price_outs_of device.basis device.agent (price_message number index step) basis
open_device_outs device frame = device_outs device.basis.steps device.basis device.agent frame

abbrev pub device_reply : ℕ → OpenDevice → DeviceFrame → List ℕ
device_reply child device frame = device_bytes child device.basis (open_device_outs device frame)

-- an agent comes up with the first Hello, and before it nothing is answered
abbrev pub device_after : Option OpenDevice → DeviceFrame → Option OpenDevice
device_after None (Hello basis') = Some (record { agent = new_agent; basis = basis' })
device_after None frame = None
device_after (Some device) frame = Some (open_device_after device frame)

abbrev pub reply_to : ℕ → Option OpenDevice → DeviceFrame → List ℕ
reply_to child None frame = []
reply_to child (Some device) frame = device_reply child device frame

-- what a frame makes of what is known, and the bytes that answer it
pub record AnswersDevice (old : DeviceServiceValue) (frame : DeviceFrame) (new : DeviceServiceValue) (reply : List ℕ) : Type 0 where
  pub child : new.child ≡ old.child
  pub device : new.device ≡ device_after old.device frame
  pub replied : reply ≡ reply_to old.child old.device frame

-- before Hello there is no agent, and the stream is to this device
pub record IsDeviceStart (place : NodePlace) (service : DeviceServiceValue) : Type 0 where
  pub child : place.child ≡ service.child
  pub before_hello : place.stage ≡ Start
  pub closed : service.device ≡ None
