-- The frames that set a node up: Hello, and what it comes back with directly behind it.
use Rattle.std.specs.Prelude.{⊤}
use Rattle.pm_wire.specs.SettingUp.{IsHello}
use Rattle.pm_frames.specs.declared.relay.RelayFrame.{RelayFrame}
use Rattle.pm_frames.specs.declared.relay.RelayFrame.TheVariants as relay
use Rattle.pm_frames.specs.declared.root.RootFrame.{RootFrame}
use Rattle.pm_frames.specs.declared.root.RootFrame.TheVariants as root
use Rattle.pm_frames.specs.declared.device.DeviceFrame.{DeviceFrame}
use Rattle.pm_frames.specs.declared.device.DeviceFrame.TheVariants as device

-- of a relay
abbrev pub SetsUpRelay : RelayFrame → Type 0
SetsUpRelay (relay.Child frame) = IsHello frame
SetsUpRelay (relay.Parent frame) = ⊥
SetsUpRelay relay.Send = ⊥
SetsUpRelay (relay.Expire child) = ⊥
SetsUpRelay (relay.Limits number limits) = ⊥
SetsUpRelay (relay.Bound child bound) = ⊥
SetsUpRelay (relay.Resume stored) = ⊤

-- of an auctioneer
abbrev pub SetsUpRoot : RootFrame → Type 0
SetsUpRoot (root.Market frame) = IsHello frame
SetsUpRoot (root.Expire child) = ⊥
SetsUpRoot (root.Bound child bound) = ⊥
SetsUpRoot (root.Resume stored) = ⊤

-- of a device
abbrev pub SetsUpDevice : DeviceFrame → Type 0
SetsUpDevice (device.Hello basis) = ⊤
SetsUpDevice (device.Offer form demand) = ⊥
SetsUpDevice (device.Kind named) = ⊥
SetsUpDevice device.Leave = ⊥
SetsUpDevice (device.Parent frame) = ⊥
SetsUpDevice (device.Resume stored) = ⊤
