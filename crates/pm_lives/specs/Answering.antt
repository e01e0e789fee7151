-- Frames that no process reads behind its start, and prices by their basis.
use Rattle.std.specs.Prelude.{◌≡◌, ℕ, List, ⊤, true, false}
use Rattle.pm_frames.specs.declared.relay.RelayFrame.{RelayFrame}
use Rattle.pm_frames.specs.declared.relay.RelayFrame.TheVariants as relay_frame
use Rattle.pm_frames.specs.declared.root.RootFrame.{RootFrame}
use Rattle.pm_frames.specs.declared.root.RootFrame.TheVariants as root_frame
use Rattle.pm_frames.specs.declared.device.DeviceFrame.{DeviceFrame}
use Rattle.pm_frames.specs.declared.device.DeviceFrame.TheVariants as device_frame
use Rattle.pm_basis.specs.Prices.{BasisValue}
use Rattle.pm_frames.specs.Answers.{other_basis_bytes}
use Rattle.pm_frames.specs.declared.parent.ParentFrame.TheVariants.{Price}
use Rattle.pm_services.specs.DeviceWrites.{same_basis}

-- a Resume is read at the start of a life alone
abbrev pub IsNoRelayResume : RelayFrame → Type 0
IsNoRelayResume (relay_frame.Child frame) = ⊤
IsNoRelayResume (relay_frame.Parent frame) = ⊤
IsNoRelayResume relay_frame.Send = ⊤
IsNoRelayResume (relay_frame.Expire sender) = ⊤
IsNoRelayResume (relay_frame.Limits number limits) = ⊤
IsNoRelayResume (relay_frame.Bound sender bound) = ⊤
IsNoRelayResume (relay_frame.Resume stored) = ⊥

abbrev pub IsNoRootResume : RootFrame → Type 0
IsNoRootResume (root_frame.Market frame) = ⊤
IsNoRootResume (root_frame.Expire sender) = ⊤
IsNoRootResume (root_frame.Bound sender bound) = ⊤
IsNoRootResume (root_frame.Resume stored) = ⊥

abbrev pub IsNoDeviceResume : DeviceFrame → Type 0
IsNoDeviceResume (device_frame.Hello basis) = ⊤
IsNoDeviceResume (device_frame.Offer form demand) = ⊤
IsNoDeviceResume (device_frame.Kind named) = ⊤
IsNoDeviceResume device_frame.Leave = ⊤
IsNoDeviceResume (device_frame.Parent frame) = ⊤
IsNoDeviceResume (device_frame.Resume stored) = ⊥

-- a price in it is of this basis, or of another one
abbrev pub IsOfBasis : BasisValue → DeviceFrame → Type 0
IsOfBasis own (device_frame.Parent (Price child number index step basis)) = same_basis basis own ≡ true
IsOfBasis own frame = ⊤

abbrev pub IsOfOtherBasis : BasisValue → DeviceFrame → Type 0
IsOfOtherBasis own (device_frame.Parent (Price child number index step basis)) = same_basis basis own ≡ false
IsOfOtherBasis own frame = ⊥

-- the answer is that the price is of another basis
abbrev pub SaysOtherBasis : List ℕ → DeviceFrame → Type 0
SaysOtherBasis reply (device_frame.Parent (Price child number index step basis)) = reply ≡ other_basis_bytes number index
SaysOtherBasis reply frame = ⊥
