-- That carriers hand frames on unchanged, by their bytes.
use Rattle.std.specs.Prelude.{◌≡◌, ℕ, ◌+◌, ◌<◌, List, length, Some, ⊤}
use Rattle.pm_basis.specs.Prices.{BasisValue}
use Rattle.pm_market.specs.Lists.{Lists, parent, IsNode}
use Rattle.pm_net.specs.Pricing.{Pricing}
use Rattle.pm_net_plan.specs.Places.{Numbering}
use Rattle.pm_wire.specs.Frames.{IsFormed}
use Rattle.pm_wire.specs.declared.frame.Frame.TheVariants.{Hello, Bid, Gone, Clear}
use Rattle.pm_relay_net.specs.RelayIs.{LimitsPassBy}
use Rattle.pm_frames.specs.ParentFrames.{IsParentFormed}
use Rattle.pm_frames.specs.declared.parent.ParentFrame.TheVariants.{Price, Old}
use Rattle.pm_frames.specs.RelayFrames.{relay_frame_bytes}
use Rattle.pm_frames.specs.RootFrames.{root_frame_bytes}
use Rattle.pm_frames.specs.DeviceFrames.{device_frame_bytes}
use Rattle.pm_frames.specs.declared.relay.RelayFrame.{RelayFrame}
use Rattle.pm_frames.specs.declared.relay.RelayFrame.TheVariants as relay_frame
use Rattle.pm_frames.specs.declared.root.RootFrame.{RootFrame}
use Rattle.pm_frames.specs.declared.root.RootFrame.TheVariants as root_frame
use Rattle.pm_frames.specs.declared.device.DeviceFrame.{DeviceFrame}
use Rattle.pm_frames.specs.declared.device.DeviceFrame.TheVariants as device_frame
use Rattle.pm_services.specs.RelaySetups.{RelaySetup}
use Rattle.pm_system.specs.System.{System, bid_in_channel, price_in_channel}
use Rattle.pm_services.specs.Outputs.{up_bytes, down_frame_bytes}
use Rattle.pm_lives.specs.Carrying.{bid_frame, price_frame}
use Rattle.pm_lives.specs.RelayLife.{RelayMayRead}
use Rattle.pm_lives.specs.Free.{CarriesLetGo}

-- The bytes are those of a Bid or a Gone that a child of y wrote for it, and that was handed out. In it the child has its own number at y,
-- which it wrote itself: nothing is added to a frame on its way. Each of its fields has its bytes. To a relay it is of none that gives the
-- relay its limits.
pub record IsBidHandedOn (lists : Lists) (p : Pricing) (numbering : Numbering) (basis : BasisValue) (seen : System) (y : ℕ) (bytes : List ℕ) :
    Type 0 where
  pub x : ℕ
  pub node : IsNode lists x
  pub up : parent lists x ≡ y
  pub place : ℕ
  pub inside : place < length (seen.bids_sent x)
  pub formed : IsFormed (Some basis.steps) (bid_frame (numbering.place x + 1) (bid_in_channel p seen x place))
  pub unchanged : bytes ≡ up_bytes (numbering.place x + 1) (bid_in_channel p seen x place)
  pub passes : (y ≡ 0 → ⊥) → LimitsPassBy p y x

-- The bytes are those of a Price that the parent of x wrote for it, and that was handed out. In it x has its own number at its parent, and the
-- basis is that of all. Each of its fields has its bytes.
pub record IsPriceHandedOn (numbering : Numbering) (basis : BasisValue) (seen : System) (x : ℕ) (bytes : List ℕ) : Type 0 where
  pub place : ℕ
  pub inside : place < length (seen.prices_sent x)
  pub formed : IsParentFormed (price_frame basis (numbering.place x + 1) (price_in_channel seen x place))
  pub unchanged : bytes ≡ down_frame_bytes basis (numbering.place x) (price_in_channel seen x place)

-- Of a frame to relay c: a Bid, a Gone and a Price are handed on unchanged. Limits, which no node writes, are those of a message of the giver,
-- and a child that is let go is a device. Nothing is asked of the others; a Resume stands at the start alone.
abbrev pub RelayIsHanded : Lists → Pricing → Numbering → RelaySetup → System → ℕ → RelayFrame → Type 0
RelayIsHanded lists p numbering own seen c (relay_frame.Child (Hello basis)) = ⊤
RelayIsHanded lists p numbering own seen c (relay_frame.Child (Bid sender number demand)) =
    IsBidHandedOn lists p numbering own.basis seen c (relay_frame_bytes (relay_frame.Child (Bid sender number demand)))
RelayIsHanded lists p numbering own seen c (relay_frame.Child (Gone sender number)) =
    IsBidHandedOn lists p numbering own.basis seen c (relay_frame_bytes (relay_frame.Child (Gone sender number)))
RelayIsHanded lists p numbering own seen c (relay_frame.Child Clear) = ⊤
RelayIsHanded lists p numbering own seen c (relay_frame.Parent (Price child number index step basis)) =
    IsPriceHandedOn numbering own.basis seen c (relay_frame_bytes (relay_frame.Parent (Price child number index step basis)))
RelayIsHanded lists p numbering own seen c (relay_frame.Parent (Old child kept)) = ⊤
RelayIsHanded lists p numbering own seen c relay_frame.Send = ⊤
RelayIsHanded lists p numbering own seen c (relay_frame.Expire sender) = CarriesLetGo lists p numbering c sender
RelayIsHanded lists p numbering own seen c (relay_frame.Limits number limits) =
    RelayMayRead lists p numbering own seen c (relay_frame.Limits number limits)
RelayIsHanded lists p numbering own seen c (relay_frame.Bound sender bound) = ⊤
RelayIsHanded lists p numbering own seen c (relay_frame.Resume stored) = ⊥

-- of a frame to the auctioneer
abbrev pub RootIsHanded : Lists → Pricing → Numbering → BasisValue → System → RootFrame → Type 0
RootIsHanded lists p numbering basis seen (root_frame.Market (Hello other)) = ⊤
RootIsHanded lists p numbering basis seen (root_frame.Market (Bid sender number demand)) =
    IsBidHandedOn lists p numbering basis seen 0 (root_frame_bytes (root_frame.Market (Bid sender number demand)))
RootIsHanded lists p numbering basis seen (root_frame.Market (Gone sender number)) =
    IsBidHandedOn lists p numbering basis seen 0 (root_frame_bytes (root_frame.Market (Gone sender number)))
RootIsHanded lists p numbering basis seen (root_frame.Market Clear) = ⊤
RootIsHanded lists p numbering basis seen (root_frame.Expire sender) = CarriesLetGo lists p numbering 0 sender
RootIsHanded lists p numbering basis seen (root_frame.Bound sender bound) = ⊤
RootIsHanded lists p numbering basis seen (root_frame.Resume stored) = ⊥

-- of a frame to device d; of what its control asks, and of an Old, nothing is asked
abbrev pub DeviceIsHanded : Numbering → BasisValue → System → ℕ → DeviceFrame → Type 0
DeviceIsHanded numbering own seen d (device_frame.Parent (Price child number index step basis)) =
    IsPriceHandedOn numbering own seen d (device_frame_bytes (device_frame.Parent (Price child number index step basis)))
DeviceIsHanded numbering own seen d frame = ⊤
