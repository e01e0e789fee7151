-- What the fields of a device's service stand for, and what they keep.
use Rattle.std.specs.Prelude.{ℤ, List, Option, IfSome, ⊤}
use Rattle.std.specs.List.{AllByRecursion}
use Rattle.pm_base.specs.Limits.{demand_limit}
use Rattle.pm_bid.specs.Bids.{AllWithinLimit}
use Rattle.pm_net.specs.Agents.{DeviceAgent}
use Rattle.pm_frames.specs.declared.device.DeviceFrame.{DeviceFrame}
use Rattle.pm_frames.specs.declared.device.DeviceFrame.TheVariants.{Hello, Offer, Kind, Leave, Parent, Resume}
use Rattle.pm_services.specs.DeviceAnswers.{DeviceServiceValue, OpenDevice}
use Rattle.pm_services.specs.declared.device.DeviceService.TheInside.{Inside}
use Rattle.pm_services.specs.declared.open_device.OpenDevice.TheInside as open_device

abbrev pub device_service_of : Inside → DeviceServiceValue
device_service_of inside = record { child = inside.child; device = inside.device }

-- each offer that is kept fits a message
abbrev pub HasSmallOffers : DeviceAgent → Type 0
HasSmallOffers agent = AllByRecursion (λ offer. AllWithinLimit demand_limit offer.demand) agent.offers

abbrev pub open_device_of : open_device.Inside → OpenDevice
open_device_of inside = record { agent = inside.agent; basis = inside.basis }

abbrev pub AreOpenDeviceFields : open_device.Inside → Type 0
AreOpenDeviceFields inside = HasSmallOffers inside.agent

-- a demand, where there is one, fits a message
abbrev pub IsSmall : Option (List ℤ) → Type 0
IsSmall newest = IfSome newest (λ demand. AllWithinLimit demand_limit demand)

-- so does the demand of a frame that has one
abbrev pub HasSmallDemand : DeviceFrame → Type 0
HasSmallDemand (Hello basis) = ⊤
HasSmallDemand (Offer form demand) = AllWithinLimit demand_limit demand
HasSmallDemand (Kind named) = ⊤
HasSmallDemand Leave = ⊤
HasSmallDemand (Parent frame) = ⊤
HasSmallDemand (Resume stored) = IsSmall stored.newest
