-- Nodes that are devices, and nodes that are none.
use Rattle.std.proofs.Common.{◌≡◌, ◌∙◌, sym, ap, ℕ, zero, suc, ◌<◌, ◌≤◌, ℤ, true, false, List, [], ◌∷◌, length, refl, arith}
use Rattle.std.proofs.Common.{inl, inr, Some}
use Rattle.std.specs.Prelude.{is_some}
use Rattle.std.proofs.Math.ListN.{get_or-eq_default}
use Rattle.std.proofs.lemmas.Bool.{cases_lt}
use Rattle.pm_base.specs.declared.limits.Limits.{Limits}
use Rattle.pm_device.specs.declared.kind.Kind.{Kind}
use Rattle.pm_plan.specs.Devices.{DeviceData}
use Rattle.pm_plan.specs.declared.node.Node.TheVariants.{Concentrator, Limited, Device}
use Rattle.pm_plan.specs.Plans.{NodeData, node_at, is_device, kind_of, start_of, limits_of, changes_of}
use Rattle.pm_plan.specs.Building.{map_device}

-- a device has what is planned for one
pub device-is : (n : NodeData) → is_device n ≡ true → (planned : DeviceData) × (n ≡ Device planned)
device-is (Device planned) h = (planned, refl)
device-is Concentrator h = absurd (cc h)
device-is (Limited limits) h = absurd (cc h)

-- a node that is a device of this kind
pub record HasKind (n : NodeData) (kind : Kind) : Type 0 where
  -- what is planned for the device of this kind
  pub planned : DeviceData
  -- the node is the device for which this is planned, seen by its kind
  pub is : n ≡ Device planned
  -- the kind that is planned is this kind
  pub kind_is : planned.kind ≡ kind

-- a node with a kind is a device of that kind
pub kind_of-tells : (n : NodeData) (kind : Kind) → kind_of n ≡ Some kind → HasKind n kind
kind_of-tells (Device planned) kind h = record { planned = planned; is = refl; kind_is = cc h }
kind_of-tells Concentrator kind h = absurd (cc h)
kind_of-tells (Limited limits) kind h = absurd (cc h)

-- a node that is a device with this start
pub record HasStart (n : NodeData) (start : ℤ) : Type 0 where
  -- what is planned for the device with this start
  pub planned : DeviceData
  -- the node is the device for which this is planned, seen by its start
  pub is : n ≡ Device planned
  -- the start that is planned is this start
  pub start_is : planned.start ≡ start

-- a node with a start is a device with that start
pub start_of-tells : (n : NodeData) (start : ℤ) → start_of n ≡ Some start → HasStart n start
start_of-tells (Device planned) start h = record { planned = planned; is = refl; start_is = cc h }
start_of-tells Concentrator start h = absurd (cc h)
start_of-tells (Limited limits) start h = absurd (cc h)

-- a node with limits is a limited concentrator
pub limits_of-tells : (n : NodeData) (limits : Limits) → limits_of n ≡ Some limits → n ≡ Limited limits
limits_of-tells (Limited own) limits h = ap Limited (let same : own ≡ limits = cc h in same)
limits_of-tells Concentrator limits h = absurd (cc h)
limits_of-tells (Device planned) limits h = absurd (cc h)

-- any other node has no changes
pub changes_of-none : (n : NodeData) → is_device n ≡ false → changes_of n ≡ []
changes_of-none (Device planned) h = absurd (cc h)
changes_of-none Concentrator h = refl
changes_of-none (Limited limits) h = refl

-- a change of a device leaves which nodes are devices, and the limits
pub is_device-map_device : (f : DeviceData → DeviceData) (n : NodeData) → is_device (map_device f n) ≡ is_device n
is_device-map_device f (Device planned) = refl
is_device-map_device f Concentrator = refl
is_device-map_device f (Limited limits) = refl

-- a change of a device leaves which nodes have limits
pub limited-map_device : (f : DeviceData → DeviceData) (n : NodeData) → is_some (limits_of (map_device f n)) ≡ is_some (limits_of n)
limited-map_device f (Device planned) = refl
limited-map_device f Concentrator = refl
limited-map_device f (Limited limits) = refl

-- at a number beyond the last node a concentrator is read
pub node-beyond : (nodes : List NodeData) (x : ℕ) → length nodes < x → node_at nodes x ≡ Concentrator
node-beyond nodes x far = get_or-eq_default (Concentrator ∷ nodes) Concentrator {n = x} (omega arith)

-- a device is one of the nodes, and not the auctioneer
pub device_first : (nodes : List NodeData) (x : ℕ) (planned : DeviceData) → node_at nodes x ≡ Device planned → 1 ≤ x
device_first nodes zero planned is = absurd (cc is)
device_first nodes (suc x) planned is = omega arith

-- the number of a device is at most the count of nodes
pub device_last : (nodes : List NodeData) (x : ℕ) (planned : DeviceData) → node_at nodes x ≡ Device planned → x ≤ length nodes
device_last nodes x planned is = elim (cases_lt (length nodes) x) [
  | inl far ↦ absurd (cc (sym (node-beyond nodes x far) ∙ is))
  | inr near ↦ omega arith
]
