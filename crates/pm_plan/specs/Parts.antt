-- The parts that a plan is made of, as a cluster file writes them, without where they lie in memory.
use Rattle.std.specs.Prelude.{◌≡◌, ℕ, ℤ, Bool, true, false, List, map, string_bytes}
use Rattle.pm_device.specs.declared.kind.Kind.{Kind}
use Rattle.pm_tree.specs.Entries.{Entry, leaves_of}
use Rattle.pm_points.specs.Points.{Point}
use Rattle.pm_plan.specs.declared.parts.StateSpec.{StateSpec}
use Rattle.pm_plan.specs.declared.parts.StateSpec.TheVariants as state_specs
use Rattle.pm_plan.specs.declared.parts.NodeSpec.{NodeSpec}
use Rattle.pm_plan.specs.declared.parts.NodeSpec.TheVariants as node_specs
use Rattle.pm_plan.specs.declared.parts.EventSpec.{EventSpec}
use Rattle.pm_plan.specs.declared.parts.EventSpec.TheVariants as event_specs
use Rattle.pm_plan.specs.declared.parts.PhaseSpec.{PhaseSpec}
use Rattle.pm_plan.specs.declared.parts.PhaseSpec.TheVariants as phase_specs

-- a state: a number, a demand for each step, or points of price and demand
pub data StatePart : Type 0 where
  number : ℤ → StatePart
  array : List ℤ → StatePart
  points : List Point → StatePart

-- a node: a concentrator, one with a floor and a ceiling, or a device with its kind and its start
pub data NodePart : Type 0 where
  concentrator : NodePart
  limited : ℤ → ℤ → NodePart
  device : Kind → StatePart → NodePart

-- an event of the device with this name
pub data EventPart : Type 0 where
  join : List ℕ → EventPart
  state : List ℕ → StatePart → EventPart
  leave : List ℕ → EventPart

-- a phase: a list of events, or one tick of so many minutes
pub data PhasePart : Type 0 where
  events : List EventPart → PhasePart
  tick : ℤ → PhasePart

abbrev pub state_part : StateSpec → StatePart
state_part (state_specs.Number z) = number z
state_part (state_specs.Array demands) = array demands.items
state_part (state_specs.Points pairs) = points pairs.items

abbrev pub node_part : NodeSpec → NodePart
node_part node_specs.Concentrator = concentrator
node_part (node_specs.Limited floor ceiling) = limited floor ceiling
node_part (node_specs.Device kind start) = device kind (state_part start)

abbrev pub event_part : EventSpec → EventPart
event_part (event_specs.Join name) = join (string_bytes name)
event_part (event_specs.State name value) = state (string_bytes name) (state_part value)
event_part (event_specs.Leave name) = leave (string_bytes name)

abbrev pub phase_part : PhaseSpec → PhasePart
phase_part (phase_specs.Events list) = events (map event_part list.items)
phase_part (phase_specs.Tick minutes) = tick minutes

abbrev pub is_device : NodePart → Bool
is_device concentrator = false
is_device (limited floor ceiling) = false
is_device (device kind start) = true

-- the parts are those of the nodes of a tree: there is one for each entry, and the devices are the leaves
abbrev pub AreNodesOf : List Entry → List NodePart → Type 0
AreNodesOf entries parts = map is_device parts ≡ leaves_of entries
