-- That what a node took and wrote is a process of it, of which the law over a whole market speaks.
use Rattle.std.specs.Prelude.{◌≡◌, ◌⊎◌, ℕ, List, [], ◌++◌, Option}
use Rattle.std.specs.Io.KnownBytes.{Appends, Consumes}
use Rattle.pm_net.specs.Pricing.{Pricing}
use Rattle.pm_frames.specs.RelayFrames.{relay_framing}
use Rattle.pm_frames.specs.RootFrames.{root_framing}
use Rattle.pm_frames.specs.DeviceFrames.{device_framing}
use Rattle.pm_frames.specs.declared.place.Stage.TheVariants.{Start}
use Rattle.pm_processes.specs.Processes.{IsRelayProcess, IsRootProcess, IsDeviceProcess, HasNoFrame, relay_start, stream_start}
use Rattle.pm_processes.specs.RelayProcess.{RelayProcess}
use Rattle.pm_processes.specs.RootProcess.{RootProcess}
use Rattle.pm_processes.specs.DeviceProcess.{DeviceProcess}
use Rattle.pm_live.specs.declared.named.LiveNode.{LiveNode}
use Rattle.pm_live.specs.declared.named.LiveNode.TheVariants.{Relay, Auctioneer, Device}

abbrev pub IsProcessOf : LiveNode → (took wrote : List ℕ) → Type 0
IsProcessOf (Relay child terms) took wrote = IsRelayProcess child terms took wrote
IsProcessOf Auctioneer took wrote = IsRootProcess took wrote
IsProcessOf (Device child) took wrote = IsDeviceProcess child took wrote

-- frame by frame; or it read no whole frame yet
abbrev pub IsLifeOf : Pricing → LiveNode → (took wrote : List ℕ) → Type 0
IsLifeOf p (Relay child terms) took wrote = HasNoFrame relay_framing (relay_start child terms) took ⊎ RelayProcess child terms took wrote
IsLifeOf p Auctioneer took wrote = HasNoFrame root_framing Start took ⊎ RootProcess took wrote
IsLifeOf p (Device child) took wrote = HasNoFrame device_framing (stream_start child) took ⊎ DeviceProcess p child took wrote

-- Of the bytes that were read the node took the first ones: all, unless memory ran out. With a piece behind them, the bytes written are those of a process that
-- took these. `old` and `new` are what the source had left before and after, `held` and `holds` what the sink held.
pub record IsProcessBetween (node : LiveNode) (old new held holds : Option (List ℕ)) (piece : List ℕ) : Type 0 where
  pub took : List ℕ
  pub unread : List ℕ
  pub wrote : List ℕ
  pub consumes : Consumes old new (took ++ unread)
  pub appends : Appends held holds wrote
  pub process : IsProcessOf node took (wrote ++ piece)
  pub life : (p : Pricing) → IsLifeOf p node took (wrote ++ piece)

-- At each read a peer asks no more than that what it gave and holds is a process of the node; and at each write, that it is one with
-- any first part of the piece. So it is at each moment, whether the call returns or is ended.
pub record AsksForProcess {W : Type 0} (left held : W → Option (List ℕ)) (becomes : W → W → Type 0) (may_read : W → Type 0)
    (may_write : W → List ℕ → Type 0) (node : LiveNode) (old : W) : Type 0 where
  pub read : (now : W) → becomes old now → IsProcessBetween node (left old) (left now) (held old) (held now) [] → may_read now
  pub write : (now : W) (piece : List ℕ) → becomes old now →
      ((part more : List ℕ) → piece ≡ part ++ more → IsProcessBetween node (left old) (left now) (held old) (held now) part) → may_write now piece
