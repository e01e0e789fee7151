-- What a node reads and writes, by how it ends. `old` and `new` are what the source had left before and after, `held` and `holds` what the sink
-- held; `rose_source` and `rose_sink` say that a fault of the source, or of the sink, was counted.
use Rattle.std.specs.Prelude.{ℕ, ◌<◌, List, length, take, codes, Option, None}
use Rattle.std.specs.Io.KnownBytes.{Appends}
use Rattle.pm_wire.specs.Taking.{AnswersFrom}
use Rattle.pm_wire.specs.Services.{EndsSo}
use Rattle.pm_wire.specs.Due.{EndsAsDue}
use Rattle.pm_wire.specs.declared.stream.Served.{Served}
use Rattle.pm_frames.specs.RelayFrames.{relay_framing}
use Rattle.pm_frames.specs.RootFrames.{root_framing}
use Rattle.pm_frames.specs.DeviceFrames.{device_framing}
use Rattle.pm_frames.specs.declared.place.Stage.TheVariants.{Start}
use Rattle.pm_wire.specs.SettingUp.{piece_size, EndsSettingUp}
use Rattle.pm_services.specs.SettingUp.{SetsUpRelay, SetsUpRoot, SetsUpDevice}
use Rattle.pm_services.specs.RelayAnswers.{AnswersRelay}
use Rattle.pm_services.specs.RootAnswers.{AnswersRoot}
use Rattle.pm_services.specs.DeviceAnswers.{AnswersDevice}
use Rattle.pm_processes.specs.Processes.{stream_start, relay_start, new_relay_service, new_device_service}
use Rattle.pm_live.specs.declared.named.LiveNode.{LiveNode}
use Rattle.pm_live.specs.declared.named.LiveNode.TheVariants.{Relay, Auctioneer, Device}

abbrev pub node_usage_line : List ℕ
node_usage_line = codes "usage: live relay CHILD FLOOR CEILING [GIVER] | live auctioneer | live device CHILD\n"

-- a prefix of the usage line was written, and not all of it
abbrev pub WrotePartOfUsage : Option (List ℕ) → Option (List ℕ) → Type 0
WrotePartOfUsage held holds = (written : ℕ) × (written < length node_usage_line) × Appends held holds (take written node_usage_line)

-- ---- how a node ends

-- what it read and wrote, by how it ended
abbrev pub ServesNode : LiveNode → (old new held holds : Option (List ℕ)) (rose_source rose_sink : Type 0) → Served → Type 0
ServesNode (Relay child terms) old new held holds rose_source rose_sink served =
    EndsSo relay_framing (relay_start child terms) (AnswersFrom AnswersRelay (new_relay_service child terms)) old new held holds rose_source rose_sink served
ServesNode Auctioneer old new held holds rose_source rose_sink served =
    EndsSo root_framing Start (AnswersFrom AnswersRoot None) old new held holds rose_source rose_sink served
ServesNode (Device child) old new held holds rose_source rose_sink served =
    EndsSo device_framing (stream_start child) (AnswersFrom AnswersDevice (new_device_service child)) old new held holds rose_source rose_sink served

-- how it ended by what the source had, where the source tells that
abbrev pub EndsNodeAsDue : LiveNode → (all : List ℕ) (old new held holds : Option (List ℕ)) (rose_source rose_sink : Type 0) → Served → Type 0
EndsNodeAsDue (Relay child terms) all old new held holds rose_source rose_sink served =
    EndsAsDue relay_framing (relay_start child terms)
    (AnswersFrom AnswersRelay (new_relay_service child terms)) all old new held holds rose_source rose_sink served
EndsNodeAsDue Auctioneer all old new held holds rose_source rose_sink served =
    EndsAsDue root_framing Start (AnswersFrom AnswersRoot None) all old new held holds rose_source rose_sink served
EndsNodeAsDue (Device child) all old new held holds rose_source rose_sink served =
    EndsAsDue device_framing (stream_start child) (AnswersFrom AnswersDevice (new_device_service child)) all old new held holds rose_source rose_sink served

-- behind the frames that were whole before the last piece was read, one that came with this piece sets the node up
abbrev pub EndsNodeSettingUp : LiveNode → (old new : Option (List ℕ)) → Type 0
EndsNodeSettingUp (Relay child terms) old new = EndsSettingUp relay_framing (relay_start child terms) SetsUpRelay piece_size old new
EndsNodeSettingUp Auctioneer old new = EndsSettingUp root_framing Start SetsUpRoot piece_size old new
EndsNodeSettingUp (Device child) old new = EndsSettingUp device_framing (stream_start child) SetsUpDevice piece_size old new
